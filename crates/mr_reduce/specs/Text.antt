-- The text of a group: what reduce makes of a key with the list of all its values (OSDI 2004, sections 2.1 and 2.3).
use Rattle.std.specs.Prelude.{ℕ, List, [], ◌∷◌, ◌++◌, length, decimal}
use Rattle.std.specs.List.{flat_map}
use Rattle.std.specs.Ordering.{nat_cmp}
use Rattle.mr_bytes.specs.Lists.{sorted}
use Rattle.mr_bytes.specs.declared.Value.{Value}
use Rattle.mr_bytes.specs.declared.Value.TheVariants.{One, At}
use Rattle.mr_jobs.specs.declared.job.GroupText.{GroupText}
use Rattle.mr_jobs.specs.declared.job.GroupText.TheVariants.{Count, Lines, Files}
use Rattle.mr_jobs.specs.JobSpec.{JobSpec, group_text_of}

-- the key, a tab, a number, and a line feed
abbrev pub total_line : List ℕ → ℕ → List ℕ
total_line key total = key ++ 9 ∷ decimal total ++ 10 ∷ []

-- the key, a tab, the file's number, a colon, the place there, and a line feed; a value that has no place gives nothing
abbrev pub place_line : List ℕ → Value → List ℕ
place_line key One = []
place_line key (At file offset) = key ++ 9 ∷ decimal file ++ 58 ∷ decimal offset ++ 10 ∷ []

-- the number of the file of a value that tells a place
abbrev pub file_in : Value → List ℕ
file_in One = []
file_in (At file offset) = file ∷ []

-- the numbers of the files of values, rising, each once
abbrev pub files_of : List Value → List ℕ
files_of values = sorted nat_cmp (flat_map file_in values)

-- numbers, with a comma before each but the first
abbrev pub comma_separated : List ℕ → List ℕ
comma_separated [] = []
comma_separated (n ∷ ns) = decimal n ++ flat_map (λ m. 44 ∷ decimal m) ns

-- the key, a tab, the numbers of the files with commas between them, and a line feed
abbrev pub files_line : List ℕ → List ℕ → List ℕ
files_line key files = key ++ 9 ∷ (comma_separated files ++ 10 ∷ [])

-- the text of a key with its values
abbrev pub text_for : GroupText → List ℕ → List Value → List ℕ
text_for Count key values = total_line key (length values)
text_for Lines key values = flat_map (place_line key) values
text_for Files key values = files_line key (files_of values)

-- the text that a job gives for a key with its values
abbrev pub text_of : JobSpec → List ℕ → List Value → List ℕ
text_of job key values = text_for (group_text_of job) key values
