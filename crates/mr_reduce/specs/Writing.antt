-- The text of a group, written while its values come one after another.
use Rattle.std.specs.Prelude.{◌≡◌, ℕ, ◌<◌, ◌^◌, ◌++◌, List, [], ◌∷◌, Option, None, Some, IsTrue, length, decimal, if◌then◌else◌, nat_eq}
use Rattle.mr_bytes.specs.declared.Value.{Value}
use Rattle.mr_bytes.specs.declared.Value.TheVariants.{One, At}
use Rattle.mr_jobs.specs.declared.job.GroupText.{GroupText}
use Rattle.mr_jobs.specs.declared.job.GroupText.TheVariants.{Count, Lines, Files}
use Rattle.mr_jobs.specs.JobSpec.{JobSpec, counts, group_text_of}
use Rattle.mr_reduce.specs.Files.{NeverFalls}
use Rattle.mr_reduce.specs.Text.{place_line, total_line}

-- what a writer writes of which key, the number of the values so far, and the last file among them
pub record Writer : Type 0 where
  pub text : GroupText
  pub key : List ℕ
  pub count : ℕ
  pub last : Option ℕ

-- the last file, after one value more
abbrev pub file_after : Option ℕ → Value → Option ℕ
file_after last One = last
file_after last (At file offset) = Some file

-- the last file, after values
abbrev pub last_file : Option ℕ → List Value → Option ℕ
last_file last [] = last
last_file last (v ∷ vs) = last_file (file_after last v) vs

-- a file, with a comma before it unless it is the first; nothing if it is the last one again
abbrev pub file_text : Option ℕ → ℕ → List ℕ
file_text None file = decimal file
file_text (Some last) file = if nat_eq last file then [] else 44 ∷ decimal file

-- the same, for a value
abbrev pub value_file : Option ℕ → Value → List ℕ
value_file last One = []
value_file last (At file offset) = file_text last file

-- what is written before the first value
abbrev pub opening : GroupText → List ℕ → List ℕ
opening Count key = []
opening Lines key = []
opening Files key = key ++ 9 ∷ []

-- what is written for one value
abbrev pub value_text : GroupText → List ℕ → Option ℕ → Value → List ℕ
value_text Count key last value = []
value_text Lines key last value = place_line key value
value_text Files key last value = value_file last value

-- what is written behind the last value
abbrev pub closing : GroupText → List ℕ → ℕ → List ℕ
closing Count key count = total_line key count
closing Lines key count = []
closing Files key count = 10 ∷ []

-- what is written for values
abbrev pub values_text : GroupText → List ℕ → Option ℕ → List Value → List ℕ
values_text text key last [] = []
values_text text key last (v ∷ vs) = value_text text key last v ++ values_text text key (file_after last v) vs

-- the writer has written the text of a job's key with values, except for its end, behind the text before it
pub record Writes (job : JobSpec) (key : List ℕ) (values : List Value) (before : List ℕ) (w : Writer) (now : List ℕ) : Type 0 where
  pub text : w.text ≡ group_text_of job
  pub key_is : w.key ≡ key
  pub count : length values < 2 ^ 64 → w.count ≡ length values
  pub last : w.last ≡ last_file None values
  pub written : now ≡ before ++ (opening (group_text_of job) key ++ values_text (group_text_of job) key None values)

-- a writer can write the text of these values: their number fits where a job counts, and their files never fall where it lists files
pub record IsWritable (job : JobSpec) (values : List Value) : Type 0 where
  pub few : IsTrue (counts job) → length values < 2 ^ 64
  pub rising : group_text_of job ≡ Files → NeverFalls values
