-- The records of an input, each with its name: its split, and its number there (OSDI 2004, section 3.1).
use Rattle.std.specs.Prelude.{ℕ, ◌+◌, ◌/◌, ◌==◌, Bool, ◌&&◌, if◌then◌else◌, List, [], ◌∷◌, ◌++◌, filter}
use Rattle.std.specs.List.{list_any}
use Rattle.mr_bytes.specs.declared.RecordName.{RecordName}
use Rattle.mr_records.specs.Records.{Record, records}
use Rattle.mr_input.specs.Files.{split_count}

-- a record with its name, the number of its file, and its start there
pub record NamedRecord : Type 0 where
  pub name : RecordName
  pub file : ℕ
  pub start : ℕ
  pub bytes : List ℕ

-- the records of one file, which begins at the split `first`: each belongs to the split that has its start, and is
-- numbered there from 0; `next` is the number after the record before, which belongs to `split`
unfoldable pub named_from : ℕ → ℕ → ℕ → ℕ → ℕ → List Record → List NamedRecord
named_from size file first split next [] = []
named_from size file first split next (r ∷ rs) =
    let here = first + r.start / size in
    let number = if here == split then next else 0 in
    record { name = record { split = here; rec = number }; file = file; start = r.start; bytes = r.bytes }
    ∷ named_from size file first here (number + 1) rs

-- the records of files, the first of which has the number `file` and begins at the split `first`
unfoldable pub named_files : ℕ → ℕ → ℕ → List (List ℕ) → List NamedRecord
named_files size file first [] = []
named_files size file first (f ∷ fs) =
    named_from size file first first 0 (records f) ++ named_files size (file + 1) (first + split_count size f) fs

-- the records of an input cut into splits of `size` bytes
abbrev pub named_records : ℕ → List (List ℕ) → List NamedRecord
named_records size files = named_files size 0 0 files

-- the records of a split
abbrev pub of_split : ℕ → List NamedRecord → List NamedRecord
of_split s rs = filter (λ r. r.name.split == s) rs

-- the list of left-out records has this one
abbrev pub is_left_out : List RecordName → RecordName → Bool
is_left_out skips name = list_any (λ s. (s.split == name.split) && (s.rec == name.rec)) skips
