-- Files cut into splits, and their records by name.
use Rattle.std.specs.Prelude.{ℕ, ◌==◌, Bool, ◌&&◌, false, Option, List, [], ◌∷◌, map, replicate, slice_index_or}
use Rattle.std.specs.List.{list_any, find}
use Rattle.mr_bytes.specs.declared.RecordName.{RecordName}
use Rattle.mr_splits.specs.Named.{NamedRecord, named_records, is_left_out}

-- files with the number of bytes that each split has at most
pub record Cut : Type 0 where
  pub size : ℕ
  pub files : List (List ℕ)

-- all records of the files, with their names
abbrev pub records_of : Cut → List NamedRecord
records_of cut = named_records cut.size cut.files

-- the record of the given number, and an empty one past the last
abbrev pub nth_named : List NamedRecord → ℕ → NamedRecord
nth_named rs i = slice_index_or rs i (record { name = record { split = 0; rec = 0 }; file = 0; start = 0; bytes = [] })

abbrev pub has_record_name : RecordName → NamedRecord → Bool
has_record_name name r = (name.split == r.name.split) && (name.rec == r.name.rec)

-- the record of that name
abbrev pub record_named : List NamedRecord → RecordName → Option NamedRecord
record_named rs name = find (has_record_name name) rs

-- whether there is a record of that name
abbrev pub is_record : List NamedRecord → RecordName → Bool
is_record rs name = list_any (has_record_name name) rs

-- for each record, whether the list leaves it out
abbrev pub left_out_flags : List RecordName → List NamedRecord → List Bool
left_out_flags skips rs = map (λ r. is_left_out skips r.name) rs

-- flags of which none is set may be kept as no list at all
abbrev pub flags_of : ℕ → List Bool → List Bool
flags_of count [] = replicate count false
flags_of count (b ∷ bs) = b ∷ bs
