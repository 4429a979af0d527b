-- Left-out records by where they begin, which stays what it is however files are cut.
use Rattle.std.specs.Prelude.{ℕ, ◌+◌, ◌==◌, Bool, ◌&&◌, List, [], ◌∷◌, ◌++◌, map, filter, IsTrue}
use Rattle.std.specs.List.{AllByRecursion, list_any}
use Rattle.mr_bytes.specs.declared.RecordName.{RecordName}
use Rattle.mr_splits.specs.Cut.{is_record}
use Rattle.mr_splits.specs.Named.{NamedRecord, named_records, is_left_out}
use Rattle.mr_shards.specs.Portions.{Portion, Shift, shift_of, shifted_start, whole_of}

-- each record that the list leaves out exists
abbrev pub SkipsExist : ℕ → List (List ℕ) → List RecordName → Type 0
SkipsExist size files skips = AllByRecursion (λ name. IsTrue (is_record (named_records size files) name)) skips

-- the name that a record has where so many splits come before those of its portion
abbrev pub moved_name : ℕ → RecordName → RecordName
moved_name splits name = record { split = splits + name.split; rec = name.rec }

-- where a record begins: the number of its file, and the place there
pub record Spot : Type 0 where
  pub file : ℕ
  pub start : ℕ

abbrev pub spot_of : NamedRecord → Spot
spot_of r = record { file = r.file; start = r.start }

-- a record begins at one of the spots
abbrev pub begins_at : List Spot → NamedRecord → Bool
begins_at spots r = list_any (λ (s : Spot). (s.file == r.file) && (s.start == r.start)) spots

-- the spots of the records that a list of names leaves out, and the names of those that begin at spots
abbrev pub spots_of : ℕ → List (List ℕ) → List RecordName → List Spot
spots_of size files skips = map spot_of (filter (λ (r : NamedRecord). is_left_out skips r.name) (named_records size files))

abbrev pub names_at : ℕ → List (List ℕ) → List Spot → List RecordName
names_at size files spots = map (λ (r : NamedRecord). r.name) (filter (begins_at spots) (named_records size files))

abbrev pub shifted_spot : Shift → Spot → Spot
shifted_spot h s = record { file = h.files + s.file; start = shifted_start h s.file s.start }

-- the spots of the records left out of all portions
abbrev pub left_out_spots : ℕ → List Portion → List Spot
left_out_spots size [] = []
left_out_spots size (s ∷ ss) =
    spots_of size s.files s.skips ++ map (shifted_spot (shift_of s)) (left_out_spots size ss)

-- and the names that those records have in the whole
abbrev pub left_out_of : ℕ → List Portion → List RecordName
left_out_of size portions = names_at size (whole_of portions) (left_out_spots size portions)
