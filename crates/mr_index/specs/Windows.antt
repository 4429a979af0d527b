-- Windows: some records of one split, one after another. Public clauses stand on it.
use Rattle.std.specs.Prelude.{◌≡◌, ℕ, ◌+◌, ◌≤◌, ◌<◌, Some, List, [], ◌∷◌, length, slice_range}
use Rattle.std.specs.List.{flat_map}
use Rattle.mr_bytes.specs.declared.Name.{Name}
use Rattle.mr_bytes.specs.declared.RecordName.{RecordName}
use Rattle.mr_bytes.specs.declared.Value.{Value}
use Rattle.mr_bytes.specs.Pairs.{Triple}
use Rattle.mr_input.specs.Files.{split_total}
use Rattle.mr_jobs.specs.JobSpec.{JobSpec}
use Rattle.mr_jobs.specs.Emissions.{Emission}
use Rattle.mr_splits.specs.Named.{NamedRecord, of_split}
use Rattle.mr_splits.specs.Cut.{Cut, records_of}
use Rattle.mr_splits.specs.Kept.{Choice}
use Rattle.mr_splits.specs.Laws.{joined_splits}
use Rattle.mr_sequential.specs.Emitted.{record_triples}
use Rattle.mr_sequential.specs.Good.{named}
use Rattle.mr_sequential.specs.Pairs.{kept_pairs}
use Rattle.mr_index.specs.declared.window.Window.{Window}

-- the records of a split from one number and before another
abbrev pub window_records : Cut → ℕ → ℕ → ℕ → List NamedRecord
window_records cut split from end = slice_range (of_split split (records_of cut)) from end

-- what a job emits there, without the left-out records
abbrev pub window_triples : JobSpec → Cut → List RecordName → ℕ → ℕ → ℕ → List Triple
window_triples job cut skips split from end = flat_map (record_triples job skips) (window_records cut split from end)

-- what a piece gives: the records from one number in the split and before another, their pairs, and these with their names
pub record PieceView : Type 0 where
  pub split : ℕ
  pub from : ℕ
  pub end : ℕ
  pub pairs : List Emission
  pub triples : List Triple

-- there is a pair of that name, with this key
pub record HasKey (ts : List Triple) (n : Name) (key : List ℕ) : Type 0 where
  pub value : Value
  pub found : named ts n ≡ Some (record { key = key; value = value; name = n })

-- the name of a pair of a piece, whose records are numbered from its first on
abbrev pub name_in : PieceView → ℕ → ℕ → Name
name_in p number place = record { split = p.split; rec = p.from + number; place = place }

-- the piece of a window
abbrev pub piece_of : JobSpec → Choice → ℕ → ℕ → ℕ → PieceView
piece_of job choice split from end = record {
  split = split;
  from = from;
  end = end;
  pairs = flat_map (kept_pairs job choice.skips) (window_records choice.cut split from end);
  triples = window_triples job choice.cut choice.skips split from end;
}

-- the window has records of its split alone
pub record IsWindow (cut : Cut) (w : Window) : Type 0 where
  pub split : w.split < split_total cut.size cut.files
  pub order : w.from ≤ w.end
  pub within : w.end ≤ length (of_split w.split (records_of cut))

-- the number of a split's record among all records
abbrev pub number_of : Cut → ℕ → ℕ → ℕ
number_of cut split rec = length (joined_splits 0 split (records_of cut)) + rec

-- each window begins with the record at which the one before ends, from one number among all records to another
abbrev pub Follow : Cut → ℕ → List Window → ℕ → Type 0
Follow cut at [] last = at ≡ last
Follow cut at (w ∷ ws) last = IsWindow cut w × (number_of cut w.split w.from ≡ at) × Follow cut (number_of cut w.split w.end) ws last

-- the windows go on from the record `r` of the split `s` to the end of all
abbrev pub Tiles : Cut → ℕ → ℕ → List Window → Type 0
Tiles cut s r ws = Follow cut (number_of cut s r) ws (length (records_of cut))
