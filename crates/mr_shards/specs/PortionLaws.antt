-- What the merge of portions is.
use Rattle.std.specs.Prelude.{◌≡◌, ℕ, ◌<◌, ◌++◌, Bool, true, List, length, map}
use Rattle.mr_bytes.specs.declared.RecordName.{RecordName}
use Rattle.mr_bytes.specs.Lists.{Rises}
use Rattle.mr_bytes.specs.Order.{record_order}
use Rattle.mr_bytes.specs.Pairs.{Triple}
use Rattle.mr_jobs.specs.JobSpec.{JobSpec, RequestSpec}
use Rattle.mr_jobs.specs.Emissions.{Emission}
use Rattle.mr_splits.specs.Named.{named_records}
use Rattle.mr_splits.specs.Cut.{left_out_flags}
use Rattle.mr_sequential.specs.Emitted.{emitted}
use Rattle.mr_sequential.specs.Sequential.{sequential}
use Rattle.mr_shards.specs.Merged.{texts}
use Rattle.mr_shards.specs.Lines.{EndsLine}
use Rattle.mr_shards.specs.Portions.{Portion, Shift, AreCutAtLines, last_file, merged_portions, part_of, put_together, shift_behind, shifted_value, whole_of}
use Rattle.mr_shards.specs.Spots.{SkipsExist, left_out_of, left_out_spots, names_at, spots_of}

-- the pairs of triples, without their names
abbrev pub pairs_of : List Triple → List Emission
pairs_of ts = map (λ (t : Triple). (t.key, t.value)) ts

abbrev pub shifted_pair : Shift → Emission → Emission
shifted_pair s e = (e.0, shifted_value s e.1)

-- what is emitted over the files of two portions, put together: that over the first, and that over the second with its places
-- moved behind it; a record is left out of the whole just where it is left out of its portion
abbrev pub EmittedOfBoth : Type 0
EmittedOfBoth = (job : JobSpec) (size : ℕ) (cut : Bool) (fs gs : List (List ℕ)) (first second whole : List RecordName)
    → (cut ≡ true → EndsLine (last_file fs))
    → left_out_flags whole (named_records size (put_together cut fs gs)) ≡ left_out_flags first (named_records size fs) ++ left_out_flags second (named_records size gs)
    → pairs_of (emitted job size (put_together cut fs gs) whole)
    ≡ pairs_of (emitted job size fs first) ++ map (shifted_pair (shift_behind cut (length fs) (length (last_file fs)))) (pairs_of (emitted job size gs second))

-- an output of the sequential execution is the text of groups
abbrev pub OutputsAreTexts : Type 0
OutputsAreTexts = (request : RequestSpec) (p : ℕ) (s : Portion) → sequential request s.files s.skips p ≡ texts request.job (part_of request p s).groups

-- the text of the merged groups of all portions is the output of the sequential execution over the whole files
abbrev pub MergedIsWhole : Type 0
MergedIsWhole = (request : RequestSpec) (portions : List Portion) (p : ℕ) → 0 < request.split → AreCutAtLines portions
    → texts request.job (merged_portions (map (part_of request p) portions))
    ≡ sequential request (whole_of portions) (left_out_of request.split portions) p

-- names that rise and exist, and the spots of their records, tell each other
abbrev pub NamesBack : Type 0
NamesBack = (size : ℕ) (files : List (List ℕ)) (skips : List RecordName) → 0 < size → Rises record_order skips → SkipsExist size files skips
    → names_at size files (spots_of size files skips) ≡ skips

-- the spots of the records left out of the whole are those of the portions, moved
abbrev pub SpotsBack : Type 0
SpotsBack = (size : ℕ) (portions : List Portion) → 0 < size → AreCutAtLines portions
    → spots_of size (whole_of portions) (left_out_of size portions) ≡ left_out_spots size portions

-- the names of the records left out of the whole rise and exist
abbrev pub NamesStand : Type 0
NamesStand = (size : ℕ) (portions : List Portion) → 0 < size
    → Rises record_order (left_out_of size portions) × SkipsExist size (whole_of portions) (left_out_of size portions)
