-- All that a job emits over an input, each pair with its name (OSDI 2004, section 2).
use Rattle.std.specs.Prelude.{ℕ, ◌+◌, ◌==◌, Bool, if◌then◌else◌, List, [], ◌∷◌, count_by, length}
use Rattle.std.specs.List.{flat_map}
use Rattle.mr_bytes.specs.declared.RecordName.{RecordName}
use Rattle.mr_bytes.specs.Pairs.{Triple}
use Rattle.mr_jobs.specs.JobSpec.{JobSpec}
use Rattle.mr_jobs.specs.Emissions.{Emission, emissions}
use Rattle.mr_splits.specs.Kept.{kept_records}
use Rattle.mr_splits.specs.Named.{NamedRecord, is_left_out, named_records}

-- the emissions of a record with their places, from `place` on
unfoldable pub placed_from : RecordName → ℕ → List Emission → List Triple
placed_from name place [] = []
placed_from name place (e ∷ es) =
    record { key = e.0; value = e.1; name = record { split = name.split; rec = name.rec; place = place } } ∷ placed_from name (place + 1) es

-- what a record gives, unless it is left out
abbrev pub record_triples : JobSpec → List RecordName → NamedRecord → List Triple
record_triples job skips r =
    if is_left_out skips r.name then [] else placed_from r.name 0 (emissions job r.file r.start r.bytes)

-- all triples of a job over files with splits of this size, in the order of their names; a record that is left out gives
-- nothing, and the others keep their names
abbrev pub emitted : JobSpec → ℕ → List (List ℕ) → List RecordName → List Triple
emitted job size files skips = flat_map (record_triples job skips) (named_records size files)

-- a record gives nothing
abbrev pub gives_nothing : JobSpec → NamedRecord → Bool
gives_nothing job r = length (emissions job r.file r.start r.bytes) == 0

-- how many of the records that aren't left out give nothing
abbrev pub silent_count : JobSpec → ℕ → List (List ℕ) → List RecordName → ℕ
silent_count job size files skips = count_by (gives_nothing job) (kept_records skips (named_records size files))
