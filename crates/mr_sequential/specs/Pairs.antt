-- Of no public promise: pairs without their names.
use Rattle.std.specs.Prelude.{ℕ, if◌then◌else◌, List, [], map}
use Rattle.mr_bytes.specs.declared.RecordName.{RecordName}
use Rattle.mr_jobs.specs.JobSpec.{JobSpec}
use Rattle.mr_jobs.specs.Emissions.{Emission, emissions}
use Rattle.mr_splits.specs.Named.{NamedRecord, is_left_out}

-- what a record gives, without names
abbrev pub record_pairs : JobSpec → NamedRecord → List Emission
record_pairs job r = emissions job r.file r.start r.bytes

-- the keys of these
abbrev pub record_keys : JobSpec → NamedRecord → List (List ℕ)
record_keys job r = map (λ e. e.0) (emissions job r.file r.start r.bytes)

-- the same, unless it is left out
abbrev pub kept_pairs : JobSpec → List RecordName → NamedRecord → List Emission
kept_pairs job skips r = if is_left_out skips r.name then [] else emissions job r.file r.start r.bytes
