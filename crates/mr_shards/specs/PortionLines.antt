-- What the merge reads from the lines of the outputs of portions.
use Rattle.std.specs.Prelude.{◌≡◌, ℕ, ◌<◌, List, map}
use Rattle.std.specs.List.{AllByRecursion}
use Rattle.mr_jobs.specs.JobSpec.{RequestSpec}
use Rattle.mr_sequential.specs.Sequential.{sequential}
use Rattle.mr_shards.specs.Lines.{groups_in}
use Rattle.mr_shards.specs.Merged.{texts}
use Rattle.mr_shards.specs.Outputs.{IsJudged}
use Rattle.mr_shards.specs.Portions.{AreCutAtLines, Part, Portion, merged_portions, shift_of, whole_of}
use Rattle.mr_shards.specs.Spots.{left_out_of}

-- the groups in the lines of a portion's output
abbrev pub part_read : RequestSpec → ℕ → Portion → Part
part_read request p s = record { shift = shift_of s; groups = groups_in request.job (sequential request s.files s.skips p) }

-- the text of the merged lines of all portions is the output of the sequential execution over the whole files
abbrev pub LinesAreWhole : Type 0
LinesAreWhole = (request : RequestSpec) (portions : List Portion) (p : ℕ) → 0 < request.split → AreCutAtLines portions
    → AllByRecursion (IsJudged request) portions
    → texts request.job (merged_portions (map (part_read request p) portions))
    ≡ sequential request (whole_of portions) (left_out_of request.split portions) p
