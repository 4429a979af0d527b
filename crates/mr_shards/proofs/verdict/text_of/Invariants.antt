use Rattle.std.proofs.Common.{◌≡◌, ◌++◌, take}
use Rattle.std.specs.List.{flat_map}
use Rattle.mr_shards.specs.Verdict.{range_line, request_lines}
use Rattle.mr_shards.proofs.verdict.text_of.Given as goal

abbrev pub invariant-loop-range : goal.invariant-loop-range
invariant-loop-range l = l.out.items ≡ request_lines l.old l.verdict ++ flat_map (range_line l.old) (take l.range-index l.verdict.inputs)
