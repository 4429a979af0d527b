use Rattle.std.proofs.Common.{◌≡◌, take}
use Rattle.mr_shards.specs.Joined.{inputs_of as all_inputs}
use Rattle.mr_shards.proofs.joining.inputs_of.Given as goal

abbrev pub invariant-loop-verdict : goal.invariant-loop-verdict
invariant-loop-verdict l = l.inputs.items ≡ all_inputs (take l.verdict-index l.verdicts)
