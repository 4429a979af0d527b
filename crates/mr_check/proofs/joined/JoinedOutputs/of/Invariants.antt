use Rattle.std.proofs.Common.{◌≡◌, ◌<◌, ℕ, length, take}
use Rattle.std.specs.Prelude.{slice_index}
use Rattle.mr_input.specs.Files.{contents}
use Rattle.mr_check.specs.Joined.{joined}
use Rattle.mr_check.proofs.joined.JoinedOutputs.of.Given as goal

abbrev pub invariant-loop-output : goal.invariant-loop-output
invariant-loop-output l = record {
  count : length l.starts.items ≡ l.output-index;
  places : (p : ℕ) → p < length l.starts.items → slice_index l.starts.items p ≡ length (joined (take p (contents l.outputs)));
  next : l.start ≡ length (joined (take l.output-index (contents l.outputs)));
}
