use Rattle.std.proofs.Common.{◌≡◌, ◌+◌, ◌*◌, ◌≤◌, ◌^◌, drop}
use Rattle.mr_input.specs.Files.{split_total}
use Rattle.mr_input.proofs.splits_of.Given as goal

abbrev pub invariant-loop-i : goal.invariant-loop-i
invariant-loop-i l = record {
  all : l.splits + split_total l.size (drop l.i l.input) ≡ split_total l.size l.input;
  few : l.splits ≤ l.i * 2 ^ 33;
}
