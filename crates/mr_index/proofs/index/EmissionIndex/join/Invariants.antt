use Rattle.std.proofs.Common.{◌≡◌, ◌*◌, ◌≤◌, length, take}
use Rattle.mr_index.specs.Building.{joined}
use Rattle.mr_index.proofs.index.EmissionIndex.join.Given as goal

abbrev pub invariant-loop-part : goal.invariant-loop-part
invariant-loop-part l = record {
  count : l.total ≡ length (joined (take l.part-index l.part-items));
  few : l.total ≤ 4294967296 * l.part-index;
}
