use Rattle.std.proofs.Common.{◌≡◌, ◌≤◌, length, map, take}
use Rattle.std.specs.List.{AllByRecursion}
use Rattle.mr_task.proofs.output.pair_counts.Given as goal

abbrev pub invariant-loop-g : goal.invariant-loop-g
invariant-loop-g l = record {
  counts : l.counts.items ≡ map (λ g. length g.pairs) (take l.g l.groups);
  some : AllByRecursion (λ n. 1 ≤ n) l.counts.items;
}
