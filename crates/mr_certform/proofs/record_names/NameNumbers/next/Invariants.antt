use Rattle.std.proofs.Common.{◌≡◌, ◌≤◌, ◌<◌, ◌^◌, length}
use Rattle.mr_certform.specs.Packed.{base_behind}
use Rattle.mr_certform.proofs.Packed.{numbers_left}
use Rattle.mr_certform.proofs.record_names.NameNumbers.next.Given as goal

abbrev pub invariant-loop-self : goal.invariant-loop-self
invariant-loop-self l =
    let n = l.self-inside in
    let o = l.initial.self-inside in
    record {
      numbers : numbers_left n.unit n.base n.next n.end n.counts.now ≡ numbers_left o.unit o.base o.next o.end o.counts.now;
      few : base_behind n.unit n.base n.counts.now < 2 ^ 32;
      low : n.end ≤ n.base;
    }

abbrev pub decreases-loop-self : goal.decreases-loop-self
decreases-loop-self l = length l.self-inside.counts.now
