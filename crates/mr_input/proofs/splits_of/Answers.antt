use Rattle.std.proofs.Common.{◌≡◌, ℕ, ◌+◌, ◌-◌, ◌/◌, ◌≤◌, arith, ap}
use Rattle.mr_input.specs.Files.{split_count, nth_file}
use Rattle.mr_input.proofs.SplitLemmas.{split_total-more, split_total-end, few_splits}
use Rattle.mr_input.proofs.splits_of.Goals as goal

pub loop-i-preserved : goal.loop-i-preserved
loop-i-preserved c =
    let size = c.args.size in
    let fs = c.args.input.now in
    let i = c.loop-i.i in
    let count : ℕ = (c.len.result + size - 1) / size in
    let here : count ≡ split_count size (nth_file fs i) = ap (λ n. (n + size - 1) / size) c.len.ensures.bytes in
    let more = split_total-more size fs i (omega arith) in
    let few : count ≤ c.len.result + size = few_splits size c.len.result in
    record {
      all = omega (arith, here, more, c.loop-i.invariant.all);
      few = omega (arith, few, c.loop-i.invariant.few, c.len.ensures.small, c.ranges.size.fits);
    }

pub returns : goal.returns
returns c =
    let none = split_total-end c.args.size c.args.input.now c.loop-i.i (omega arith) in
    omega (arith, none, c.loop-i.invariant.all)
