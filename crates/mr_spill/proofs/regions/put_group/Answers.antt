use Rattle.std.proofs.Common.{ℕ, ◌++◌, List, ◌∙◌, ap, arith}
use Rattle.std.proofs.lemmas.List.{take_all}
use Rattle.mr_bytes.specs.Pairs.{Triple}
use Rattle.mr_spill.specs.Entries.{under_key}
use Rattle.mr_spill.specs.Groups.{nth_group}
use Rattle.mr_spill.proofs.SealedLemmas.{put-more}
use Rattle.mr_spill.proofs.regions.put_group.Goals as goal

pub loop-i-preserved : goal.loop-i-preserved
loop-i-preserved c =
    put-more c.args.region.now (nth_group c.args.groups.now c.args.g).pairs c.loop-i.region c.push.new.self c.loop-i.i (under_key c.key-key.result.now c.get-value.result)
    (omega (arith, c.loop-i-test.true, c.count-i-end.ensures.count))
    (ap (λ (k : List ℕ). under_key k c.get-value.result) c.key-key.ensures ∙ c.get-value.ensures) c.loop-i.invariant c.in_ok-push.ensures.ok

pub returns : goal.returns
returns c =
    let ts : List Triple = (nth_group c.args.groups.now c.args.g).pairs in
    c.loop-i.invariant ∙ ap (λ (l : List Triple). c.args.region.now ++ l) (take_all c.loop-i.i ts (omega (arith, c.loop-i-test.false, c.count-i-end.ensures.count)))
