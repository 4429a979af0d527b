use Rattle.std.proofs.Common.{◌≡◌, ◌++◌, ◌∙◌, List, subst, sym}
use Rattle.mr_bytes.specs.Pairs.{Triple}
use Rattle.mr_spill.specs.Spelling.{SpellsRegion}
use Rattle.mr_merge.specs.Reduction.{Collected}
use Rattle.mr_merge.proofs.TakingLemmas.{in_turn-more, taken-some}
use Rattle.mr_merge.proofs.reduction.Reduction.take.Goals as goal
use Rattle.mr_merge.proofs.reduction.Reduction.take.Goals.{then-was, else-was}

pub invariant_of-self-2 : goal.invariant_of-self-2
invariant_of-self-2 c = λ now.
    let t = taken-some c.self.inside.partition c.args.region.now c.self.inside.all c.take_region.new.all c.in_ok-in_turn.field-0 c.in-Some.in_turn c.in-Some.is c.in_ok-in_turn.ensures in
    elim c.if-was.branch [
      | then-was w ↦ in_turn-more c.self.inside.partition c.args.region.now c.in-Some.in_turn c.self.inside.all c.take_region.new.all (c.self.invariant w.if-was.true) (sym w.self-is ∙ now) t
      | else-was w ↦ absurd (cc (now, w.self-is, w.if-was.false))
    ]

pub returns-clause-taken : goal.returns-clause-taken
returns-clause-taken c = λ _.
    let t = taken-some c.self.inside.partition c.args.region.now c.self.inside.all c.take_region.new.all c.in_ok-in_turn.field-0 c.in-Some.in_turn c.in-Some.is c.in_ok-in_turn.ensures in
    subst (λ (r : Collected). (ts : List Triple) × SpellsRegion c.args.region.now.bytes c.args.region.now.split r.partition ts × (c.take_region.new.all.pairs ≡ r.pairs ++ ts)) c.self.view_is
    (t.value, t.spelled, t.takes.is)
