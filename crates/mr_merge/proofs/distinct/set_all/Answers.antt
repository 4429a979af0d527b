use Rattle.std.proofs.Common.{ℕ, arith, subst}
use Rattle.mr_merge.specs.Distinct.{IsSet}
use Rattle.mr_merge.proofs.BitLemmas.{set-more}
use Rattle.mr_merge.proofs.distinct.set_all.Goals as goal

pub loop-i-preserved : goal.loop-i-preserved
loop-i-preserved c =
    set-more c.args.names.now c.args.grid c.loop-i.words c.set_bit.new.words c.loop-i.i (omega (arith, c.loop-i-test.true)) c.loop-i.invariant
    (subst (IsSet c.set_bit.new.words) c.bit_of.ensures (c.set_bit.ensures.set c.if-not-set_bit.false))
    (subst (λ (b : ℕ). IsSet c.loop-i.words b → ⊥) c.bit_of.ensures (c.set_bit.ensures.fresh c.if-not-set_bit.false))
    c.set_bit.ensures.keeps
