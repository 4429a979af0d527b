use Rattle.std.proofs.Common.{◌<◌, arith}
use Rattle.mr_shards.proofs.NumberLemmas.{behind-cut, none-begins, number-cut, number-more, number-none, zero-begins}
use Rattle.mr_shards.proofs.numbers.cut_long.Goals as goal
use Rattle.mr_shards.proofs.numbers.cut_long.Goals.{else-at-gt1-via-then-at-gt1+else-text-eq48, else-at-gt1-via-else-at-gt1}

pub loop-next-init : goal.loop-next-init
loop-next-init c = number-none c.args.text.now

pub loop-next-preserved : goal.loop-next-preserved
loop-next-preserved c = number-more c.args.text.now c.loop-next.at c.loop-next.value c.in-Some.next (omega arith) c.loop-next.invariant c.in-Some.ensures

pub returns-then-at-eq0-clause-none : goal.returns-then-at-eq0-clause-none
returns-then-at-eq0-clause-none c = λ e n rest.
    none-begins c.args.text.now c.loop-next.at c.loop-next.value n rest c.if-at-eq0.true c.loop-next.invariant c.in_default.ensures

pub returns-then-text-eq48-clause-none : goal.returns-then-text-eq48-clause-none
returns-then-text-eq48-clause-none c = λ e n rest.
    zero-begins c.args.text.now c.loop-next.at c.loop-next.value n rest c.if-at-gt1.true c.if-text-eq48.true c.loop-next.invariant c.in_default.ensures

pub returns-clause-some : goal.returns-clause-some
returns-clause-some c =
    let some : 0 < c.loop-next.at = omega (arith, c.if-at-eq0.false) in
    behind-cut c.args.text.now c.loop-next.at c.loop-next.value
    (number-cut c.args.text.now c.loop-next.at c.loop-next.value some
    (λ zero. elim c.else-at-gt1.branch [
      | else-at-gt1-via-then-at-gt1+else-text-eq48 w ↦ absurd (w.if-text-eq48.false zero)
      | else-at-gt1-via-else-at-gt1 w ↦ omega (arith, some, w.if-at-gt1.false)
    ])
    c.loop-next.invariant c.in_default.ensures)
