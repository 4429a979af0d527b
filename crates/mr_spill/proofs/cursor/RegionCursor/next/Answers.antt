use Rattle.std.proofs.Common.{◌-◌, refl, arith, Some}
use Rattle.mr_spill.specs.declared.cursor.RegionCursor.{RegionCursor}
use Rattle.mr_spill.specs.declared.cursor.RegionPair.{RegionPair}
use Rattle.mr_spill.specs.Cursor.{lent_pair}
use Rattle.mr_spill.proofs.CursorLemmas.{next-of, none-left, not-next}
use Rattle.mr_spill.proofs.cursor.RegionCursor.next.Goals as goal

pub returns-in_err-pair-clause-none : goal.returns-in_err-pair-clause-none
returns-in_err-pair-clause-none c = rw c.from_residual.ensures (refl, none-left c.args.self.now c.in_err-pair.ensures)

pub returns-then-pair-self-clause-none : goal.returns-then-pair-self-clause-none
returns-then-pair-self-clause-none c =
    (refl, not-next c.args.self.now (lent_pair c.in_ok-pair.pair) c.in_ok-pair.rest.now c.in_ok-pair.ensures.0 c.in_ok-pair.ensures.1 (λ own b. c.if-pair-self.true own))

pub returns-in_err-again-clause-none : goal.returns-in_err-again-clause-none
returns-in_err-again-clause-none c =
    rw c.from_residual-in_err-again.ensures (refl, not-next c.args.self.now (lent_pair c.in_ok-pair.pair) c.in_ok-pair.rest.now c.in_ok-pair.ensures.0 c.in_ok-pair.ensures.1 (λ own b. c.in_err-again.ensures b))

pub returns-clause-none : goal.returns-clause-none
returns-clause-none c =
    let p : RegionPair = record c.in_ok-pair.pair { again = c.in_ok-again.again } in
    let new : RegionCursor = record { rest = c.in_ok-pair.rest; split = c.args.self.now.split; left = c.args.self.now.left - 1; last = Some p } in
    next-of p c.args.self.now new refl refl (omega (arith, c.if-self-eq0.false)) c.in_ok-pair.ensures.0 c.in_ok-pair.ensures.1 c.if-pair-self.false c.in_ok-again.ensures.0
