use Rattle.std.proofs.Common.{arith, subst, sym}
use Rattle.mr_bytes.specs.Values.{AreOnes}
use Rattle.mr_bytes.proofs.ValueLemmas.{no-places}
use Rattle.mr_bytes.proofs.columns.ValueColumn.push_stored.Goals as goal

pub returns-in_err-push-clause-none : goal.returns-in_err-push-clause-none
returns-in_err-push-clause-none c = λ ones one.
    let v = c.self.inside in
    let none = no-places v.ones v.places v.rest.items c.self.invariant.counted (subst AreOnes (sym c.self.view_is) ones) in
    absurd (grind arith)

pub returns-in_err-push-in-One-2-clause-none : goal.returns-in_err-push-in-One-2-clause-none
returns-in_err-push-in-One-2-clause-none c = λ ones one.
    let v = c.self.inside in
    let none = no-places v.ones v.places v.rest.items c.self.invariant.counted (subst AreOnes (sym c.self.view_is) ones) in
    absurd (grind arith)
