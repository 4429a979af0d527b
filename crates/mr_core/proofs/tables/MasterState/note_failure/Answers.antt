use Rattle.std.proofs.Common.{◌≡◌, Some, slice_get, refl, ap, ◌∙◌, arith}
use Rattle.std.proofs.lemmas.Result.{err_from_is_err_and}
use Rattle.mr_core.specs.declared.entries.Split.{Split}
use Rattle.mr_core.specs.Master.{State, with_number}
use Rattle.mr_core.proofs.Updates.{live_there}
use Rattle.mr_core.proofs.Tabled.{tabled_failed}
use Rattle.mr_core.proofs.tables.MasterState.note_failure.Goals as goal

pub invariant_of-self-2 : goal.invariant_of-self-2
invariant_of-self-2 c =
    let st : State = record { lost = c.self.inside.lost.items; splits = c.self.inside.splits; committed = c.self.inside.committed; attempts = c.self.inside.attempts.items; failures = c.self.inside.failures.items; end = c.self.inside.end } in
    let at : slice_get c.self.inside.attempts.items c.args.attempt ≡ Some c.requires.0 = ap (λ (v : State). slice_get v.attempts c.args.attempt) c.self.view_is ∙ live_there _ c.requires.0 c.requires.1 in
    tabled_failed st c.self.inside.attempts c.end.new.self c.self.inside.next_map c.self.inside.next_part c.self.invariant c.args.attempt c.requires.0 c.min-self-inside.result c.leave_out.new.self _ c.args.adds (λ (sp : Split). record sp { skips = with_number c.args.number sp.skips }) c.args.split c.end.ensures.ended at c.requires.2 (omega (arith, c.min-self-inside.ensures)) (omega (arith, c.min-self-inside.ensures)) (λ sp. refl) c.in_ok-leave_out.ensures.noted c.in_ok-leave_out.ensures.added

pub returns-in_err-longer-clause-noted : goal.returns-in_err-longer-clause-noted
returns-in_err-longer-clause-noted c =
    let p = err_from_is_err_and c.from_residual.result c.from_residual.ensures.1 in
    rw p.1 tt

pub returns-in_err-longer-clause-added : goal.returns-in_err-longer-clause-added
returns-in_err-longer-clause-added c =
    let p = err_from_is_err_and c.from_residual.result c.from_residual.ensures.1 in
    rw p.1 tt

pub returns-in_err-leave_out-clause-noted : goal.returns-in_err-leave_out-clause-noted
returns-in_err-leave_out-clause-noted c =
    let p = err_from_is_err_and c.from_residual-in_err-leave_out.result c.from_residual-in_err-leave_out.ensures.1 in
    rw p.1 tt

pub returns-in_err-leave_out-clause-added : goal.returns-in_err-leave_out-clause-added
returns-in_err-leave_out-clause-added c =
    let p = err_from_is_err_and c.from_residual-in_err-leave_out.result c.from_residual-in_err-leave_out.ensures.1 in
    rw p.1 tt

pub returns-in_err-leave_out-clause-err : goal.returns-in_err-leave_out-clause-err
returns-in_err-leave_out-clause-err c =
    let p = err_from_is_err_and c.from_residual-in_err-leave_out.result c.from_residual-in_err-leave_out.ensures.1 in
    rw p.1 (rw c.in_err-leave_out.ensures.err c.self.view_is)

pub invariant_of-self : goal.invariant_of-self
invariant_of-self c = rw c.in_err-leave_out.ensures.err c.self.invariant
