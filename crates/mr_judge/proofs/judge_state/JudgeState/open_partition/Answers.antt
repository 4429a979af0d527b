use Rattle.std.proofs.Common.{subst, ap, Err}
use Rattle.mr_verdict.specs.Verdict.{Reached}
use Rattle.mr_judge.specs.Outputs.{EndTold}
use Rattle.std.proofs.lemmas.Result.{err_from_is_err_and}
use Rattle.mr_judge.proofs.OutputLemmas.{open_fault, open_fine, opened_at}
use Rattle.mr_judge.proofs.judge_state.JudgeState.open_partition.Goals as goal

pub returns-in_err-test_end-clause-tested : goal.returns-in_err-test_end-clause-tested
returns-in_err-test_end-clause-tested g c =
    let gives = g.O.Outputs.gives in
    let p = err_from_is_err_and c.from_residual.result c.from_residual.ensures.1 in
    let told = subst (λ n. EndTold (gives c.open_next.new.self) (gives c.test_end.new.outputs) n c.args.groups (g.O.Outputs.place c.open_next.new.self) (Err c.in_err-test_end.field-0.0)) (ap (λ (w : Reached). w.next) c.self.view_is) c.in_err-test_end.ensures.told in
    rw (p.1, p.2) (open_fault (gives c.args.outputs.now) (gives c.open_next.new.self) (gives c.test_end.new.outputs) c.args.self.now c.args.self.now c.args.groups (g.O.Outputs.place c.open_next.new.self) (λ outs. opened_at c.args.self.now c.args.groups) c.in_err-test_end.field-0.0 c.open_next.ensures.opens c.open_next.ensures.place told)

pub returns-clause-tested : goal.returns-clause-tested
returns-clause-tested g c =
    let gives = g.O.Outputs.gives in
    open_fine (gives c.args.outputs.now) (gives c.open_next.new.self) (gives c.test_end.new.outputs) c.args.self.now _ c.args.groups (g.O.Outputs.place c.open_next.new.self) c.in_ok-test_end.field-0 c.open_next.ensures.opens c.in_ok-test_end.ensures.told (ap (λ (w : Reached). opened_at w c.args.groups) c.self.view_is)
