use Rattle.std.proofs.Common.{◌≡◌, Some, slice_get, ap, sym, ◌∙◌, arith}
use Rattle.mr_core.specs.declared.event.Task.TheVariants.{Map as MapTask, Reduce as ReduceTask}
use Rattle.mr_core.specs.Master.{State}
use Rattle.mr_core.proofs.Updates.{live_there}
use Rattle.mr_core.proofs.Tabled.{tabled_ended}
use Rattle.mr_core.proofs.tables.MasterState.finish.Goals as goal

pub invariant_of-self : goal.invariant_of-self
invariant_of-self c =
    let st : State = record { lost = c.self.inside.lost.items; splits = c.self.inside.splits; committed = c.self.inside.committed; attempts = c.self.inside.attempts.items; failures = c.self.inside.failures.items; end = c.self.inside.end } in
    let at : slice_get c.self.inside.attempts.items c.args.attempt ≡ Some c.requires.0 = ap (λ (v : State). slice_get v.attempts c.args.attempt) c.self.view_is ∙ live_there _ c.requires.0 c.requires.1 in
    tabled_ended st c.self.inside.attempts c.end.new.self c.self.inside.next_map c.self.inside.next_part c.self.invariant c.args.attempt c.requires.0 c.min-self-inside.result c.self.inside.next_part c.end.ensures.ended at (omega (arith, c.min-self-inside.ensures)) (omega arith)
    (λ s e. let one : MapTask c.in-Map.split ≡ MapTask s = sym (c.requires.2 ∙ c.in-Map.is) ∙ e in let same : c.in-Map.split ≡ s = cc one in omega (arith, same, c.min-self-inside.ensures))
    (λ p e. let one : MapTask c.in-Map.split ≡ ReduceTask p = sym (c.requires.2 ∙ c.in-Map.is) ∙ e in absurd (cc one))

pub invariant_of-self-in-Reduce : goal.invariant_of-self-in-Reduce
invariant_of-self-in-Reduce c =
    let st : State = record { lost = c.self.inside.lost.items; splits = c.self.inside.splits; committed = c.self.inside.committed; attempts = c.self.inside.attempts.items; failures = c.self.inside.failures.items; end = c.self.inside.end } in
    let at : slice_get c.self.inside.attempts.items c.args.attempt ≡ Some c.requires.0 = ap (λ (v : State). slice_get v.attempts c.args.attempt) c.self.view_is ∙ live_there _ c.requires.0 c.requires.1 in
    tabled_ended st c.self.inside.attempts c.end.new.self c.self.inside.next_map c.self.inside.next_part c.self.invariant c.args.attempt c.requires.0 c.self.inside.next_map c.min-self-inside-in-Reduce.result c.end.ensures.ended at (omega arith) (omega (arith, c.min-self-inside-in-Reduce.ensures))
    (λ s e. let one : ReduceTask c.in-Reduce.partition ≡ MapTask s = sym (c.requires.2 ∙ c.in-Reduce.is) ∙ e in absurd (cc one))
    (λ p e. let one : ReduceTask c.in-Reduce.partition ≡ ReduceTask p = sym (c.requires.2 ∙ c.in-Reduce.is) ∙ e in let same : c.in-Reduce.partition ≡ p = cc one in omega (arith, same, c.min-self-inside-in-Reduce.ensures))
