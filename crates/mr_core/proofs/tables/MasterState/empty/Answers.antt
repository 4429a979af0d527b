use Rattle.std.proofs.Common.{List, sym, subst, arith}
use Rattle.mr_core.specs.declared.entries.Split.{Split}
use Rattle.mr_core.specs.Master.{State, without_output}
use Rattle.mr_core.specs.Index.{IsTabled}
use Rattle.mr_core.proofs.Tabled.{tabled_empty}
use Rattle.mr_core.proofs.tables.MasterState.empty.Goals as goal

pub invariant_of-self : goal.invariant_of-self
invariant_of-self c =
    let st : State = record { lost = c.self.inside.lost.items; splits = c.self.inside.splits; committed = c.self.inside.committed; attempts = c.self.inside.attempts.items; failures = c.self.inside.failures.items; end = c.self.inside.end } in
    subst (λ (w : List Split). IsTabled (record st { splits = w }) c.self.inside.attempts c.min-self-inside.result c.self.inside.next_part) (sym c.damage.ensures)
    (tabled_empty st c.self.inside.attempts c.self.inside.next_map c.self.inside.next_part c.self.invariant (without_output c.args.output) c.args.map c.min-self-inside.result (omega (arith, c.min-self-inside.ensures)) (omega (arith, c.min-self-inside.ensures)))
