use Rattle.std.proofs.Common.{◌≡◌, true, false, ap, sym, ◌∙◌, subst}
use Rattle.std.specs.Prelude.{MatchOption}
use Rattle.std.specs.List.{list_any}
use Rattle.mr_core.specs.Master.{State, has_live, tasks, is_task}
use Rattle.mr_core.specs.Queries.{is_lone}
use Rattle.mr_core.proofs.TaskSearch.{none_for_busy}
use Rattle.mr_core.proofs.Asks.{backup_given, busy_is}
use Rattle.mr_core.proofs.tables.MasterState.task_for.Goals as goal

pub returns-then-is_some-clause-found : goal.returns-then-is_some-clause-found
returns-then-is_some-clause-found c =
    let busy : has_live c.args.self.now c.args.worker ≡ true = sym (c.is_some.ensures ∙ busy_is c.self.inside.attempts.items c.args.worker c.current.result c.current.ensures.current ∙ ap (λ (v : State). has_live v c.args.worker) c.self.view_is) ∙ c.if-is_some.true in
    none_for_busy c.args.shape c.args.self.now c.args.worker busy

pub returns-clause-found : goal.returns-clause-found
returns-clause-found c =
    let free : has_live c.args.self.now c.args.worker ≡ false = sym (c.is_some.ensures ∙ busy_is c.self.inside.attempts.items c.args.worker c.current.result c.current.ensures.current ∙ ap (λ (v : State). has_live v c.args.worker) c.self.view_is) ∙ c.if-is_some.false in
    backup_given c.args.shape c.args.self.now c.args.worker c.find_lone.result
    (subst (λ (v : State). MatchOption c.find_lone.result (list_any (is_lone c.args.shape v) (tasks c.args.shape) ≡ false) (λ t. (is_lone c.args.shape v t ≡ true) × (is_task c.args.shape t ≡ true))) c.find_newly.ensures.same c.find_lone.ensures)
    free c.in_default.ensures.found
