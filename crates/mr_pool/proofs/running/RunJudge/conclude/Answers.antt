use Rattle.std.proofs.Common.{◌≡◌, Bool, ap, sym, ◌∙◌, subst}
use Rattle.std.specs.Prelude.{IsTrue}
use Rattle.mr_core.specs.declared.event.Shape.{Shape}
use Rattle.mr_book.specs.Calls.{has_damage}
use Rattle.mr_pool.specs.Accounts.{accounts}
use Rattle.mr_pool.specs.Outcomes.{IsHistory}
use Rattle.mr_pool.proofs.Closed.{is_history}
use Rattle.mr_pool.proofs.Endings.{failed_is}
use Rattle.mr_pool.proofs.running.RunJudge.conclude.Goals as goal

pub returns-in-Failed-clause-fault : goal.returns-in-Failed-clause-fault
returns-in-Failed-clause-fault g c =
    let b = c.args.book in
    let h = c.close-in-Failed.result in
    let e = c.close-in-Failed.ensures in
    let same : b.shape ≡ c.args.self.now.spec.shape = sym c.shape.ensures.shape ∙ c.is_opened.ensures.0 c.if-not-is_opened.false in
    let told = failed_is c.args.self.now.spec.script.now c.has_damage.result c.args.self.now.steady c.args.self.now.spec.shape.workers c.end.result c.in-Failed.fault (sym c.ending_by.ensures ∙ c.in-Failed.is) in
    record {
      state = b.state;
      history = subst (λ (s : Shape). IsHistory s h b.state) same (is_history b h e.shape e.entries e.maps e.reduces e.kept e.promises);
      ends = sym c.end.ensures ∙ told.0;
      accounted = subst (λ (d : Bool). IsTrue (accounts c.args.self.now.spec.script.now d c.args.self.now.steady c.args.self.now.spec.shape.workers c.in-Failed.fault)) (c.has_damage.ensures ∙ ap has_damage (sym e.entries)) told.1;
    }
