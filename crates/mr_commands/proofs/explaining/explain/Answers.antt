use Rattle.std.proofs.Common.{◌≡◌, [], refl, rules, true}
use Rattle.std.proofs.lemmas.Result.{IfOk-weaker}
use Rattle.mr_explain.specs.declared.query.Query.{Query}
use Rattle.mr_commands.proofs.SiftedLemmas.{explained_sifted, known_sifted}
use Rattle.mr_commands.specs.Explains.{AnswersExplain}
use Rattle.mr_commands.specs.Facts.{AreExplainFacts}
use Rattle.mr_commands.proofs.explaining.explain.Goals as goal

pub returns-clause-answers : goal.returns-clause-answers
returns-clause-answers g c =
    let holds = g.S.Store.holds c.args.store.now in
    let yes : c.sifts.result ≡ true = search rules in
    let alone = c.sifts.ensures yes in
    let query : Query = record {
      job = c.job.result;
      plan = record { ref_ptr = (0, 0); now = c.in_ok-plan.plan };
      skips = record { ref_ptr = (0, 0); now = [] };
      sources = c.as_slice.result;
      wanted = c.wanted_of-wanted.result;
      limit = c.args.asked.now.limit;
    } in
    let before = g.W.CountedWrite.seen c.args.out.now in
    let after = g.W.CountedWrite.seen c.print_all.new.out in
    IfOk-weaker c.print_all.result _ (λ said. AnswersExplain holds c.args.asked.now before after said.status)
    (λ said h. explained_sifted holds c.args.asked.now c.in_ok-run.run' query alone c.in_ok-run.ensures.run c.job.ensures.same c.in_ok-plan.ensures refl c.as_slice.ensures.value
    c.wanted_of-wanted.ensures refl before after said.status h) c.print_all.ensures.printed

pub returns-clause-facts : goal.returns-clause-facts
returns-clause-facts g c =
    let holds = g.S.Store.holds c.args.store.now in
    let yes : c.sifts.result ≡ true = search rules in
    let alone = c.sifts.ensures yes in
    let query : Query = record {
      job = c.job.result;
      plan = record { ref_ptr = (0, 0); now = c.in_ok-plan.plan };
      skips = record { ref_ptr = (0, 0); now = [] };
      sources = c.as_slice.result;
      wanted = c.wanted_of-wanted.result;
      limit = c.args.asked.now.limit;
    } in
    let run = c.in_ok-run.ensures.run in
    IfOk-weaker c.print_all.result _ (λ said. AreExplainFacts holds c.args.asked.now said.facts)
    (λ said h. known_sifted holds c.args.asked.now c.in_ok-run.run' query alone run c.job.ensures.same c.in_ok-plan.ensures refl c.as_slice.ensures.value c.wanted_of-wanted.ensures refl
    c.in_ok-run.run'.lengths.items said.facts run.lengths h) c.print_all.ensures.counted
