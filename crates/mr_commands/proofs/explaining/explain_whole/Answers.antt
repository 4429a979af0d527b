use Rattle.std.proofs.Common.{◌≡◌, ◌∙◌, ℕ, List, Option, ap, length, map, option_map, refl, subst, sym}
use Rattle.std.proofs.lemmas.Result.{IfOk-weaker}
use Rattle.mr_splits.specs.Cut.{Cut}
use Rattle.mr_explain.specs.declared.query.Query.{Query}
use Rattle.mr_commands.specs.Explains.{AnswersExplain, IsComparedPart, source_told, sources_from}
use Rattle.mr_commands.specs.Facts.{AreExplainFacts}
use Rattle.mr_commands.specs.Named.{input_names, stretch_of}
use Rattle.mr_commands.proofs.ExplainLemmas.{explained, known_so, one_each, query_asked}
use Rattle.mr_commands.proofs.JudgingInputs.{as_many}
use Rattle.mr_commands.proofs.explaining.explain_whole.Goals as goal

pub print_all-requires-clause-one_each : goal.print_all-requires-clause-one_each
print_all-requires-clause-one_each g c =
    let o = c.args.asked.now.options in
    let sources = c.as_slice-2.result.now in
    let told : map source_told sources ≡ sources_from c.in_ok-lines.lines o.from (input_names o) =
    ap (map source_told) c.as_slice-2.ensures.value ∙ c.in_ok-sources.ensures ∙ ap (λ l. sources_from c.in_ok-lines.lines o.from (map (λ s. s.now) l)) c.as_slice.ensures.value in
    one_each sources c.in_ok-lines.lines o.from (input_names o) c.in_ok-plan.plan.files told
    (as_many (g.S.Store.holds c.args.store.now) (stretch_of o) c.in_ok-run.run'.input c.in_ok-run.ensures.input.input.0 c.in_ok-run.ensures.input.input.1.taken ∙ ap (λ (v : Cut). length v.files) (sym c.in_ok-plan.ensures))

pub returns-clause-answers : goal.returns-clause-answers
returns-clause-answers g c =
    let o = c.args.asked.now.options in
    let holds = g.S.Store.holds c.args.store.now in
    let query : Query = record {
      job = c.job.result;
      plan = record { ref_ptr = (0, 0); now = c.in_ok-plan.plan };
      skips = c.as_slice-skips.result;
      sources = c.as_slice-2.result;
      wanted = c.wanted_of.result;
      limit = c.args.asked.now.limit;
    } in
    let told : map source_told c.as_slice-2.result.now ≡ sources_from c.in_ok-lines.lines o.from (input_names o) =
    ap (map source_told) c.as_slice-2.ensures.value ∙ c.in_ok-sources.ensures ∙ ap (λ l. sources_from c.in_ok-lines.lines o.from (map (λ s. s.now) l)) c.as_slice.ensures.value in
    let asked = query_asked holds c.args.asked.now c.in_ok-run.run' query c.in_ok-lines.lines c.in_ok-run.ensures.input c.in_ok-lines.ensures.lines c.job.ensures.same
    (ap (λ (v : Cut). v.size) c.in_ok-plan.ensures ∙ c.split_size.ensures.same) (ap (λ (v : Cut). v.files) c.in_ok-plan.ensures)
    c.as_slice-skips.ensures.value c.in_ok-expect_skips.ensures.good told c.wanted_of.ensures refl in
    let part = option_map (λ p. p.now) c.as_deref.result in
    let compared = subst (λ (p : Option (List ℕ)). IsComparedPart holds c.in_ok-run.run'.request (option_map (λ s. s.now) c.args.asked.now.result) (option_map (λ s. s.now) c.args.asked.now.key) p) (sym c.as_deref.ensures.value) c.in_ok-part.ensures.part in
    let before = g.W.CountedWrite.seen c.args.out.now in
    let after = g.W.CountedWrite.seen c.print_all.new.out in
    IfOk-weaker c.print_all.result _ (λ said. AnswersExplain holds c.args.asked.now before after said.status)
    (λ said h. explained holds c.args.asked.now c.in_ok-run.run' query part before after said.status h asked c.in_ok-run.ensures.input.request compared) c.print_all.ensures.printed

pub returns-clause-facts : goal.returns-clause-facts
returns-clause-facts g c =
    let o = c.args.asked.now.options in
    let holds = g.S.Store.holds c.args.store.now in
    let query : Query = record {
      job = c.job.result;
      plan = record { ref_ptr = (0, 0); now = c.in_ok-plan.plan };
      skips = c.as_slice-skips.result;
      sources = c.as_slice-2.result;
      wanted = c.wanted_of.result;
      limit = c.args.asked.now.limit;
    } in
    let told : map source_told c.as_slice-2.result.now ≡ sources_from c.in_ok-lines.lines o.from (input_names o) =
    ap (map source_told) c.as_slice-2.ensures.value ∙ c.in_ok-sources.ensures ∙ ap (λ l. sources_from c.in_ok-lines.lines o.from (map (λ s. s.now) l)) c.as_slice.ensures.value in
    let asked = query_asked holds c.args.asked.now c.in_ok-run.run' query c.in_ok-lines.lines c.in_ok-run.ensures.input c.in_ok-lines.ensures.lines c.job.ensures.same
    (ap (λ (v : Cut). v.size) c.in_ok-plan.ensures ∙ c.split_size.ensures.same) (ap (λ (v : Cut). v.files) c.in_ok-plan.ensures)
    c.as_slice-skips.ensures.value c.in_ok-expect_skips.ensures.good told c.wanted_of.ensures refl in
    let these = c.in_ok-inputs.ensures ∙ ap (λ (v : Cut). map length v.files) (sym c.in_ok-plan.ensures) in
    IfOk-weaker c.print_all.result _ (λ said. AreExplainFacts holds c.args.asked.now said.facts)
    (λ said h. known_so holds c.args.asked.now query c.in_ok-inputs.inputs.items said.facts asked these h) c.print_all.ensures.counted
