use Rattle.std.proofs.Common.{ap, inl, inr, map, subst, sym, ◌∙◌}
use Rattle.std.specs.Prelude.{IfSome, option_map, string_bytes}
use Rattle.mr_files.specs.Identities.{AreApart}
use Rattle.mr_commands.specs.Named.{named}
use Rattle.mr_commands.specs.OldVerdicts.{IsOldVerdict}
use Rattle.mr_commands.proofs.OldVerdictLemmas.{stood_there}
use Rattle.mr_files.specs.Holding.{Begins}
use Rattle.mr_commands.specs.HistoryLines.{history_text}
use Rattle.std.proofs.lemmas.Result.{err_from_is_err_and}
use Rattle.mr_book.specs.declared.book.History.{History}
use Rattle.mr_commands.specs.Runs.{IsHistoryKept, history_name}
use Rattle.mr_commands.proofs.Kept.{history_alone, history_kept, result_kept, unkept_history, unkept_result, written}
use Rattle.mr_commands.proofs.running.run.Goals as goal

pub returns-in_err-ran-clause-refused : goal.returns-in_err-ran-clause-refused
returns-in_err-ran-clause-refused g c =
    let p = err_from_is_err_and c.from_residual.result c.from_residual.ensures.1 in
    rw p.1 (rw p.2 (inl ((λ n b d. ((λ h. h), (λ h. h))), c.in_err-ran.ensures.refused)))

pub returns-in_err-expect_pairs_made-clause-refused : goal.returns-in_err-expect_pairs_made-clause-refused
returns-in_err-expect_pairs_made-clause-refused g c =
    let p = err_from_is_err_and c.from_residual-in_err-expect_pairs_made.result c.from_residual-in_err-expect_pairs_made.ensures.1 in
    rw p.1 (rw p.2 (inr (inl ((λ n b d. ((λ h. h), (λ h. h))), inl (c.in_ok-ran.ran, c.in_ok-ran.ensures.runs, c.in_err-expect_pairs_made.ensures.refused)))))

pub returns-in_err-keep_history-clause-refused : goal.returns-in_err-keep_history-clause-refused
returns-in_err-keep_history-clause-refused g c =
    let p = err_from_is_err_and c.from_residual-in_err-keep_history.result c.from_residual-in_err-keep_history.ensures.1 in
    let holds = g.S.Store.holds in
    let ran = c.in_ok-ran.ran in
    let begun = subst (λ (h : History). IfSome (history_name c.args.asked.now) (λ own. Begins (holds c.args.store.now) (holds c.keep_history.new.store) own (history_text h))) c.history_of.ensures c.keep_history.ensures.begins in
    let verdict = option_map string_bytes c.in_ok-verdict.verdict in
    rw p.1 (inr (inr (
      ran,
      verdict,
      c.in_ok-ran.ensures.runs,
      c.in_ok-verdict.ensures.found,
      unkept_history (holds c.args.store.now) (holds c.keep_history.new.store) (holds c.keep_history.new.store) (g.S.Store.known_as c.args.store.now) verdict c.args.asked.now
          (g.S.Store.unwritable c.args.store.now) ran c.in_err-keep_history.field-0.0 p.0 (c.keep_history.ensures.others, begun) c.in_err-keep_history.ensures.refused p.2,
    )))

pub returns-in_err-keep_history-clause-others : goal.returns-in_err-keep_history-clause-others
returns-in_err-keep_history-clause-others g c =
    history_alone (g.S.Store.holds c.args.store.now) (g.S.Store.holds c.keep_history.new.store) c.args.asked.now c.keep_history.ensures.others

pub returns-in_err-keep_result-clause-others : goal.returns-in_err-keep_result-clause-others
returns-in_err-keep_result-clause-others g c =
    let holds = g.S.Store.holds in
    let old = holds c.args.store.now in
    let unreadable = g.S.Store.unreadable c.args.store.now in
    let known = g.S.Store.known_as c.args.store.now in
    let out = c.args.asked.now.options.out.now in
    let verdict = option_map (λ s. s.now) c.as_deref.result in
    let there = subst (IsOldVerdict old unreadable known out) (sym c.as_deref.ensures.value) c.in_ok-verdict.ensures.found in
    written old (holds c.keep_history.new.store) (holds c.keep_result.new.store) known verdict c.args.asked.now c.in_ok-ran.ran c.in_ok-ran.ensures.runs (stood_there old unreadable known out verdict there) c.keep_history.ensures.others c.keep_result.ensures.others

pub returns-in_err-keep_result-clause-refused : goal.returns-in_err-keep_result-clause-refused
returns-in_err-keep_result-clause-refused g c =
    let p = err_from_is_err_and c.from_residual-in_err-keep_result.result c.from_residual-in_err-keep_result.ensures.1 in
    let holds = g.S.Store.holds in
    let unwritable = g.S.Store.unwritable in
    let ran = c.in_ok-ran.ran in
    let mid = holds c.keep_history.new.store in
    let kept = subst (λ (h : History). IsHistoryKept mid (history_name c.args.asked.now) h) c.history_of.ensures c.in_ok-keep_history.ensures.kept in
    let old = holds c.args.store.now in
    let unreadable = g.S.Store.unreadable c.args.store.now in
    let known = g.S.Store.known_as c.args.store.now in
    let out = c.args.asked.now.options.out.now in
    let verdict = option_map (λ s. s.now) c.as_deref.result in
    let there = subst (IsOldVerdict old unreadable known out) (sym c.as_deref.ensures.value) c.in_ok-verdict.ensures.found in
    rw p.1 (inr (inr (
      ran,
      verdict,
      c.in_ok-ran.ensures.runs,
      there,
      unkept_result old mid (holds c.keep_result.new.store) known verdict c.args.asked.now
          (unwritable c.args.store.now) (unwritable c.keep_history.new.store) ran c.in_err-keep_result.field-0.0 p.0 c.keep_history.ensures.still c.in_ok-ran.ensures.runs
          c.keep_history.ensures.others kept c.in_err-keep_result.ensures.refused p.2,
    )))

pub returns-clause-done : goal.returns-clause-done
returns-clause-done g c =
    let holds = g.S.Store.holds in
    let old = holds c.args.store.now in
    let mid = holds c.keep_history.new.store in
    let new = holds c.keep_result.new.store in
    let o = c.args.asked.now in
    let ran = c.in_ok-ran.ran in
    let runs = c.in_ok-ran.ensures.runs in
    let unreadable = g.S.Store.unreadable c.args.store.now in
    let known = g.S.Store.known_as c.args.store.now in
    let out = c.args.asked.now.options.out.now in
    let verdict = option_map (λ s. s.now) c.as_deref.result in
    let there = subst (IsOldVerdict old unreadable known out) (sym c.as_deref.ensures.value) c.in_ok-verdict.ensures.found in
    let names = ap (map string_bytes) c.as_slice.ensures.value ∙ c.in_ok-names.ensures in
    let apart = subst (λ v. AreApart known v (named verdict)) names
    (subst (λ v. AreApart known (map string_bytes c.as_slice.result.now) (named v)) (sym c.as_deref.ensures.value) c.in_ok-verdict.ensures.apart) in
    let kept = subst (λ (h : History). IsHistoryKept mid (history_name o) h) c.history_of.ensures c.in_ok-keep_history.ensures.kept in
    record {
      ran = ran;
      runs = runs;
      pairs = c.in_ok-expect_pairs_made.ensures.some;
      told = c.in_ok-said.ensures.told;
      verdict = verdict;
      stood = there;
      apart = apart;
      result = result_kept old mid new known verdict o ran runs c.keep_history.ensures.others c.keep_result.ensures.others c.in_ok-keep_result.ensures.kept;
      history = history_kept old mid new known verdict o ran runs c.keep_result.ensures.others kept;
    }

pub returns-clause-facts : goal.returns-clause-facts
returns-clause-facts g c =
    let (files, input, lengths) = c.in_ok-ran.ensures.inputs in
    record {
      ran = c.in_ok-ran.ran;
      files = files;
      runs = c.in_ok-ran.ensures.runs;
      input = input;
      told = c.in_ok-said.ensures.told;
      knows = c.in_ok-said.ensures.facts files lengths;
      history = c.in_ok-said.ensures.history;
    }

pub returns-clause-others : goal.returns-clause-others
returns-clause-others g c =
    let holds = g.S.Store.holds in
    let old = holds c.args.store.now in
    let unreadable = g.S.Store.unreadable c.args.store.now in
    let known = g.S.Store.known_as c.args.store.now in
    let out = c.args.asked.now.options.out.now in
    let verdict = option_map (λ s. s.now) c.as_deref.result in
    let there = subst (IsOldVerdict old unreadable known out) (sym c.as_deref.ensures.value) c.in_ok-verdict.ensures.found in
    written old (holds c.keep_history.new.store) (holds c.keep_result.new.store) known verdict c.args.asked.now c.in_ok-ran.ran c.in_ok-ran.ensures.runs (stood_there old unreadable known out verdict there) c.keep_history.ensures.others c.keep_result.ensures.others
