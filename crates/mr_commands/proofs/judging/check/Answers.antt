use Rattle.std.proofs.Common.{inl}
use Rattle.std.specs.Prelude.{option_map}
use Rattle.std.proofs.lemmas.Result.{err_from_is_err_and}
use Rattle.mr_commands.specs.Named.{verdict_file}
use Rattle.mr_commands.proofs.Told.{kept_among, keeps, unkept}
use Rattle.mr_commands.proofs.judging.check.Goals as goal

pub returns-in_err-said-clause-answer : goal.returns-in_err-said-clause-answer
returns-in_err-said-clause-answer g c = rw (err_from_is_err_and c.from_residual.result c.from_residual.ensures.1).1 tt

pub returns-in_err-said-clause-others : goal.returns-in_err-said-clause-others
returns-in_err-said-clause-others g c = λ n b d. ((λ h. h), λ h. h)

pub returns-in_err-said-clause-refused : goal.returns-in_err-said-clause-refused
returns-in_err-said-clause-refused g c =
    let p = err_from_is_err_and c.from_residual.result c.from_residual.ensures.1 in
    rw p.1 (rw p.2 (inl ((λ n b d. ((λ h. h), λ h. h)), c.in_err-said.ensures.refused)))

pub returns-in_err-keep-clause-answer : goal.returns-in_err-keep-clause-answer
returns-in_err-keep-clause-answer g c = rw (err_from_is_err_and c.from_residual-in_err-keep.result c.from_residual-in_err-keep.ensures.1).1 tt

pub returns-in_err-keep-clause-others : goal.returns-in_err-keep-clause-others
returns-in_err-keep-clause-others g c =
    kept_among (g.S.Store.holds c.args.store.now) (g.S.Store.holds c.keep.new.store) (verdict_file c.args.asked.now) (option_map (λ v. v.items) c.in_ok-said.field-0.verdict) c.keep.ensures.others

pub returns-in_err-keep-clause-refused : goal.returns-in_err-keep-clause-refused
returns-in_err-keep-clause-refused g c =
    let p = err_from_is_err_and c.from_residual-in_err-keep.result c.from_residual-in_err-keep.ensures.1 in
    rw p.1 (unkept (g.S.Store.holds c.args.store.now) (g.S.Store.known_as c.args.store.now) c.args.asked.now c.in_ok-said.field-0 c.in_ok-said.ensures.judges (g.S.Store.holds c.keep.new.store)
    (g.S.Store.unreadable c.args.store.now) (g.S.Store.unwritable c.args.store.now) c.in_err-keep.field-0.0 p.0 c.in_err-keep.ensures.refused p.2)

pub returns-clause-answer : goal.returns-clause-answer
returns-clause-answer g c =
    keeps (g.S.Store.holds c.args.store.now) (g.S.Store.known_as c.args.store.now) c.args.asked.now c.in_ok-said.field-0 c.in_ok-said.ensures.judges (g.S.Store.holds c.keep.new.store)
    c.in_ok-keep.ensures.kept c.keep.ensures.others

pub returns-clause-facts : goal.returns-clause-facts
returns-clause-facts g c =
    let j = c.in_ok-said.ensures.judges in
    record {
      files = j.files;
      ends = j.ends;
      answer = j.judgement.answer;
      input = j.input;
      said = j.judgement.said;
      knows = j.judgement.facts;
    }

pub returns-clause-others : goal.returns-clause-others
returns-clause-others g c =
    kept_among (g.S.Store.holds c.args.store.now) (g.S.Store.holds c.keep.new.store) (verdict_file c.args.asked.now) (option_map (λ v. v.items) c.in_ok-said.field-0.verdict) c.keep.ensures.others
