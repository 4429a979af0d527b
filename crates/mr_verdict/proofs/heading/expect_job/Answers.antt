use Rattle.std.proofs.Common.{List, [], ◌∷◌, ◌++◌, length, map, sym, subst}
use Rattle.std.proofs.lemmas.Result.{err_from_is_err_and}
use Rattle.mr_certform.specs.declared.grammar_state.Item.{Item}
use Rattle.mr_certform.specs.declared.grammar_state.Item.TheVariants.{Magic, Job, Flags, LiteralByte, LiteralLength, Parts, SplitSize}
use Rattle.mr_verdict.specs.declared.answers.No.TheVariants.{OtherJob}
use Rattle.mr_verdict.specs.Items.{Met}
use Rattle.mr_verdict.proofs.MetLemmas.{job_is}
use Rattle.mr_verdict.proofs.ItemLemmas.{Failed, failed_front, failed_later, met_behind_came}
use Rattle.mr_verdict.proofs.heading.expect_job.Goals as goal

pub returns-in_err-expect_all-clause-met : goal.returns-in_err-expect_all-clause-met
returns-in_err-expect_all-clause-met g c =
    let o = c.args.request.now in
    let lits = c.literal-literal.result.now in
    let gives = g.I.ItemSource.gives in
    let p = err_from_is_err_and c.from_residual.result c.from_residual.ensures.1 in
    let is_job = job_is o c.job-job.result.now lits c.number.result c.flags.result c.parts.result c.split_size.result c.job-job.ensures.same c.literal-literal.ensures.bytes c.number.ensures c.flags.ensures c.parts.ensures.same c.split_size.ensures.same in
    let front : List Item = Magic ∷ Job c.number.result ∷ Flags c.flags.result ∷ LiteralLength (length lits) ∷ [] in
    let back : List Item = Parts c.parts.result ∷ SplitSize c.split_size.result ∷ [] in
    rw (p.1, p.2) (subst (λ (w : List Item). Failed (gives c.args.items.now) w OtherJob c.in_err-expect_all.field-0.0) (sym is_job) (failed_front (gives c.args.items.now) front (map LiteralByte lits ++ back) OtherJob c.in_err-expect_all.field-0.0 c.in_err-expect_all.ensures.met))

pub returns-in_err-expect_literal-clause-met : goal.returns-in_err-expect_literal-clause-met
returns-in_err-expect_literal-clause-met g c =
    let o = c.args.request.now in
    let lits = c.literal-literal.result.now in
    let gives = g.I.ItemSource.gives in
    let p = err_from_is_err_and c.from_residual-in_err-expect_literal.result c.from_residual-in_err-expect_literal.ensures.1 in
    let is_job = job_is o c.job-job.result.now lits c.number.result c.flags.result c.parts.result c.split_size.result c.job-job.ensures.same c.literal-literal.ensures.bytes c.number.ensures c.flags.ensures c.parts.ensures.same c.split_size.ensures.same in
    let front : List Item = Magic ∷ Job c.number.result ∷ Flags c.flags.result ∷ LiteralLength (length lits) ∷ [] in
    let back : List Item = Parts c.parts.result ∷ SplitSize c.split_size.result ∷ [] in
    let e = c.in_err-expect_literal.field-0.0 in
    rw (p.1, p.2) (subst (λ (w : List Item). Failed (gives c.args.items.now) w OtherJob e) (sym is_job)
    (failed_later (gives c.args.items.now) (gives c.expect_all.new.items) front (map LiteralByte lits ++ back) OtherJob e c.in_ok-expect_all.ensures.met (failed_front (gives c.expect_all.new.items) (map LiteralByte lits) back OtherJob e c.in_err-expect_literal.ensures.met)))

pub returns-clause-met : goal.returns-clause-met
returns-clause-met g c =
    let o = c.args.request.now in
    let lits = c.literal-literal.result.now in
    let gives = g.I.ItemSource.gives in
    let is_job = job_is o c.job-job.result.now lits c.number.result c.flags.result c.parts.result c.split_size.result c.job-job.ensures.same c.literal-literal.ensures.bytes c.number.ensures c.flags.ensures c.parts.ensures.same c.split_size.ensures.same in
    let front : List Item = Magic ∷ Job c.number.result ∷ Flags c.flags.result ∷ LiteralLength (length lits) ∷ [] in
    let back : List Item = Parts c.parts.result ∷ SplitSize c.split_size.result ∷ [] in
    subst (λ (w : List Item). Met (gives c.args.items.now) (gives c.expect_all-2.new.items) w OtherJob c.expect_all-2.result) (sym is_job)
    (met_behind_came (gives c.args.items.now) (gives c.expect_all.new.items) (gives c.expect_all-2.new.items) front (map LiteralByte lits ++ back) OtherJob c.expect_all-2.result c.in_ok-expect_all.ensures.met
    (met_behind_came (gives c.expect_all.new.items) (gives c.expect_literal.new.items) (gives c.expect_all-2.new.items) (map LiteralByte lits) back OtherJob c.expect_all-2.result c.in_ok-expect_literal.ensures.met c.expect_all-2.ensures.met))
