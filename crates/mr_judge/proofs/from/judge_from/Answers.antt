use Rattle.std.proofs.Common.{◌≡◌, ℕ, List, map, sym, subst, ◌∙◌, arith}
use Rattle.std.proofs.lemmas.Result.{err_from_is_err_and}
use Rattle.mr_judge.specs.From.{IsDevice}
use Rattle.mr_judge.proofs.FromLemmas.{no_memory, other_count, no_read_told, verdict_told}
use Rattle.mr_judge.proofs.from.judge_from.Goals as goal

pub returns-then-outputs-parts-clause-judged : goal.returns-then-outputs-parts-clause-judged
returns-then-outputs-parts-clause-judged g c =
    other_count g.R.CountedRead.remaining c.args.outputs.now c.args.computation.now.request.now c.args.computation.now.input.now (g.C.CountedRead.remaining c.args.certificate.now) c.failures-certificate_failures.ensures.known (λ e. c.if-outputs-parts.true (omega (arith, e, c.parts.ensures.same)))

pub returns-in_err-failures-clause-judged : goal.returns-in_err-failures-clause-judged
returns-in_err-failures-clause-judged g c =
    let p = err_from_is_err_and c.from_residual.result c.from_residual.ensures.1 in
    no_memory c.args.computation.now.request.now c.args.computation.now.input.now (map g.R.CountedRead.remaining c.args.outputs.now) (g.C.CountedRead.remaining c.args.certificate.now) c.from_residual.result p.0 c.failures-certificate_failures.ensures.known p.1 p.2

pub answer_of-requires : goal.answer_of-requires
answer_of-requires g c = no_read_told c.args.computation.now.request.now c.args.computation.now.input.now (map g.R.CountedRead.remaining c.args.outputs.now) (g.C.CountedRead.remaining c.args.certificate.now) c.judge_lent-answer.result c.judge_lent-answer.ensures

pub returns-clause-judged : goal.returns-clause-judged
returns-clause-judged g c =
    verdict_told c.args.computation.now.request.now c.args.computation.now.input.now (map g.R.CountedRead.remaining c.args.outputs.now) (g.C.CountedRead.remaining c.args.certificate.now) c.judge_lent-answer.result c.answer_of.result c.answer_of.ensures.verdict c.judge_lent-answer.ensures

pub returns-clause-device : goal.returns-clause-device
returns-clause-device g c =
    let was : List ℕ = map g.R.CountedRead.failed c.args.outputs.now in
    let count : ℕ = g.C.CountedRead.failed c.args.certificate.now in
    let outputs : map g.R.CountedRead.failed c.judge_lent-answer.new.outputs ≡ map g.R.CountedRead.failed c.args.outputs.now = c.in-None.ensures ∙ (c.deref.ensures.value ∙ c.in_ok-failures.ensures) in
    let certificate : g.C.CountedRead.failed c.judge_lent-answer.new.certificate ≡ g.C.CountedRead.failed c.args.certificate.now =
    sym c.failures.ensures.count ∙ (c.if-failures-certificate_failures.false ∙ c.failures-certificate_failures.ensures.count) in
    subst (λ ns. IsDevice was ns count (g.C.CountedRead.failed c.judge_lent-answer.new.certificate) c.answer_of.result) (sym outputs) (subst (λ n. IsDevice was was count n c.answer_of.result) (sym certificate) (c.answer_of.ensures.device was count))
