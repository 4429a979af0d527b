use Rattle.std.proofs.Common.{◌≡◌, ap, ◌∙◌, sym, ℕ, List, take, drop, ◌-◌, arith}
use Rattle.std.proofs.lemmas.List.{take_rest}
use Rattle.mr_jobs.specs.Fields.{behind_blanks, stretch_behind, stretch_of}
use Rattle.mr_jobs.specs.Url.{some_bytes}
use Rattle.mr_jobs.proofs.UrlLemmas.{some-bytes}
use Rattle.mr_jobs.proofs.FieldLemmas.{no-bytes, none_left, some_left, stretch-last, stretch-next, stretch-nil}
use Rattle.mr_jobs.proofs.field.stretch_behind.Goals as goal

pub returns-then-is_empty-clause-value : goal.returns-then-is_empty-clause-value
returns-then-is_empty-clause-value c =
    c.loop-left.invariant.same
    ∙ ap (stretch_behind c.loop-left.left) (none_left c.loop-left.rest.now (sym c.is_empty.ensures ∙ c.if-is_empty.true))
    ∙ stretch-nil c.loop-left.left

pub loop-left-preserved : goal.loop-left-preserved
loop-left-preserved c =
    let rest : List ℕ = c.loop-left.rest.now in
    record {
      short = omega arith;
      same = c.loop-left.invariant.same ∙ stretch-next c.loop-left.left rest (omega arith)
          ∙ ap (λ n. stretch_behind (c.loop-left.left - 1) (behind_blanks (drop n rest))) (sym c.stretch_end.ensures.value)
          ∙ ap (λ (l : List ℕ). stretch_behind (c.loop-left.left - 1) (behind_blanks l)) (sym (take_rest rest c.stretch_end.result))
          ∙ ap (stretch_behind (c.loop-left.left - 1)) (sym c.behind_blanks-rest-in-loop-left.ensures.value);
    }

pub returns-then-is_empty-2-clause-value : goal.returns-then-is_empty-2-clause-value
returns-then-is_empty-2-clause-value c =
    let rest : List ℕ = c.loop-left.rest.now in
    let same : take c.stretch_end-2.result rest ≡ stretch_of rest = ap (λ n. take n rest) c.stretch_end-2.ensures.value in
    c.loop-left.invariant.same ∙ stretch-last c.loop-left.left rest (omega arith)
    ∙ no-bytes (stretch_of rest) (sym same ∙ none_left (take c.stretch_end-2.result rest) (sym c.is_empty-2.ensures ∙ c.if-is_empty-2.true))

pub returns-else-is_empty-2-clause-value : goal.returns-else-is_empty-2-clause-value
returns-else-is_empty-2-clause-value c =
    let rest : List ℕ = c.loop-left.rest.now in
    let field : List ℕ = take c.stretch_end-2.result rest in
    let same : field ≡ stretch_of rest = ap (λ n. take n rest) c.stretch_end-2.ensures.value in
    c.loop-left.invariant.same ∙ stretch-last c.loop-left.left rest (omega arith)
    ∙ ap some_bytes (sym same) ∙ some-bytes field (some_left field (sym c.is_empty-2.ensures ∙ c.if-is_empty-2.false))
