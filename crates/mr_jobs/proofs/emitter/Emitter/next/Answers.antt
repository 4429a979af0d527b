use Rattle.std.proofs.Common.{◌∷◌, suc, All, List, subst, arith}
use Rattle.mr_bytes.specs.declared.Span.{Span}
use Rattle.mr_jobs.specs.Pieces.{IsOf}
use Rattle.mr_jobs.proofs.emitter.Emitter.next.Goals as goal

pub invariant_of-self : goal.invariant_of-self
invariant_of-self c =
    let e = c.self.inside in
    let all : All (IsOf e.text.now) (c.in-Some.word.now ∷ c.in-Some.rest.now) =
    subst (λ (ws : List Span). All (IsOf e.text.now) ws) c.in-Some.ensures.cases.0 c.self.invariant.words in
    record {
      words = λ k d less. all (suc k) d (omega (arith, less));
      within = c.self.invariant.within;
      small = c.self.invariant.small;
    }
