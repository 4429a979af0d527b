use Rattle.std.proofs.Common.{◌≡◌, ℕ, List, Option, subst}
use Rattle.std.specs.Prelude.{IfSome}
use Rattle.memchr.specs.Find.{FindsNeedle}
use Rattle.mr_jobs.proofs.HitLemmas.{first-exactly}
use Rattle.mr_jobs.proofs.literal_search.find_exactly.Goals as goal

pub returns-in-Some-clause-place : goal.returns-in-Some-clause-place
returns-in-Some-clause-place c =
    let text : List ℕ = c.args.text.now in
    let literal : List ℕ = c.args.literal.now in
    let same : c.in-Some.made ≡ literal = subst (λ (f : Option (List ℕ)). IfSome f (λ x. x ≡ literal)) c.in-Some.is c.requires in
    first-exactly text literal c.find.result (subst (λ (needle : List ℕ). FindsNeedle text needle 0 c.find.result) same c.find.ensures)

pub returns-in-None-clause-place : goal.returns-in-None-clause-place
returns-in-None-clause-place c =
    let text : List ℕ = c.args.text.now in
    let literal : List ℕ = c.args.literal.now in
    first-exactly text literal c.find-place.result (subst (λ (needle : List ℕ). FindsNeedle text needle 0 c.find-place.result) c.new-made.ensures c.find-place.ensures)
