use Rattle.std.proofs.Common.{ℕ, ◌+◌, Option, IfSome, sym, ◌∙◌, subst, arith}
use Rattle.std.specs.Prelude.{Ok}
use Rattle.mr_certform.specs.Walking.{items_left, halt}
use Rattle.mr_verdict.specs.Steps.{Known, subject}
use Rattle.mr_check.specs.declared.joining.Joined.{Joined}
use Rattle.mr_check.specs.Sections.{AllPass, AreJudged, HoldTo, IsSection}
use Rattle.mr_check.specs.Walk.{known}
use Rattle.mr_check.proofs.WalkLemmas.{accepted}
use Rattle.mr_check.proofs.threads.Crew.join_tested.Goals as goal

pub returns-then-named-found-clause-right : goal.returns-then-named-found-clause-right
returns-then-named-found-clause-right g c all sections walked =
    let k : Known = known c.args.given.now in
    let j : Joined = c.in_ok-joined.joined in
    let far = c.in_ok-joined.ensures.joined k all sections walked in
    let pass = subst (λ (o : Option ℕ). IfSome o (λ n. HoldTo k (j.walks + 1) c.args.walked.now → AllPass (subject k) (items_left all) n)) c.in-Some.is far.ended
    (λ i d less within. c.in_ok-found.ensures.right i d (omega (arith, less, c.if-joined-found.true)) within) in
    record {
      section = subst (IsSection all) (far.section.section j.section) (sections j.walks j.section far.section.within);
      joined = far.section.joined (λ i d less within. c.in_ok-found.ensures.right i d (omega (arith, less, c.in_ok-joined.ensures.most)) within);
      ended = subst (λ (o : Option ℕ). IfSome o (λ n. AreJudged k all (Ok n))) (sym c.in-Some.is) (accepted k (items_left all) (halt all) c.in-Some.named pass (c.in_ok-found.ensures.pairs ∙ sym c.if-named-found.true));
    }

pub returns-clause-right : goal.returns-clause-right
returns-clause-right g c all sections walked =
    let k : Known = known c.args.given.now in
    let j : Joined = c.in_ok-joined.joined in
    let came = (c.in_ok-joined.ensures.joined k all sections walked).section in
    record {
      section = subst (IsSection all) (came.section j.section) (sections j.walks j.section came.within);
      joined = came.joined (λ i d less within. c.in_ok-found.ensures.right i d (omega (arith, less, c.in_ok-joined.ensures.most)) within);
      ended = tt;
    }
