use Rattle.std.proofs.Common.{◌≡◌, List, ap, ◌∙◌, subst, arith}
use Rattle.std.specs.Prelude.{Ok}
use Rattle.mr_judge.specs.Outputs.{Judges}
use Rattle.mr_bytes.specs.declared.RecordName.{RecordName}
use Rattle.mr_verdict.specs.Steps.{Known, subject}
use Rattle.mr_check.specs.declared.walk.Walked.{Walked}
use Rattle.mr_check.specs.Accepted.{known_behind}
use Rattle.mr_check.specs.Claims.{claims_of}
use Rattle.mr_check.specs.Walk.{HoldsFor, known}
use Rattle.mr_check.proofs.WalkLemmas.{accepted, known_same, passed_all}
use Rattle.mr_check.proofs.accept.accept_parts.Goals as goal

pub returns : goal.returns
returns g c =
    let f = c.args.front.now in
    let here = c.given-given.result in
    let k : Known = known here in
    let w = c.take_some-came.new.self in
    let holds = subst (λ (x : Walked). HoldsFor k (claims_of x.claims)) c.end-walked.ensures c.in_ok-emitted.ensures.right in
    let t = c.in-ToEnd.ensures.takes holds in
    let all = passed_all (subject k) c.at-walk.result.judging w.judging t.0 (c.at-walk.ensures.begins ∙ c.before-began.ensures) t.1.1.1 in
    let told = accepted k t.0 t.1.0 w.judging.named all (c.in_ok-emitted.ensures.pairs ∙ (c.if-emitted-named.false ∙ c.named-named.ensures)) in
    let kept = c.in_ok-ground.ensures.kept ∙ ap (λ (l : List RecordName). record { cut = f.plan; skips = l }) c.deref.ensures.value in
    let same : k ≡ known_behind f = known_same here f c.given-given.ensures.request (c.given-given.ensures.kept ∙ kept) (c.given-given.ensures.outputs ∙ c.in_ok-ground.ensures.outputs) in
    subst (λ (v : Known). Judges (g.I.ItemSource.gives c.args.items.now) (subject v) 0 0 (Ok c.named-named.result)) same
    (t.0, (t.1.0, (t.1.1.0, ((told.0, c.named-named.ensures ∙ told.1), (omega arith, omega arith)))))
