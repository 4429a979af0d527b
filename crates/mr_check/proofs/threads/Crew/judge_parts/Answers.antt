use Rattle.std.proofs.Common.{◌≡◌, All, List, refl, ap, sym, ◌∙◌, subst, arith}
use Rattle.mr_certform.specs.Walking.{items_left, halt}
use Rattle.mr_bytes.specs.declared.RecordName.{RecordName}
use Rattle.mr_verdict.specs.Steps.{Known, subject}
use Rattle.mr_verdict.specs.Verdict.{entries_in, part_faults, start}
use Rattle.mr_judge.specs.Outputs.{IsTold}
use Rattle.mr_check.specs.Accepted.{known_behind, stopped}
use Rattle.mr_check.specs.Sections.{AreWalked, IsSection}
use Rattle.mr_check.specs.Walk.{known}
use Rattle.mr_check.specs.declared.section.Section.{Section}
use Rattle.mr_check.specs.declared.walk.Walked.{Walked}
use Rattle.mr_check.proofs.WalkLemmas.{known_same}
use Rattle.mr_check.proofs.SectionLemmas.{parts_told}
use Rattle.mr_check.proofs.threads.Crew.judge_parts.Goals as goal

pub returns : goal.returns
returns g c =
    let all = c.args.walker.now in
    let f = c.args.front.now in
    let here = c.given-given.result in
    let k : Known = known here in
    let sections = subst (All (IsSection all)) (sym c.deref-3.ensures.value) c.in-Ok.ensures in
    let walked = subst (λ (ws : List Walked). AreWalked k c.deref-3.result.now ws) (sym c.deref-4.ensures.value)
    (subst (λ (ss : List Section). AreWalked k ss c.in-Ok-walk_sections.walked.items) (c.deref-2.ensures.value ∙ sym c.deref-3.ensures.value) c.in-Ok-walk_sections.ensures.walked) in
    let kept = c.in_ok-ground.ensures.kept ∙ ap (λ (l : List RecordName). record { cut = f.plan; skips = l }) c.deref.ensures.value in
    let same : k ≡ known_behind f = known_same here f c.given-given.ensures.request (c.given-given.ensures.kept ∙ kept) (c.given-given.ensures.outputs ∙ c.in_ok-ground.ensures.outputs) in
    let told = parts_told k all c.answer.result (c.answer.ensures all (c.in_ok-joined.ensures.right all sections walked)) in
    (items_left all, (halt all, ((refl, refl), (subst (λ (v : Known). IsTold (part_faults (subject v) (halt all) start (items_left all)) (entries_in (items_left all)) (stopped c.answer.result)) same told, (omega arith, omega arith)))))
