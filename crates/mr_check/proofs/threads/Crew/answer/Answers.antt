use Rattle.std.proofs.Common.{◌≡◌, ℕ, ◌+◌, None, Option, List, MatchResult, IfSome, ap, subst}
use Rattle.std.specs.Prelude.{Ok}
use Rattle.mr_certform.specs.Walking.{items_left, halt}
use Rattle.mr_verdict.specs.Steps.{Answers, Known, subject}
use Rattle.mr_verdict.specs.Verdict.{entries_in, first, part_faults}
use Rattle.mr_judge.specs.Borders.{behind_entries}
use Rattle.mr_index.specs.Index.{triples_of}
use Rattle.mr_check.specs.declared.joining.Joined.{Joined}
use Rattle.mr_check.specs.Sections.{AreJudged}
use Rattle.mr_check.specs.Walk.{known}
use Rattle.mr_check.proofs.SectionLemmas.{judged_behind}
use Rattle.mr_check.proofs.threads.Crew.answer.Goals as goal

pub returns-in-Some : goal.returns-in-Some
returns-in-Some g c all right = subst (λ (o : Option ℕ). IfSome o (λ n. AreJudged (known c.args.given.now) all (Ok n))) c.in-Some.is right.ended

pub returns : goal.returns
returns g c all right =
    let given = c.args.given.now in
    let j : Joined = c.args.joined.now in
    judged_behind (known given) all j.section.walker j.border j.named c.judge_remainder.result right.section.here.stop right.joined
    (subst (λ (v : Known). (let fs = part_faults (subject v) (halt j.section.walker) (behind_entries j.border j.named) (items_left j.section.walker) in
    MatchResult c.judge_remainder.result (λ m. (first fs ≡ None) × (m ≡ j.named + entries_in (items_left j.section.walker))) (Answers fs)))
    (ap (λ (o : List (List ℕ)). record { request = given.request.now; triples = triples_of given.request.now.job given.kept.now.cut given.kept.now.skips; outputs = o }) c.outputs.ensures)
    c.judge_remainder.ensures)
