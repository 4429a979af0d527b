use Rattle.std.proofs.Common.{◌≡◌, ℕ, List, refl, subst}
use Rattle.std.specs.Prelude.{Result, Ok, Err, Vec}
use Rattle.mr_bytes.specs.declared.RecordName.{RecordName}
use Rattle.mr_input.specs.Files.{contents}
use Rattle.mr_jobs.specs.JobSpec.{RequestSpec}
use Rattle.mr_splits.specs.Cut.{Cut}
use Rattle.mr_index.specs.Index.{triples_of}
use Rattle.mr_certform.specs.declared.grammar_state.Item.{Item}
use Rattle.mr_certform.specs.declared.grammar_state.GrammarState.TheVariants.{AtSkips}
use Rattle.mr_verdict.specs.declared.answers.No.{No}
use Rattle.mr_verdict.specs.declared.items.JudgeError.TheVariants.{Fault}
use Rattle.mr_verdict.specs.Items.{Coming}
use Rattle.mr_verdict.specs.Verdict.{subject_of}
use Rattle.mr_verdict.specs.Steps.{case_at, subject}
use Rattle.mr_judge.specs.Outputs.{Judges, RestJudged}
use Rattle.mr_judge.specs.Kinds.{InKind}
use Rattle.mr_judge.proofs.GrammarLemmas.{awaits}
use Rattle.mr_judge.proofs.KindLemmas.{in_kind}
use Rattle.mr_judge.proofs.VerdictLemmas.{front_listed}
use Rattle.mr_judge.proofs.RestLemmas.{Listing, listing, order_behind, pairs_fault, pairs_fine, all_judged}
use Rattle.mr_check.specs.Accepted.{answer_behind, stopped}
use Rattle.std.specs.Global.{Global}
use Rattle.mr_check.proofs.accept.Front.read.Goals as goal

pub expect_count-requires-clause-awaits : goal.expect_count-requires-clause-awaits
expect_count-requires-clause-awaits g c is at there =
    let gives = g.I.ItemSource.gives in
    let o : RequestSpec = c.args.computation.now.request.now in
    awaits InKind in_kind o.parts is (order_behind (gives c.args.items.now) (gives c.expect_header.new.items) o c.args.computation.now.input.now c.requires.front c.in-Ok.ensures.met is at there)

pub read_skips-requires-clause-front : goal.read_skips-requires-clause-front
read_skips-requires-clause-front g c is at there =
    let gives = g.I.ItemSource.gives in
    let o : RequestSpec = c.args.computation.now.request.now in
    let t = c.in-Ok-expect_count.ensures.counted is at there in
    front_listed at c.max_skips.result t.0 (record { many = c.in-Ok-expect_count.listed; behind = is })
    (awaits InKind in_kind o.parts t.0 (order_behind (gives c.args.items.now) (gives c.expect_header.new.items) o c.args.computation.now.input.now c.requires.front c.in-Ok.ensures.met t.0 at t.1.0)) t.1.1

-- an answer on the partitions is one on all that is judged
parts_judged : (old next : Coming) (o : RequestSpec) (files outs : List (List ℕ)) (most many : ℕ) (cut : Cut) (skips : Vec RecordName Global) (answer : Result ℕ No) → most ≡ o.skips → cut ≡ record { size = o.split; files = files }
    → ((is : List Item) (at : ℕ) → old is at → InKind (AtSkips o.parts) is) → Listing old next cut most many skips.items → Judges next (subject_of (case_at o files outs 0) skips.items) 0 0 (stopped answer)
    → RestJudged old o files 0 0 (answer_behind skips answer) outs
parts_judged old next o files outs most many cut skips (Ok n) m e order back judged =
    pairs_fine old next o files files outs most many 0 0 cut (record { skips = skips; pairs = n }) m e refl order back judged
parts_judged old next o files outs most many cut skips (Err fault) m e order back judged =
    pairs_fault old next o files files outs most many 0 0 cut skips.items (Fault fault) m e refl order back judged

pub returns-clause-judged : goal.returns-clause-judged
returns-clause-judged g c answer judged =
    let gives = g.I.ItemSource.gives in
    let o : RequestSpec = c.args.computation.now.request.now in
    let files = c.args.computation.now.input.now in
    let outs : List (List ℕ) = contents c.args.outputs.now in
    let old = gives c.args.items.now in
    let mid = gives c.expect_header.new.items in
    let next = gives c.read_skips.new.items in
    let skips : List RecordName = c.in-Ok-read_skips.skips.items in
    let cut : Cut = c.in-Ok-plan_of.plan in
    let order = order_behind old mid o files c.requires.front c.in-Ok.ensures.met in
    let back = listing mid (gives c.expect_count.new.items) next cut c.max_skips.result c.in-Ok-expect_count.listed skips c.in-Ok-expect_count.ensures.counted c.in-Ok-read_skips.ensures.listed in
    all_judged old mid o files outs 0 0 (answer_behind c.in-Ok-read_skips.skips answer) c.in-Ok.ensures.met
    (parts_judged mid next o files outs c.max_skips.result c.in-Ok-expect_count.listed cut c.in-Ok-read_skips.skips answer c.max_skips.ensures.same c.in-Ok-plan_of.ensures.plan order back
    (subst (λ (k : Cut). Judges next (subject (record { request = o; triples = triples_of o.job k skips; outputs = outs })) 0 0 (stopped answer)) c.in-Ok-plan_of.ensures.plan judged))
