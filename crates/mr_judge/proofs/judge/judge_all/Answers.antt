use Rattle.std.proofs.Common.{◌≡◌, ℕ, List, length, refl, ap, sym, ◌∙◌, subst, inl, arith}
use Rattle.std.specs.Prelude.{Ok, Err}
use Rattle.std.proofs.lemmas.Result.{err_from_is_err_and}
use Rattle.mr_splits.specs.Cut.{Cut, records_of}
use Rattle.mr_splits.specs.Kept.{Choice}
use Rattle.mr_bytes.specs.declared.RecordName.{RecordName}
use Rattle.mr_verdict.specs.Verdict.{Reached, Subject, start, subject_of}
use Rattle.mr_index.proofs.WorkLemmas.{mapped-few}
use Rattle.mr_verdict.specs.Steps.{Ground, subject_with, case_at}
use Rattle.mr_judge.specs.Borders.{behind_entries}
use Rattle.mr_judge.specs.Outputs.{Fits, Judges, AllJudged}
use Rattle.mr_judge.proofs.JudgingLemmas.{at_start, judges_first, start_small}
use Rattle.mr_judge.proofs.GrammarLemmas.{awaits}
use Rattle.mr_judge.proofs.KindLemmas.{in_kind}
use Rattle.mr_judge.specs.Kinds.{InKind}
use Rattle.mr_judge.proofs.VerdictLemmas.{front_listed, known_subject}
use Rattle.mr_judge.proofs.OutputLemmas.{through_as, through_all}
use Rattle.mr_judge.proofs.RestLemmas.{order_behind, header_judged, all_judged, count_judged, listing, skips_judged, parts_begin, pairs_fault, pairs_fine}
use Rattle.mr_judge.proofs.judge.judge_all.Goals as goal

pub returns-in_err-expect_header-clause-judged : goal.returns-in_err-expect_header-clause-judged
returns-in_err-expect_header-clause-judged g c =
    let old = g.I.ItemSource.gives c.args.walker.now in
    let n = c.args.work.now.meter.lookups in
    let e = c.in_err-expect_header.field-0.0 in
    let p = err_from_is_err_and c.from_residual.result c.from_residual.ensures.1 in
    rw (p.1, p.2) (through_all (g.O.Outputs.gives c.args.outputs.now) start (AllJudged old c.args.computation.now.request.now c.args.computation.now.input.now n n (Err e)) c.requires.outputs
    (λ outs. header_judged old c.args.computation.now.request.now c.args.computation.now.input.now outs n e c.in_err-expect_header.ensures.met))

pub expect_count-requires-clause-awaits : goal.expect_count-requires-clause-awaits
expect_count-requires-clause-awaits g c is at there = awaits InKind in_kind c.args.computation.now.request.now.parts is (order_behind (g.I.ItemSource.gives c.args.walker.now) (g.I.ItemSource.gives c.expect_header.new.items) c.args.computation.now.request.now c.args.computation.now.input.now c.requires.front c.in_ok-expect_header.ensures.met is at there)

pub read_skips-requires-clause-front : goal.read_skips-requires-clause-front
read_skips-requires-clause-front g c is at there =
    let t = c.in_ok-listed.ensures.counted is at there in
    front_listed at c.max_skips.result t.0 (record { many = c.in_ok-listed.listed; behind = is }) (awaits InKind in_kind c.args.computation.now.request.now.parts t.0 (order_behind (g.I.ItemSource.gives c.args.walker.now) (g.I.ItemSource.gives c.expect_header.new.items) c.args.computation.now.request.now c.args.computation.now.input.now c.requires.front c.in_ok-expect_header.ensures.met t.0 at t.1.0)) t.1.1

pub check_parts-requires-clause-begins : goal.check_parts-requires-clause-begins
check_parts-requires-clause-begins g c =
    let gives = g.I.ItemSource.gives in
    let skips : List RecordName = c.in_ok-skips.skips.items in
    inl (parts_begin (gives c.expect_header.new.items) (gives c.read_skips.new.items) c.args.computation.now.request.now c.in_ok-plan.plan c.max_skips.result c.in_ok-listed.listed skips (order_behind (g.I.ItemSource.gives c.args.walker.now) (g.I.ItemSource.gives c.expect_header.new.items) c.args.computation.now.request.now c.args.computation.now.input.now c.requires.front c.in_ok-expect_header.ensures.met)
    (listing (gives c.expect_header.new.items) (gives c.expect_count.new.items) (gives c.read_skips.new.items) c.in_ok-plan.plan c.max_skips.result c.in_ok-listed.listed skips c.in_ok-listed.ensures.counted c.in_ok-skips.ensures.listed))

pub check_parts-requires-clause-small : goal.check_parts-requires-clause-small
check_parts-requires-clause-small g c = start_small c.before-2.result c.before-2.ensures

pub check_parts-requires-clause-fits : goal.check_parts-requires-clause-fits
check_parts-requires-clause-fits g c = subst (Fits (g.O.Outputs.gives c.args.outputs.now)) (sym (at_start c.before-2.result c.before-2.ensures)) c.requires.ahead

pub check_parts-requires-clause-place : goal.check_parts-requires-clause-place
check_parts-requires-clause-place g c = c.requires.place ∙ sym (ap (λ (w : Reached). w.from) c.before-2.ensures)

pub returns-in_err-listed-clause-judged : goal.returns-in_err-listed-clause-judged
returns-in_err-listed-clause-judged g c =
    let gives = g.I.ItemSource.gives in
    let ahead = g.O.Outputs.gives c.args.outputs.now in
    let n = c.args.work.now.meter.lookups in
    let e = c.in_err-listed.field-0.0 in
    let p = err_from_is_err_and c.from_residual-in_err-listed.result c.from_residual-in_err-listed.ensures.1 in
    rw (p.1, p.2) (through_all ahead start (AllJudged (gives c.args.walker.now) c.args.computation.now.request.now c.args.computation.now.input.now n n (Err e)) c.requires.outputs
    (λ outs. all_judged (g.I.ItemSource.gives c.args.walker.now) (g.I.ItemSource.gives c.expect_header.new.items) c.args.computation.now.request.now c.args.computation.now.input.now outs n n (Err e) c.in_ok-expect_header.ensures.met (count_judged (gives c.expect_header.new.items) (gives c.expect_count.new.items) c.args.computation.now.request.now c.args.computation.now.input.now outs c.max_skips.result n e c.max_skips.ensures.same c.in_ok-expect_header.ensures.given c.in_err-listed.ensures.counted)))

pub returns-in_err-skips-clause-judged : goal.returns-in_err-skips-clause-judged
returns-in_err-skips-clause-judged g c =
    let gives = g.I.ItemSource.gives in
    let ahead = g.O.Outputs.gives c.args.outputs.now in
    let n = c.args.work.now.meter.lookups in
    let e = c.in_err-skips.field-0.0 in
    let p = err_from_is_err_and c.from_residual-in_err-skips.result c.from_residual-in_err-skips.ensures.1 in
    rw (p.1, p.2) (through_all ahead start (AllJudged (gives c.args.walker.now) c.args.computation.now.request.now c.args.computation.now.input.now n n (Err e)) c.requires.outputs
    (λ outs. all_judged (g.I.ItemSource.gives c.args.walker.now) (g.I.ItemSource.gives c.expect_header.new.items) c.args.computation.now.request.now c.args.computation.now.input.now outs n n (Err e) c.in_ok-expect_header.ensures.met (skips_judged (gives c.expect_header.new.items) (gives c.expect_count.new.items) (gives c.read_skips.new.items) c.args.computation.now.request.now c.args.computation.now.input.now outs c.max_skips.result c.in_ok-listed.listed n c.in_ok-plan.plan e c.max_skips.ensures.same c.in_ok-plan.ensures.plan c.in_ok-listed.ensures.given c.in_ok-listed.ensures.counted c.in_err-skips.ensures.listed)))

pub of_watched-requires : goal.of_watched-requires
of_watched-requires g c =
    omega (
      arith,
      c.requires.count.1,
      c.count-few.ensures.count,
      c.count-few.ensures.few,
      ap (λ (k : Choice). length (records_of k.cut)) c.in_ok-kept.ensures.ok,
      mapped-few c.in_ok-kept.kept.skips (records_of c.in_ok-kept.kept.cut),
    )

pub returns-in_err-index-clause-mapped : goal.returns-in_err-index-clause-mapped
returns-in_err-index-clause-mapped g c =
    let e = c.in_err-index.ensures.err in
    let same = ap (λ (k : Choice). length (records_of k.cut)) c.in_ok-kept.ensures.ok in
    let plan = ap (λ (k : Cut). length (records_of k)) c.in_ok-plan.ensures.plan in
    (e.0, omega (arith, e.1, same, plan, mapped-few c.in_ok-kept.kept.skips (records_of c.in_ok-kept.kept.cut)))

pub returns-in_err-pairs-clause-mapped : goal.returns-in_err-pairs-clause-mapped
returns-in_err-pairs-clause-mapped g c =
    let m = c.check_parts.ensures.mapped in
    let o = c.in_ok-index.ensures.counted in
    let same = ap (λ (k : Choice). length (records_of k.cut)) c.in_ok-kept.ensures.ok in
    let plan = ap (λ (k : Cut). length (records_of k)) c.in_ok-plan.ensures.plan in
    (omega (arith, m, o), omega (arith, m, o, same, plan, mapped-few c.in_ok-kept.kept.skips (records_of c.in_ok-kept.kept.cut)))

pub returns-clause-mapped : goal.returns-clause-mapped
returns-clause-mapped g c =
    let m = c.check_parts.ensures.mapped in
    let o = c.in_ok-index.ensures.counted in
    let same = ap (λ (k : Choice). length (records_of k.cut)) c.in_ok-kept.ensures.ok in
    let plan = ap (λ (k : Cut). length (records_of k)) c.in_ok-plan.ensures.plan in
    (omega (arith, m, o), omega (arith, m, o, same, plan, mapped-few c.in_ok-kept.kept.skips (records_of c.in_ok-kept.kept.cut)))

pub returns-in_err-pairs-clause-judged : goal.returns-in_err-pairs-clause-judged
returns-in_err-pairs-clause-judged g c =
    let gives = g.I.ItemSource.gives in
    let old = gives c.expect_header.new.items in
    let next = gives c.read_skips.new.items in
    let ahead = g.O.Outputs.gives c.args.outputs.now in
    let n = c.args.work.now.meter.lookups in
    let k = c.of_watched.new.meter.lookups in
    let m = c.check_parts.new.work.meter.lookups in
    let o = c.args.computation.now.request.now in
    let b : Ground = record { request = o; triples = c.in_ok-index.index } in
    let files = c.args.computation.now.input.now in
    let cut : Cut = c.in_ok-kept.kept.cut in
    let others : List (List ℕ) = cut.files in
    let same : others ≡ files = ap (λ (w : Choice). w.cut.files) c.in_ok-kept.ensures.ok ∙ ap (λ (w : Cut). w.files) c.in_ok-plan.ensures.plan in
    let size : cut.size ≡ o.split = ap (λ (w : Choice). w.cut.size) c.in_ok-kept.ensures.ok ∙ ap (λ (w : Cut). w.size) c.in_ok-plan.ensures.plan in
    let skips : List RecordName = c.in_ok-skips.skips.items in
    let left : c.in_ok-kept.kept.skips ≡ skips = ap (λ (w : Choice). w.skips) c.in_ok-kept.ensures.ok ∙ c.deref.ensures.value in
    let e = c.in_err-pairs.field-0.0 in
    let p = err_from_is_err_and c.from_residual-in_err-pairs.result c.from_residual-in_err-pairs.ensures.1 in
    let back = listing old (gives c.expect_count.new.items) next c.in_ok-plan.plan c.max_skips.result c.in_ok-listed.listed skips c.in_ok-listed.ensures.counted c.in_ok-skips.ensures.listed in
    rw (p.1, p.2) (through_as ahead start (λ outs. Judges next (subject_with b outs) k m (Err e)) (AllJudged (gives c.args.walker.now) o files n m (Err e)) (judges_first ahead next b (behind_entries c.before-2.result 0) k m (Err e) (at_start c.before-2.result c.before-2.ensures) c.in_err-pairs.ensures.judged)
    (λ outs j. (let known = known_subject (case_at o others outs 0) c.in_ok-kept.kept.skips c.job.result.now cut c.in_ok-index.index c.job.ensures.same size refl c.in_ok-index.ensures.ok in
    all_judged (gives c.args.walker.now) old o files outs n m (Err e) c.in_ok-expect_header.ensures.met
    (pairs_fault old next o files others outs c.max_skips.result c.in_ok-listed.listed n m c.in_ok-plan.plan skips e c.max_skips.ensures.same c.in_ok-plan.ensures.plan same (order_behind (g.I.ItemSource.gives c.args.walker.now) (g.I.ItemSource.gives c.expect_header.new.items) c.args.computation.now.request.now c.args.computation.now.input.now c.requires.front c.in_ok-expect_header.ensures.met) back
    (subst (λ (ss : List RecordName). Judges next (subject_of (case_at o others outs 0) ss) n m (Err e)) left
    (subst (λ (i : ℕ). Judges next (subject_of (case_at o others outs 0) c.in_ok-kept.kept.skips) i m (Err e)) c.of_watched.ensures.lookups
    (subst (λ (s : Subject). Judges next s k m (Err e)) known j)))))))

pub returns-clause-judged : goal.returns-clause-judged
returns-clause-judged g c =
    let gives = g.I.ItemSource.gives in
    let old = gives c.expect_header.new.items in
    let next = gives c.read_skips.new.items in
    let ahead = g.O.Outputs.gives c.args.outputs.now in
    let n = c.args.work.now.meter.lookups in
    let k = c.of_watched.new.meter.lookups in
    let m = c.check_parts.new.work.meter.lookups in
    let o = c.args.computation.now.request.now in
    let b : Ground = record { request = o; triples = c.in_ok-index.index } in
    let files = c.args.computation.now.input.now in
    let cut : Cut = c.in_ok-kept.kept.cut in
    let others : List (List ℕ) = cut.files in
    let same : others ≡ files = ap (λ (w : Choice). w.cut.files) c.in_ok-kept.ensures.ok ∙ ap (λ (w : Cut). w.files) c.in_ok-plan.ensures.plan in
    let size : cut.size ≡ o.split = ap (λ (w : Choice). w.cut.size) c.in_ok-kept.ensures.ok ∙ ap (λ (w : Cut). w.size) c.in_ok-plan.ensures.plan in
    let skips : List RecordName = c.in_ok-skips.skips.items in
    let left : c.in_ok-kept.kept.skips ≡ skips = ap (λ (w : Choice). w.skips) c.in_ok-kept.ensures.ok ∙ c.deref.ensures.value in
    let back = listing old (gives c.expect_count.new.items) next c.in_ok-plan.plan c.max_skips.result c.in_ok-listed.listed skips c.in_ok-listed.ensures.counted c.in_ok-skips.ensures.listed in
    through_as ahead start (λ outs. Judges next (subject_with b outs) k m (Ok c.in_ok-pairs.pairs)) (AllJudged (gives c.args.walker.now) o files n m (Ok (record { skips = c.in_ok-skips.skips; pairs = c.in_ok-pairs.pairs }))) (judges_first ahead next b (behind_entries c.before-2.result 0) k m (Ok c.in_ok-pairs.pairs) (at_start c.before-2.result c.before-2.ensures) c.in_ok-pairs.ensures.judged)
    (λ outs j. (let known = known_subject (case_at o others outs 0) c.in_ok-kept.kept.skips c.job.result.now cut c.in_ok-index.index c.job.ensures.same size refl c.in_ok-index.ensures.ok in
    all_judged (gives c.args.walker.now) old o files outs n m (Ok (record { skips = c.in_ok-skips.skips; pairs = c.in_ok-pairs.pairs })) c.in_ok-expect_header.ensures.met
    (pairs_fine old next o files others outs c.max_skips.result c.in_ok-listed.listed n m c.in_ok-plan.plan (record { skips = c.in_ok-skips.skips; pairs = c.in_ok-pairs.pairs }) c.max_skips.ensures.same c.in_ok-plan.ensures.plan same (order_behind (g.I.ItemSource.gives c.args.walker.now) (g.I.ItemSource.gives c.expect_header.new.items) c.args.computation.now.request.now c.args.computation.now.input.now c.requires.front c.in_ok-expect_header.ensures.met) back
    (subst (λ (ss : List RecordName). Judges next (subject_of (case_at o others outs 0) ss) n m (Ok c.in_ok-pairs.pairs)) left
    (subst (λ (i : ℕ). Judges next (subject_of (case_at o others outs 0) c.in_ok-kept.kept.skips) i m (Ok c.in_ok-pairs.pairs)) c.of_watched.ensures.lookups
    (subst (λ (s : Subject). Judges next s k m (Ok c.in_ok-pairs.pairs)) known j))))))
