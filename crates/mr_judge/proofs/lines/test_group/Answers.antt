use Rattle.std.proofs.Common.{◌≡◌, ◌<◌, ◌+◌, ◌++◌, ◌∷◌, [], List, ℕ, true, refl, ap, sym, ◌∙◌, inl, arith, length, length-append, take, drop}
use Rattle.std.proofs.lemmas.Result.{err_from_is_err_and}
use Rattle.mr_bytes.specs.declared.Value.{Value}
use Rattle.mr_jobs.specs.JobSpec.{JobSpec, counts}
use Rattle.mr_reduce.specs.Text.{text_of}
use Rattle.mr_judge.proofs.LineLemmas.{lines_all, line_told, text_behind, counted_once, one_line}
use Rattle.mr_judge.proofs.lines.test_group.Goals as goal

pub returns-in_err-group_text-clause-told : goal.returns-in_err-group_text-clause-told
returns-in_err-group_text-clause-told g c =
    let p = err_from_is_err_and c.from_residual.result c.from_residual.ensures.1 in
    rw (p.1, p.2) (c.requires.some.0, (c.requires.some.1.0, (c.requires.some.1.1, inl refl)))

pub returns-in_err-test_text-clause-told : goal.returns-in_err-test_text-clause-told
returns-in_err-test_text-clause-told g c =
    let gives = g.O.Outputs.gives in
    let place = g.O.Outputs.place in
    let inv = c.loop-i.invariant in
    let i = c.loop-i.i in
    let job : JobSpec = c.job-job.result.now in
    let key = c.args.key.now in
    let vs : List Value = c.args.values.now in
    let inside : i < length vs = omega (arith, c.loop-i-test.true, c.len-i-end.ensures) in
    let line : c.as_slice.result.now ≡ text_of job key (c.get.result ∷ []) =
    c.as_slice.ensures.value ∙ (c.in_ok-group_text.ensures.ok ∙ ap (λ (w : List ℕ). w ++ text_of job key (c.get.result ∷ [])) c.clear.ensures.items) in
    let whole : text_of c.args.request.now.job key vs ≡ text_of job key (take i vs) ++ (c.as_slice.result.now ++ text_of job key (drop (i + 1) vs)) =
    ap (λ (j : JobSpec). text_of j key vs) (sym c.job-job.ensures.same) ∙ lines_all job key vs i c.get.result (sym c.if-has_lines.ensures) inside c.get.ensures
    ∙ ap (λ l. text_of job key (take i vs) ++ (l ++ text_of job key (drop (i + 1) vs))) (sym line) in
    let p = err_from_is_err_and c.from_residual-in_err-test_text.result c.from_residual-in_err-test_text.ensures.1 in
    rw (p.1, p.2) (line_told (gives c.args.outputs.now) (gives c.loop-i.outputs) (gives c.test_text.new.outputs) c.args.p (place c.args.outputs.now) (place c.loop-i.outputs)
    (text_of job key (take i vs)) c.as_slice.result.now (text_of job key (drop (i + 1) vs)) (text_of c.args.request.now.job key vs) c.in_err-test_text.field-0.0 inv.stood inv.place whole
    c.in_err-test_text.ensures.told)

-- the text of a key that is counted once
once : (job other : JobSpec) (key : List ℕ) (vs : List Value) (n : ℕ) → other ≡ job → counts other ≡ true → n ≡ length vs → n ≡ 1 → text_of job key vs ≡ key ++ 9 ∷ 49 ∷ 10 ∷ []
once job other key vs n same e long one = counted_once job key vs (ap counts (sym same) ∙ e) (sym long ∙ one) ∙ one_line key

pub returns-in_err-test_text-2-clause-told : goal.returns-in_err-test_text-2-clause-told
returns-in_err-test_text-2-clause-told g c =
    let old = g.O.Outputs.gives c.args.outputs.now in
    let from = g.O.Outputs.place c.args.outputs.now in
    let key : List ℕ = c.args.key.now in
    let vs : List Value = c.args.values.now in
    let job = c.args.request.now.job in
    let text = once job c.job-job.result.now key vs c.len.result c.job-job.ensures.same (sym c.if-counts.ensures) c.len.ensures c.if-len-eq1.true in
    let p = err_from_is_err_and c.from_residual-in_err-test_text-2.result c.from_residual-in_err-test_text-2.ensures.1 in
    rw (p.1, p.2) (line_told old old (g.O.Outputs.gives c.test_text-then-len-eq1.new.outputs) c.args.p from from [] key (9 ∷ 49 ∷ 10 ∷ []) (text_of job key vs) c.in_err-test_text-2.field-0.0
    (λ rest later h. h) (omega arith) text c.in_err-test_text-2.ensures.told)

pub returns-in_err-test_text-3-clause-told : goal.returns-in_err-test_text-3-clause-told
returns-in_err-test_text-3-clause-told g c =
    let gives = g.O.Outputs.gives in
    let place = g.O.Outputs.place in
    let key : List ℕ = c.args.key.now in
    let vs : List Value = c.args.values.now in
    let job = c.args.request.now.job in
    let text = once job c.job-job.result.now key vs c.len.result c.job-job.ensures.same (sym c.if-counts.ensures) c.len.ensures c.if-len-eq1.true in
    let p = err_from_is_err_and c.from_residual-in_err-test_text-3.result c.from_residual-in_err-test_text-3.ensures.1 in
    rw (p.1, p.2) (line_told (gives c.args.outputs.now) (gives c.test_text-then-len-eq1.new.outputs) (gives c.test_text-then-len-eq1-2.new.outputs) c.args.p (place c.args.outputs.now) (place c.test_text-then-len-eq1.new.outputs)
    key (9 ∷ 49 ∷ 10 ∷ []) [] (text_of job key vs) c.in_err-test_text-3.field-0.0
    c.in_ok-test_text-2.ensures.told c.in_ok-test_text-2.ensures.place text c.in_err-test_text-3.ensures.told)

pub returns-then-len-eq1-clause-told : goal.returns-then-len-eq1-clause-told
returns-then-len-eq1-clause-told g c =
    let gives = g.O.Outputs.gives in
    let text = once c.args.request.now.job c.job-job.result.now c.args.key.now c.args.values.now c.len.result c.job-job.ensures.same (sym c.if-counts.ensures) c.len.ensures c.if-len-eq1.true in
    text_behind (gives c.args.outputs.now) (gives c.test_text-then-len-eq1.new.outputs) (gives c.test_text-then-len-eq1-2.new.outputs) c.args.key.now (9 ∷ 49 ∷ 10 ∷ []) (text_of c.args.request.now.job c.args.key.now c.args.values.now)
    c.in_ok-test_text-2.ensures.told text c.in_ok-test_text-3.ensures.told

pub returns-then-len-eq1-clause-place : goal.returns-then-len-eq1-clause-place
returns-then-len-eq1-clause-place g c =
    let key : List ℕ = c.args.key.now in
    let text = once c.args.request.now.job c.job-job.result.now key c.args.values.now c.len.result c.job-job.ensures.same (sym c.if-counts.ensures) c.len.ensures c.if-len-eq1.true in
    omega (arith, c.in_ok-test_text-2.ensures.place, c.in_ok-test_text-3.ensures.place, ap length text ∙ length-append key (9 ∷ 49 ∷ 10 ∷ []))
