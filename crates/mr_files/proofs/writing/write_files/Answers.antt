use Rattle.std.proofs.Common.{◌≡◌, ◌∷◌, ◌+◌, ◌++◌, ◌<◌, ◌^◌, ℕ, List, [], length, take, get_or, sym, ap, refl, ◌∙◌, subst, arith}
use Rattle.std.proofs.lemmas.Result.{err_from_is_err_and, IfErr-weaker}
use Rattle.mr_input.specs.Files.{contents}
use Rattle.mr_files.specs.Holding.{Holding, ChangesAmong}
use Rattle.mr_files.specs.Names.{part_names, name_of_part, name_of_certificate, result_names}
use Rattle.mr_files.specs.Refusals.{IsUnwritten, IsWriteRefusal}
use Rattle.mr_files.proofs.Stopped.{stopped, stopped_before, stopped_part}
use Rattle.mr_files.proofs.Lists.{parts_none, parts_more, names_more, holding_more, holding_kept, all_parts, among_more, among_result, ok_anyhow}
use Rattle.mr_files.proofs.Digits.{differs_certificate, differs_parts}
use Rattle.mr_files.proofs.writing.write_files.Goals as goal

pub loop-part-init : goal.loop-part-init
loop-part-init g c = record { whole = rw (parts_none c.args.dir.now) tt; others = λ n b d. ((λ h. h), (λ h. h)); still = λ n h. h }

pub returns-in_err-name-clause-others : goal.returns-in_err-name-clause-others
returns-in_err-name-clause-others g c =
    let holds = g.S.Store.holds in
    among_result (holds c.args.store.now) (holds c.loop-part.store) c.args.dir.now c.loop-part.part (length c.args.outputs.now) (omega arith) c.loop-part.invariant.others

pub returns-in_err-write_encoded_file-clause-others : goal.returns-in_err-write_encoded_file-clause-others
returns-in_err-write_encoded_file-clause-others g c =
    let dir = c.args.dir.now in
    let i = c.loop-part.part in
    let holds = g.S.Store.holds in
    among_result (holds c.args.store.now) (holds c.write_encoded_file.new.store) dir (i + 1) (length c.args.outputs.now) (omega arith)
    (subst (ChangesAmong (holds c.args.store.now) (holds c.write_encoded_file.new.store)) (sym (parts_more dir i))
    (among_more (holds c.args.store.now) (holds c.loop-part.store) (holds c.write_encoded_file.new.store) (part_names dir i) (name_of_part dir i) c.loop-part.invariant.others (rw c.in_ok-name.ensures at c.in_err-write_encoded_file.ensures.others)))

pub loop-part-preserved : goal.loop-part-preserved
loop-part-preserved g c =
    let dir = c.args.dir.now in
    let i = c.loop-part.part in
    let holds = g.S.Store.holds in
    let new = c.write_encoded_file.new.store in
    let outputs = c.args.outputs.now in
    let text : c.deref.result.now ≡ (get_or outputs i c.index-outputs-part.result).items = c.deref.ensures.value ∙ ap (λ o. o.items) c.index-outputs-part.is in
    let fits : i < 2 ^ 64 = omega arith in
    let kept : Holding (holds new) (part_names dir i) (contents (take i outputs)) =
    holding_kept (holds c.loop-part.store) (holds new) (name_of_part dir i) (part_names dir i) (contents (take i outputs)) (rw c.in_ok-name.ensures at c.in_ok-write_encoded_file.ensures.others) (differs_parts dir i i (omega arith) fits) c.loop-part.invariant.whole in
    record {
      whole = rw (parts_more dir i, names_more (λ o. o.items) outputs i c.index-outputs-part.result c.loop-part-test.true)
          (holding_more (holds new) (part_names dir i) (contents (take i outputs)) (name_of_part dir i) (get_or outputs i c.index-outputs-part.result).items kept (subst (λ (t : List ℕ). holds new (name_of_part dir i) t) text (rw c.in_ok-name.ensures at c.in_ok-write_encoded_file.ensures.whole)));
      others = subst (ChangesAmong (holds c.args.store.now) (holds new)) (sym (parts_more dir i))
          (among_more (holds c.args.store.now) (holds c.loop-part.store) (holds new) (part_names dir i) (name_of_part dir i) c.loop-part.invariant.others (rw c.in_ok-name.ensures at c.in_ok-write_encoded_file.ensures.others));
      still = λ n h. c.loop-part.invariant.still n (c.in_ok-write_encoded_file.ensures.still n h);
    }

pub returns-in_err-write_encoded_file-clause-refused : goal.returns-in_err-write_encoded_file-clause-refused
returns-in_err-write_encoded_file-clause-refused g c =
    let p = err_from_is_err_and c.from_residual-in_err-write_encoded_file.result c.from_residual-in_err-write_encoded_file.ensures.1 in
    let dir = c.args.dir.now in
    let i = c.loop-part.part in
    let holds = g.S.Store.holds in
    let e = c.in_err-write_encoded_file.field-0.0 in
    let mid = c.loop-part.store in
    let new = c.write_encoded_file.new.store in
    let first = g.S.Store.unwritable c.args.store.now in
    let outputs = c.args.outputs.now in
    let text : c.deref.result.now ≡ (get_or outputs i c.index-outputs-part.result).items = c.deref.ensures.value ∙ ap (λ o. o.items) c.index-outputs-part.is in
    let fits : i < 2 ^ 64 = omega arith in
    let part : IsWriteRefusal (holds c.args.store.now) (holds new) first (part_names dir (length outputs)) (contents outputs) e =
    stopped_part (holds c.args.store.now) (holds mid) (holds new) first (g.S.Store.unwritable mid) dir outputs i (length outputs) c.index-outputs-part.result c.deref.result.now e c.loop-part-test.true refl text fits c.loop-part.invariant.whole c.loop-part.invariant.others c.loop-part.invariant.still
    (rw c.in_ok-name.ensures at c.in_err-write_encoded_file.ensures.begins) (rw c.in_ok-name.ensures at c.in_err-write_encoded_file.ensures.others) (rw c.in_ok-name.ensures at c.in_err-write_encoded_file.ensures.refused) in
    rw p.1 (stopped_before (holds c.args.store.now) (holds new) first (part_names dir (length outputs)) (contents outputs) (name_of_certificate dir) (g.C.Encode.text c.args.certificate.now) e p.0 part p.2)

pub returns-in_err-name-2-clause-others : goal.returns-in_err-name-2-clause-others
returns-in_err-name-2-clause-others g c =
    let holds = g.S.Store.holds in
    among_result (holds c.args.store.now) (holds c.loop-part.store) c.args.dir.now c.loop-part.part (length c.args.outputs.now) (omega arith) c.loop-part.invariant.others

pub returns-clause-outputs : goal.returns-clause-outputs
returns-clause-outputs g c =
    let holds = g.S.Store.holds in
    let dir = c.args.dir.now in
    let outputs = c.args.outputs.now in
    let names = part_names dir (length outputs) in
    let new = c.write_encoded_file-2.new.store in
    let mid = c.loop-part.store in
    ok_anyhow c.write_encoded_file-2.result (Holding (holds new) names (contents outputs))
    (holding_kept (holds mid) (holds new) (name_of_certificate dir) names (contents outputs) (rw c.in_ok-name-2.ensures at c.write_encoded_file-2.ensures.others) (differs_certificate dir (length outputs)) (all_parts (holds mid) dir c.loop-part.part outputs (omega (arith, c.loop-part-test.false)) c.loop-part.invariant.whole))

pub returns-clause-others : goal.returns-clause-others
returns-clause-others g c =
    let holds = g.S.Store.holds in
    let dir = c.args.dir.now in
    let n = length c.args.outputs.now in
    let all : c.loop-part.part ≡ n = omega (arith, c.loop-part-test.false) in
    among_more (holds c.args.store.now) (holds c.loop-part.store) (holds c.write_encoded_file-2.new.store) (part_names dir n) (name_of_certificate dir)
    (subst (λ (k : ℕ). ChangesAmong (holds c.args.store.now) (holds c.loop-part.store) (part_names dir k)) all c.loop-part.invariant.others) (rw c.in_ok-name-2.ensures at c.write_encoded_file-2.ensures.others)

pub returns-clause-refused : goal.returns-clause-refused
returns-clause-refused g c =
    let holds = g.S.Store.holds in
    let dir = c.args.dir.now in
    let outputs = c.args.outputs.now in
    let n = length outputs in
    let first = g.S.Store.unwritable c.args.store.now in
    let mid = c.loop-part.store in
    let new = c.write_encoded_file-2.new.store in
    let text = g.C.Encode.text c.args.certificate.now in
    let all : c.loop-part.part ≡ n = omega (arith, c.loop-part-test.false) in
    let others : ChangesAmong (holds c.args.store.now) (holds mid) (part_names dir n) = subst (λ (k : ℕ). ChangesAmong (holds c.args.store.now) (holds mid) (part_names dir k)) all c.loop-part.invariant.others in
    IfErr-weaker c.write_encoded_file-2.result (λ e. IsUnwritten (g.S.Store.unwritable mid) (name_of_certificate dir) e) (λ e. IsWriteRefusal (holds c.args.store.now) (holds new) first (result_names dir n) (contents outputs ++ text ∷ []) e)
    (λ e u. stopped (holds c.args.store.now) (holds mid) (holds new) first (g.S.Store.unwritable mid) (result_names dir n) (part_names dir n) [] (contents outputs ++ text ∷ []) (contents outputs) [] (name_of_certificate dir) text e
    refl refl (differs_certificate dir n) (all_parts (holds mid) dir c.loop-part.part outputs all c.loop-part.invariant.whole) others c.loop-part.invariant.still (rw c.in_ok-name-2.ensures at c.write_encoded_file-2.ensures.begins) (rw c.in_ok-name-2.ensures at c.write_encoded_file-2.ensures.others) u)
    (rw c.in_ok-name-2.ensures at c.write_encoded_file-2.ensures.refused)
