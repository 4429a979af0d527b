use Rattle.std.proofs.Common.{◌≡◌, ℕ, List, [], ◌∙◌, length, subst, sym, ap}
use Rattle.std.proofs.lemmas.Bool.{eqb-false}
use Rattle.std.proofs.lemmas.Result.{err_from_is_err_and}
use Rattle.mr_bytes.specs.declared.RecordName.{RecordName}
use Rattle.mr_args.proofs.SkipLists.{IsRead, read_none, read_more, read_fault, read_last_fault, fault_of_list}
use Rattle.mr_args.proofs.request.skips_of.Goals as goal

pub loop-first-init : goal.loop-first-init
loop-first-init c =
    let text = c.args.text.now in
    let some : length c.as_bytes-rest.result.now ≡ 0 → ⊥ = eqb-false (length c.as_bytes-rest.result.now) 0 (sym c.is_empty.ensures ∙ c.if-is_empty.false) in
    let start = read_none text (λ e. some (ap length (c.as_bytes-rest.ensures.value ∙ e))) in
    subst (λ (v : List RecordName). IsRead text c.as_bytes-rest.result.now v) (sym c.new-names.ensures.items)
    (subst (λ (v : List ℕ). IsRead text v []) (sym c.as_bytes-rest.ensures.value) start)

pub loop-first-preserved : goal.loop-first-preserved
loop-first-preserved c =
    let text = c.args.text.now in
    let first = c.in-Some.first.now in
    let behind = c.in-Some.behind.now in
    let (n, s, e) = c.in_ok-add_name.ensures.ok in
    subst (λ (v : List RecordName). IsRead text behind v) (sym e)
    (read_more text c.loop-first.rest.now first behind c.loop-first.names.items n c.loop-first.invariant c.in-Some.ensures.0 c.in-Some.ensures.1 s)

pub returns-in_err-add_name-clause-bad : goal.returns-in_err-add_name-clause-bad
returns-in_err-add_name-clause-bad c =
    let p = err_from_is_err_and c.from_residual.result c.from_residual.ensures.1 in
    rw (p.1, p.2) (fault_of_list c.in_err-add_name.field-0.0 _ _
    (read_fault c.args.text.now c.loop-first.rest.now c.in-Some.first.now c.in-Some.behind.now c.loop-first.names.items c.loop-first.invariant c.in-Some.ensures.0 c.in-Some.ensures.1)
    c.in_err-add_name.ensures.bad)

pub returns-in_err-add_name-2-clause-bad : goal.returns-in_err-add_name-2-clause-bad
returns-in_err-add_name-2-clause-bad c =
    let p = err_from_is_err_and c.from_residual-in_err-add_name-2.result c.from_residual-in_err-add_name-2.ensures.1 in
    rw (p.1, p.2) (fault_of_list c.in_err-add_name-2.field-0.0 _ _
    (read_last_fault c.args.text.now c.loop-first.rest.now c.loop-first.names.items c.loop-first.invariant c.in_default.ensures)
    c.in_err-add_name-2.ensures.bad)
