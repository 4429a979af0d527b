use Rattle.std.proofs.Common.{◌∙◌, [], ◌∷◌, ap, arith, inl, inr, sym}
use Rattle.std.specs.Prelude.{decimal}
use Rattle.mr_shards.specs.Lines.{fields}
use Rattle.mr_shards.proofs.FieldLemmas.{begun-all, begun-comma, begun-end, begun-more}
use Rattle.mr_shards.proofs.LineLemmas.{behind}
use Rattle.mr_shards.proofs.NumberLemmas.{known-none}
use Rattle.mr_shards.proofs.file_numbers.long_number.Goals as goal

pub loop-at-init : goal.loop-at-init
loop-at-init c = (c.requires, known-none c.requires.number (omega (arith, c.requires.small)))

pub returns-then-list-at-eq44-clause-number : goal.returns-then-list-at-eq44-clause-number
returns-then-list-at-eq44-clause-number c =
    let list = c.args.list.now in
    let at = c.loop-at.at in
    let b = c.loop-at.invariant.0 in
    let is = begun-all list b at c.loop-at.number c.loop-at.invariant.1 (inr c.if-list-at-eq44.true) in
    begun-comma list b.number b.more at b.small b.is is.1 c.loop-at-test.true
    ∙ (let same = sym is.0 in let left = ap fields (sym (behind at list)) in λ i. decimal (same i) ∷ left i)

pub overflow_mul-number : goal.overflow_mul-number
overflow_mul-number c =
    let b = c.loop-at.invariant.0 in
    let digit = begun-more c.args.list.now b c.loop-at.at c.loop-at.number c.loop-at-test.true c.if-list-at-eq44.false c.loop-at.invariant.1 in
    omega (arith, digit.low, digit.within, b.small)

pub overflow_sub-list : goal.overflow_sub-list
overflow_sub-list c =
    (begun-more c.args.list.now c.loop-at.invariant.0 c.loop-at.at c.loop-at.number c.loop-at-test.true c.if-list-at-eq44.false c.loop-at.invariant.1).low

pub overflow_add-number : goal.overflow_add-number
overflow_add-number c =
    let b = c.loop-at.invariant.0 in
    let digit = begun-more c.args.list.now b c.loop-at.at c.loop-at.number c.loop-at-test.true c.if-list-at-eq44.false c.loop-at.invariant.1 in
    omega (arith, digit.low, digit.within, b.small, c.from.ensures)

pub loop-at-preserved : goal.loop-at-preserved
loop-at-preserved c =
    let b = c.loop-at.invariant.0 in
    let digit = begun-more c.args.list.now b c.loop-at.at c.loop-at.number c.loop-at-test.true c.if-list-at-eq44.false c.loop-at.invariant.1 in
    (b, digit.on _ (omega (arith, digit.low, c.from.ensures)))

pub returns-clause-number : goal.returns-clause-number
returns-clause-number c =
    let list = c.args.list.now in
    let b = c.loop-at.invariant.0 in
    let is = begun-all list b c.loop-at.at c.loop-at.number c.loop-at.invariant.1 (inl c.loop-at-test.false) in
    begun-end list b.number b.more c.loop-at.at b.small b.is is.1 c.loop-at-test.false ∙ ap (λ n. decimal n ∷ []) (sym is.0)
