use Rattle.std.proofs.Common.{◌≡◌, ◌∙◌, ◌<◌, ◌∷◌, ap, arith, eqb-true, length, refl, sym}
use Rattle.std.proofs.lemmas.Bool.{eqb-false}
use Rattle.std.specs.Prelude.{decimal}
use Rattle.mr_shards.specs.Index.{number_past}
use Rattle.mr_shards.specs.Lines.{fields}
use Rattle.mr_shards.proofs.FieldLemmas.{field-begins, field-comma, field-last, field-next, field-same}
use Rattle.mr_shards.proofs.LineLemmas.{behind}
use Rattle.mr_shards.proofs.file_numbers.next_number.Goals.{in-Some, in-None}
use Rattle.mr_shards.proofs.file_numbers.next_number.Goals as goal

pub returns-in_err-number-clause-none : goal.returns-in_err-number-clause-none
returns-in_err-number-clause-none c = λ e n more is low high. c.in_err-number.ensures.none refl n _ (field-begins c.args.list.now n more high is)

pub returns-then-number-clause-none : goal.returns-then-number-clause-none
returns-then-number-clause-none c = λ e n more is low high.
    let same = field-same c.args.list.now c.in_ok-number.number c.in_ok-number.rest.now n more c.in_ok-number.ensures.some high is in
    omega (arith, same, high, c.if-number.true)

pub returns-then-number-least-clause-none : goal.returns-then-number-least-clause-none
returns-then-number-least-clause-none c = λ e n more is low high.
    let same = field-same c.args.list.now c.in_ok-number.number c.in_ok-number.rest.now n more c.in_ok-number.ensures.some high is in
    let least-is : c.match-last.least ≡ number_past c.args.last = elim c.match-last.branch [
      | in-Some w ↦ w.least-is ∙ sym (ap number_past w.in-Some.is)
      | in-None w ↦ w.least-is ∙ sym (ap number_past w.in-None.is)
    ] in
    omega (arith, same, low, c.if-number-least.true, least-is)

pub returns-then-is_empty-clause-number : goal.returns-then-is_empty-clause-number
returns-then-is_empty-clause-number c =
    let none = eqb-true (length c.in_ok-number.rest.now) 0 (sym c.is_empty.ensures ∙ c.if-is_empty.true) in
    field-last c.args.list.now c.in_ok-number.number c.in_ok-number.rest.now c.in_ok-number.ensures.some none

pub returns-then-rest-ne44-clause-none : goal.returns-then-rest-ne44-clause-none
returns-then-rest-ne44-clause-none c = λ e n more is low high.
    let some : 0 < length c.in_ok-number.rest.now = grind (arith, eqb-false (length c.in_ok-number.rest.now) 0 (sym c.is_empty.ensures ∙ c.if-is_empty.false)) in
    field-comma c.args.list.now c.in_ok-number.number c.in_ok-number.rest.now n more c.in_ok-number.ensures.some some c.if-rest-ne44.true high is

pub returns-clause-number : goal.returns-clause-number
returns-clause-number c =
    let rest = c.in_ok-number.rest.now in
    let some : 0 < length rest = grind (arith, eqb-false (length rest) 0 (sym c.is_empty.ensures ∙ c.if-is_empty.false)) in
    field-next c.args.list.now c.in_ok-number.number rest c.in_ok-number.ensures.some some c.if-rest-ne44.false
    ∙ (let left = ap fields (sym (behind 0 rest)) in ap (λ l. decimal c.in_ok-number.number ∷ l) left)

pub returns-in-Some-cut_two_digits-clause-number : goal.returns-in-Some-cut_two_digits-clause-number
returns-in-Some-cut_two_digits-clause-number c = field-next c.args.list.now c.in-Some-cut_two_digits.file (44 ∷ c.in-Some-cut_two_digits.rest.now) c.in-Some-cut_two_digits.ensures.0 (omega arith) refl

pub returns-then-from-least-clause-none : goal.returns-then-from-least-clause-none
returns-then-from-least-clause-none c = λ e n more is low high.
    let same = field-same c.args.list.now c.in-Some-cut_two_digits.file (44 ∷ c.in-Some-cut_two_digits.rest.now) n more c.in-Some-cut_two_digits.ensures.0 high is in
    let least-is : c.match-last.least ≡ number_past c.args.last = elim c.match-last.branch [
      | in-Some w ↦ w.least-is ∙ sym (ap number_past w.in-Some.is)
      | in-None w ↦ w.least-is ∙ sym (ap number_past w.in-None.is)
    ] in
    omega (arith, same, low, c.if-from-least.true, least-is, c.from.ensures)
