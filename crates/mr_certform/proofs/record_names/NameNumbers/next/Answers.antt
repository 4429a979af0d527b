use Rattle.std.proofs.Common.{◌≡◌, ◌∙◌, ◌+◌, ap, arith, sym, max, ℕ}
use Rattle.std.proofs.lemmas.List.{nil_from_length}
use Rattle.mr_certform.specs.Packed.{base_behind}
use Rattle.mr_certform.proofs.Packed.{behind_rises, number_next, number_none, number_record, numbers_left, record_room}
use Rattle.mr_certform.proofs.record_names.NameNumbers.next.Goals as goal

pub overflow_add-self : goal.overflow_add-self
overflow_add-self c =
    let n = c.loop-self.self-inside in
    let count : ℕ = c.in_ok-count.count.now in
    omega (arith, c.from.ensures, (record_room n.unit n.base count n.counts.now c.in_ok-count.rest.now c.loop-self.invariant.few c.in_ok-count.ensures.cases.0).1)

pub overflow_add-self-in-loop-self : goal.overflow_add-self-in-loop-self
overflow_add-self-in-loop-self c =
    let n = c.loop-self.self-inside in
    let count : ℕ = c.in_ok-count.count.now in
    omega (
      arith,
      c.max.ensures ∙ ap (max n.unit) c.from-in-loop-self.ensures,
      (record_room n.unit n.base count n.counts.now c.in_ok-count.rest.now c.loop-self.invariant.few c.in_ok-count.ensures.cases.0).1,
    )

pub loop-self-preserved : goal.loop-self-preserved
loop-self-preserved c =
    let n = c.loop-self.self-inside in
    let rest = c.in_ok-count.rest.now in
    let count : ℕ = c.in_ok-count.count.now in
    let grown : c.max.result ≡ max n.unit count = c.max.ensures ∙ ap (max n.unit) c.from-in-loop-self.ensures in
    let next = number_record n.unit n.base n.next n.end count n.counts.now rest c.loop-self-test.true c.in_ok-count.ensures.cases.0 in
    record {
      numbers = (λ i. numbers_left n.unit (n.base + grown i) n.base (n.base + c.from.ensures i) rest) ∙ sym next ∙ c.loop-self.invariant.numbers;
      few = omega (
        arith,
        ap (λ k. base_behind n.unit (n.base + k) rest) grown,
        (record_room n.unit n.base count n.counts.now rest c.loop-self.invariant.few c.in_ok-count.ensures.cases.0).0,
      );
      low = omega (arith, c.from.ensures, grown);
    }

pub overflow_cast-result : goal.overflow_cast-result
overflow_cast-result c =
    let n = c.loop-self.self-inside in
    omega (arith, c.loop-self-test.false, c.loop-self.invariant.low, c.loop-self.invariant.few, behind_rises n.unit n.base n.counts.now)

pub returns : goal.returns
returns c =
    let n = c.loop-self.self-inside in
    sym c.self.view_is ∙ sym c.loop-self.invariant.numbers ∙ number_next n.unit n.base n.next n.end n.counts.now c.loop-self-test.false

pub returns-in_err-count : goal.returns-in_err-count
returns-in_err-count c =
    let n = c.loop-self.self-inside in
    let none = sym c.self.view_is ∙ sym c.loop-self.invariant.numbers
    ∙ number_none n.unit n.base n.next n.end n.counts.now c.loop-self-test.true (nil_from_length n.counts.now c.in_err-count.ensures.cases) in
    rw c.from_residual.ensures none
