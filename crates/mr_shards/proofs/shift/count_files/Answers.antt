use Rattle.std.proofs.Common.{ℕ, ◌+◌, ◌-◌, ◌≡◌, ◌<◌, ◌∙◌, Bool, ap, arith, cond, eq-eqb, length, sym}
use Rattle.std.proofs.lemmas.Bool.{ne_eqb}
use Rattle.std.proofs.lemmas.List.{get_or_default}
use Rattle.mr_shards.specs.Gaps.{no_note, note_at}
use Rattle.mr_shards.specs.RangeNotes.{RangeNote}
use Rattle.mr_shards.proofs.PastLemmas.{past-back, past-done, past-few}
use Rattle.mr_shards.proofs.shift.count_files.Goals.{then-not-goes_on_at, else-not-goes_on_at}
use Rattle.mr_shards.proofs.shift.count_files.Goals as goal

pub overflow_add-files : goal.overflow_add-files
overflow_add-files c =
    let few = past-few c.args.ranges.now c.loop-at.at c.loop-at.files c.loop-at.begin (omega (arith, c.loop-at-test.true)) c.loop-at.invariant.within c.loop-at.invariant.past in
    omega (arith, few)

-- one file more, unless the range behind goes on
counted : (files files' : ℕ) (goes is : Bool) → goes ≡ is → files' ≡ cond goes files (files + 1) → files' ≡ cond is files (files + 1)
counted files files' goes is same e = e ∙ ap (λ b. cond b files (files + 1)) same

pub loop-at-preserved-then-files-eq1 : goal.loop-at-preserved-then-files-eq1
loop-at-preserved-then-files-eq1 c =
    let ns = c.args.ranges.now in
    let files : ℕ = c.loop-at.files in
    let one : c.loop-at.at - 1 + 1 ≡ c.loop-at.at = omega (arith, c.loop-at-test.true) in
    let less : c.loop-at.at - 1 < length ns = omega (arith, c.loop-at-test.true, c.loop-at.invariant.within) in
    let are : c.if-not-goes_on_at.files ≡ cond c.goes_on_at.result files (files + 1) = elim c.if-not-goes_on_at.branch [
      | then-not-goes_on_at w ↦ w.files-is ∙ sym (ap (λ b. cond b files (files + 1)) w.if-not-goes_on_at.true)
      | else-not-goes_on_at w ↦ w.files-is ∙ sym (ap (λ b. cond b files (files + 1)) w.if-not-goes_on_at.false)
    ] in
    let from = ap (λ (n : RangeNote). n.from) (c.range.view_is ∙ c.index-ranges-at.is ∙ get_or_default ns (c.loop-at.at - 1) c.index-ranges-at.result no_note less) in
    record {
      past = past-back ns c.loop-at.at (c.loop-at.at - 1) files _ c.loop-at.begin _ one c.loop-at.invariant.within c.loop-at.invariant.past (counted files _ _ _ c.goes_on_at.ensures are)
          (from ∙ sym (ap (λ b. cond b (note_at ns (c.loop-at.at - 1)).from c.loop-at.begin) (eq-eqb _ 1 c.if-files-eq1.true)));
      within = omega (arith, c.loop-at.invariant.within);
    }

pub loop-at-preserved : goal.loop-at-preserved
loop-at-preserved c =
    let ns = c.args.ranges.now in
    let files : ℕ = c.loop-at.files in
    let one : c.loop-at.at - 1 + 1 ≡ c.loop-at.at = omega (arith, c.loop-at-test.true) in
    let are : c.if-not-goes_on_at.files ≡ cond c.goes_on_at.result files (files + 1) = elim c.if-not-goes_on_at.branch [
      | then-not-goes_on_at w ↦ w.files-is ∙ sym (ap (λ b. cond b files (files + 1)) w.if-not-goes_on_at.true)
      | else-not-goes_on_at w ↦ w.files-is ∙ sym (ap (λ b. cond b files (files + 1)) w.if-not-goes_on_at.false)
    ] in
    record {
      past = past-back ns c.loop-at.at (c.loop-at.at - 1) files _ c.loop-at.begin _ one c.loop-at.invariant.within c.loop-at.invariant.past (counted files _ _ _ c.goes_on_at.ensures are)
          (sym (ap (λ b. cond b (note_at ns (c.loop-at.at - 1)).from c.loop-at.begin) (ne_eqb _ 1 c.if-files-eq1.false)));
      within = omega (arith, c.loop-at.invariant.within);
    }

pub returns-clause-count : goal.returns-clause-count
returns-clause-count c =
    (past-done c.args.ranges.now c.loop-at.at c.loop-at.files c.loop-at.begin (λ h. omega (arith, h, c.loop-at-test.false)) c.loop-at.invariant.past).count

pub returns-clause-begin : goal.returns-clause-begin
returns-clause-begin c =
    (past-done c.args.ranges.now c.loop-at.at c.loop-at.files c.loop-at.begin (λ h. omega (arith, h, c.loop-at-test.false)) c.loop-at.invariant.past).end
