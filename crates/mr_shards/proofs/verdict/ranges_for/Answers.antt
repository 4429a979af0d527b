use Rattle.std.proofs.Common.{◌≡◌, ℕ, suc, ◌+◌, ◌<◌, ◌∙◌, ◌++◌, [], ◌∷◌, cond, length, map, true, ap, sym, arith, eq-eqb}
use Rattle.std.proofs.lemmas.Bool.{le-ltb, lt-ltb, ne_eqb}
use Rattle.std.proofs.lemmas.List.{get_or-map, length-map}
use Rattle.mr_shards.specs.RangeNotes.{RangeNote}
use Rattle.mr_shards.specs.Truth.{range_for}
use Rattle.mr_shards.proofs.StretchLemmas.{all-ranges, begin_at, more-ranges}
use Rattle.mr_shards.proofs.verdict.ranges_for.Goals.{then-file-eq0, else-file-eq0, then-ends, else-ends}
use Rattle.mr_shards.proofs.verdict.ranges_for.Goals as goal

pub loop-file-preserved : goal.loop-file-preserved
loop-file-preserved c =
    let names = map (λ s. s.now) c.args.names.now in
    let i = c.loop-file.file in
    let count : ℕ = length c.args.names.now in
    let many : length names ≡ count = length-map c.args.names.now (λ s. s.now) in
    let inside : i < length c.args.names.now = omega (arith, c.loop-file-test.true, c.min-file-end.ensures) in
    let few_names : i < length names = omega (arith, inside, many) in
    let few_files : i < length c.args.input.now = omega (arith, c.loop-file-test.true, c.min-file-end.ensures, c.files.ensures.count) in
    let more : suc i < length names → c.if-ends.whole ≡ true = λ h. elim c.if-ends.branch [
      | then-ends w ↦ w.whole-is ∙ w.if-ends.true
      | else-ends w ↦ w.whole-is ∙ lt-ltb (i + 1) count (omega (arith, h, many))
    ] in
    let last : suc i ≡ length names → c.if-ends.whole ≡ c.args.ends = λ e. elim c.if-ends.branch [
      | then-ends w ↦ w.whole-is
      | else-ends w ↦ w.whole-is ∙ le-ltb (i + 1) count (omega (arith, e, many)) ∙ sym w.if-ends.false
    ] in
    let begin : c.if-file-eq0.begin ≡ begin_at i c.args.from = elim c.if-file-eq0.branch [
      | then-file-eq0 w ↦ w.begin-is ∙ sym (ap (λ b. cond b c.args.from 0) (eq-eqb i 0 w.if-file-eq0.true))
      | else-file-eq0 w ↦ w.begin-is ∙ sym (ap (λ b. cond b c.args.from 0) (ne_eqb i 0 w.if-file-eq0.false))
    ] in
    let note = c.in_ok-range_for.ensures ∙ ap (λ (k : ℕ). range_for c.as_bytes-name.result.now k c.file-bytes.result.now c.if-ends.whole) begin in
    more-ranges names c.args.input.now i c.args.from c.args.ends c.if-ends.whole [] [] c.as_bytes-name.result.now c.file-bytes.result.now c.loop-file.notes.items c.push.new.self.items
    few_names few_files (c.as_bytes-name.ensures.value ∙ sym (get_or-map (λ s. s.now) c.args.names.now i _ [] inside)) c.file-bytes.ensures.bytes more last
    (c.in_ok-push.ensures.items ∙ ap (λ (n : RangeNote). c.loop-file.notes.items ++ n ∷ []) note) c.loop-file.invariant

pub returns : goal.returns
returns c =
    let names = map (λ s. s.now) c.args.names.now in
    let many : length names ≡ length c.args.names.now = length-map c.args.names.now (λ s. s.now) in
    all-ranges names c.args.input.now c.loop-file.file c.args.from c.args.ends c.loop-file.notes.items
    (omega (arith, c.loop-file-test.false, c.min-file-end.ensures, c.files.ensures.count, many)) c.loop-file.invariant
