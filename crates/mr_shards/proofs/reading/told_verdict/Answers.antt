use Rattle.std.proofs.Common.{◌≡◌, ℕ, List, [], map, ap, ◌∙◌}
use Rattle.std.specs.Prelude.{codes, decimal}
use Rattle.std.proofs.lemmas.List.{append-nil}
use Rattle.mr_shards.specs.Lines.{lines}
use Rattle.mr_shards.specs.Reading.{NoteFits, RangeFits, SpotFits, told_under}
use Rattle.mr_shards.specs.Verdict.{note_told, range_told, spot_told}
use Rattle.mr_shards.proofs.ReadLemmas.{found-all, found-step}
use Rattle.mr_shards.proofs.SpellLemmas.{all_told, under-all}
use Rattle.mr_shards.proofs.reading.told_verdict.Goals as goal

pub loop-line-preserved : goal.loop-line-preserved
loop-line-preserved c =
    let text = c.args.text.now in
    let rest = c.loop-line.rest.now in
    let line = c.in-Some.line.now in
    let more = c.in-Some.more.now in
    let is = c.in-Some.ensures.parts.0 in
    let clear = c.in-Some.ensures.parts.1 in
    let was = c.loop-line.invariant in
    record {
      inputs = found-step (range_told c.args.old) (RangeFits c.args.old) (codes "input") text rest line more c.loop-line.inputs.items c.add_range.new.ranges.items is clear c.in_ok-add_range.ensures.range was.inputs;
      all = λ old. c.in_ok-add_range.ensures.all old (was.all old);
      outputs = found-step note_told NoteFits (codes "output") text rest line more c.loop-line.outputs.items c.add_note.new.notes.items is clear c.in_ok-add_note.ensures was.outputs;
      left_out = found-step spot_told SpotFits (codes "without") text rest line more c.loop-line.left_out.items c.add_spot.new.spots.items is clear c.in_ok-add_spot.ensures was.left_out;
    }

pub returns-clause-verdict : goal.returns-clause-verdict
returns-clause-verdict c = λ v fits e.
    let text = c.args.text.now in
    let rest = c.loop-line.rest.now in
    let ends = c.in_default.ensures.parts in
    let under : (w : List ℕ) → told_under w (lines c.args.text.now) ≡ all_told c.args.old w v =
    λ w. ap (λ (t : List ℕ). told_under w (lines t)) e ∙ under-all c.args.old w v fits in
    let job = c.small_or_zero.ensures v.job fits.job (c.first_told-2.ensures (decimal v.job) [] (under (codes "job"))) in
    let flags = c.small_or_zero-2.ensures v.flags fits.flags (c.first_told-3.ensures (decimal v.flags) [] (under (codes "flags"))) in
    let literal = c.in_ok-literal.ensures.items ∙ c.first_told.ensures v.literal [] (under (codes "literal")) in
    let parts = c.small_or_zero-3.ensures v.parts fits.parts (c.first_told-4.ensures (decimal v.parts) [] (under (codes "partitions"))) in
    let split = c.small_or_zero-4.ensures v.split fits.split (c.first_told-5.ensures (decimal v.split) [] (under (codes "split"))) in
    let pairs = c.number_or_zero.ensures v.pairs fits.pairs (c.first_told-6.ensures (decimal v.pairs) [] (under (codes "emitted"))) in
    let inputs = (found-all (range_told c.args.old) (RangeFits c.args.old) (codes "input") text rest c.loop-line.inputs.items ends c.loop-line.invariant.inputs) v.inputs fits.inputs (under (codes "input") ∙ append-nil (map (range_told c.args.old) v.inputs)) in
    let outputs = (found-all note_told NoteFits (codes "output") text rest c.loop-line.outputs.items ends c.loop-line.invariant.outputs) v.outputs fits.outputs (under (codes "output") ∙ append-nil (map note_told v.outputs)) in
    let left_out = (found-all spot_told SpotFits (codes "without") text rest c.loop-line.left_out.items ends c.loop-line.invariant.left_out) v.left_out fits.left_out (under (codes "without") ∙ append-nil (map spot_told v.left_out)) in
    λ i. record {
      job = job i;
      flags = flags i;
      literal = literal i;
      parts = parts i;
      split = split i;
      inputs = inputs i;
      outputs = outputs i;
      left_out = left_out i;
      pairs = pairs i;
    }
