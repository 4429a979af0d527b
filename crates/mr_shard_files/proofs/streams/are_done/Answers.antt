use Rattle.std.proofs.Common.{◌&&◌, ◌+◌, ◌∙◌, ap, drop, refl, sym}
use Rattle.std.proofs.lemmas.List.{at_drop_all}
use Rattle.mr_shard_files.specs.Streams.{all_done}
use Rattle.mr_shard_files.proofs.StreamLemmas.{done_from}
use Rattle.mr_shard_files.proofs.streams.are_done.Goals as goal

pub loop-part-init : goal.loop-part-init
loop-part-init g c = refl

pub returns-then-not-is_done : goal.returns-then-not-is_done
returns-then-not-is_done g c =
    let parts = c.args.parts.now in
    let at = c.loop-part.part-index in
    ap (λ b. b && all_done (drop (at + 1) parts)) c.if-not-is_done.ensures ∙ sym (done_from parts at c.part-item.result c.loop-part-test.true c.part-item.is) ∙ c.loop-part.invariant

pub loop-part-preserved : goal.loop-part-preserved
loop-part-preserved g c =
    let parts = c.args.parts.now in
    let at = c.loop-part.part-index in
    ap (λ b. b && all_done (drop (at + 1) parts)) c.if-not-is_done.ensures ∙ sym (done_from parts at c.part-item.result c.loop-part-test.true c.part-item.is) ∙ c.loop-part.invariant

pub returns : goal.returns
returns g c = sym (at_drop_all all_done c.args.parts.now c.loop-part.part-index c.loop-part-test.false) ∙ c.loop-part.invariant
