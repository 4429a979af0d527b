use Rattle.std.proofs.Common.{◌+◌, drop, sym, ap, ◌∙◌, arith}
use Rattle.mr_lanes.specs.Hashes.{fnv_from, stir}
use Rattle.mr_lanes.proofs.HashLemmas.{fnv_from-more, fnv_from-end}
use Rattle.mr_lanes.proofs.hashes.fnv_on.Goals as goal

pub loop-byte-preserved : goal.loop-byte-preserved
loop-byte-preserved c =
    let bytes = c.args.bytes.now in
    let i = c.loop-byte.byte-index in
    ap (λ b. fnv_from (stir c.loop-byte.sum b) (drop (i + 1) bytes)) c.from.ensures
    ∙ sym (fnv_from-more c.loop-byte.sum i bytes c.loop-byte-test.true) ∙ c.loop-byte.invariant

pub returns : goal.returns
returns c = sym (fnv_from-end c.loop-byte.sum c.loop-byte.byte-index c.args.bytes.now (omega arith)) ∙ c.loop-byte.invariant
