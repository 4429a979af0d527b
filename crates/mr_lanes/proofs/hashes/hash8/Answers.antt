use Rattle.std.proofs.Common.{◌+◌, ℕ, List, drop, get_or, sym, ap, ◌∙◌, arith}
use Rattle.mr_lanes.specs.Hashes.{fnv_from, key_at, stir}
use Rattle.mr_lanes.proofs.HashLemmas.{fnv_from-more}
use Rattle.mr_lanes.proofs.hashes.hash8.Goals as goal

pub loop-at-preserved : goal.loop-at-preserved
loop-at-preserved c =
    let at : ℕ = c.loop-at.at in
    record {
      within = omega arith;
      each = λ i h.
          let key : List ℕ = key_at c.args.keys.now i in
          ap (λ n. fnv_from n (drop (at + 1) key)) (c.stirred-lanes.ensures i h ∙ ap (stir (get_or c.loop-at.lanes i 0)) (c.bytes_at.ensures i h))
          ∙ sym (fnv_from-more (get_or c.loop-at.lanes i 0) at key (omega (arith, c.shortest-shared.ensures i h))) ∙ c.loop-at.invariant.each i h;
    }
