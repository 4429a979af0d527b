use Rattle.std.proofs.Common.{◌∙◌, ap, eqb, false, get_or, replicate, w8}
use Rattle.std.proofs.lemmas.Simd.{tops_compared, zip2_splat}
use Rattle.mr_lanes.proofs.BitLemmas.{is_set-mask_l, is_set-mod}
use Rattle.mr_shards.proofs.cutting.marked_lanes.Goals as goal

pub returns : goal.returns
returns c = λ i h.
    is_set-mod _ i h ∙ is_set-mask_l _ i ∙ ap (λ l. get_or l i false) (tops_compared w8 eqb c.args.lanes (replicate 32 c.args.mark) ∙ zip2_splat eqb c.args.lanes 32 c.args.mark c.fits-lanes.0)
