use Rattle.std.proofs.Common.{ap, eqb, arith, ◌∙◌}
use Rattle.std.specs.Int.RustNames.{count_ones}
use Rattle.std.proofs.lemmas.Simd.{bitmask_splat, ones-mask_l}
use mir.Syntax.{w8}
use Rattle.mr_explain.proofs.lines.feeds_among.Goals as goal

pub returns : goal.returns
returns c =
    ap count_ones (bitmask_splat w8 eqb c.args.lanes 64 10 c.fits-lanes.0 (omega arith))
    ∙ ones-mask_l (λ b. eqb b 10) c.args.lanes
