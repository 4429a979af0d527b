use Rattle.std.proofs.Common.{eqb, arith}
use Rattle.std.proofs.lemmas.Simd.{zip2_splat}
use Rattle.mr_lanes.proofs.LaneLemmas.{hit, classified_few}
use Rattle.mr_check.proofs.lines.line_feeds.Goals as goal

pub returns : goal.returns
returns c =
    let v = c.args.lanes in
    classified_few _ (λ x. eqb x 10) v _ (omega arith) c.fits-lanes (zip2_splat hit v 32 10 c.fits-lanes.0) tt
