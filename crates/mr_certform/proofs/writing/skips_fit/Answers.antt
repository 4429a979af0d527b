use Rattle.std.proofs.Common.{◌≡◌, ◌∷◌, ◌+◌, get_or, drop}
use Rattle.std.proofs.lemmas.List.{drop_more}
use Rattle.mr_certform.specs.Value.{SkipFits}
use Rattle.mr_certform.proofs.Pieces.{one_more}
use Rattle.mr_certform.proofs.writing.skips_fit.Goals as goal

pub loop-skip-preserved : goal.loop-skip-preserved
loop-skip-preserved c =
    let e : drop c.loop-skip.skip-index c.args.skips.now ≡ get_or c.args.skips.now c.loop-skip.skip-index (record { split = 0; rec = 0 }) ∷ drop (c.loop-skip.skip-index + 1) c.args.skips.now = drop_more c.args.skips.now c.loop-skip.skip-index (record { split = 0; rec = 0 }) c.loop-skip-test.true in
    one_more SkipFits _ _ _ _ e c.skip_fits.ensures c.loop-skip.invariant
