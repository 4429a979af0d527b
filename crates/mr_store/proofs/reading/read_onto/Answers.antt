use Rattle.std.proofs.Common.{◌∙◌}
use Rattle.std.proofs.lemmas.Result.{err_from_is_err_and}
use Rattle.std.proofs.KnownBytes.{Consumes-trans}
use Rattle.mr_store.proofs.reading.read_onto.Goals as goal

pub returns-in_err-extend_from_slice-clause-onto : goal.returns-in_err-extend_from_slice-clause-onto
returns-in_err-extend_from_slice-clause-onto g c =
    let p = err_from_is_err_and c.from_residual-in_err-extend_from_slice.result c.from_residual-in_err-extend_from_slice.ensures.1 in
    let grew = c.loop-count.invariant.grew in
    rw p.1 (rw p.2 (
      (grew.0, c.in_err-extend_from_slice.ensures.items ∙ grew.1),
      (_, Consumes-trans _ _ _ _ _ grew.2 c.in_ok-count.ensures.bytes.0),
      c.in_ok-count.ensures.count ∙ c.loop-count.invariant.count,
    ))
