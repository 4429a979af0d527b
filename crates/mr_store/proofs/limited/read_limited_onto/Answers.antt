use Rattle.std.proofs.Common.{◌≡◌, ◌+◌, ◌++◌, ◌∙◌, length, take, arith, ap, length-append}
use Rattle.std.proofs.lemmas.List.{length-take-le}
use Rattle.std.proofs.lemmas.Result.{err_from_is_err_and}
use Rattle.std.proofs.KnownBytes.{Consumes-trans}
use Rattle.mr_store.proofs.limited.read_limited_onto.Goals as goal

pub returns-then-count-left-clause-onto : goal.returns-then-count-left-clause-onto
returns-then-count-left-clause-onto g c =
    let i = c.loop-count.invariant in
    let grew = i.grew in
    let read = c.in_ok-count.ensures in
    let piece = take c.in_ok-count.count c.read_at_most.new.buffer in
    let held = length-take-le c.in_ok-count.count c.read_at_most.new.buffer (omega (arith, read.bound, read.len, c.bytes_asked.ensures.piece)) in
    let sized : length c.loop-count.out.items ≡ length c.args.out.now.items + length grew.0 = ap length grew.1 ∙ length-append c.args.out.now.items grew.0 in (
      (grew.0, grew.1),
      (
        grew.0 ++ piece,
        Consumes-trans _ _ _ _ _ grew.2 read.bytes.0,
        omega (arith, length-append grew.0 piece, held, sized, i.room, read.bound, c.bytes_asked.ensures.within, c.if-count-left.true),
      ),
      read.count ∙ i.count,
    )

pub returns-in_err-extend_from_slice-clause-onto : goal.returns-in_err-extend_from_slice-clause-onto
returns-in_err-extend_from_slice-clause-onto g c =
    let p = err_from_is_err_and c.from_residual-in_err-extend_from_slice.result c.from_residual-in_err-extend_from_slice.ensures.1 in
    let i = c.loop-count.invariant in
    let grew = i.grew in
    let read = c.in_ok-count.ensures in
    let piece = take c.in_ok-count.count c.read_at_most.new.buffer in
    let held = length-take-le c.in_ok-count.count c.read_at_most.new.buffer (omega (arith, read.bound, read.len, c.bytes_asked.ensures.piece)) in
    let sized : length c.loop-count.out.items ≡ length c.args.out.now.items + length grew.0 = ap length grew.1 ∙ length-append c.args.out.now.items grew.0 in
    rw p.1 (rw p.2 (
      (grew.0, c.in_err-extend_from_slice.ensures.items ∙ grew.1),
      (
        grew.0 ++ piece,
        Consumes-trans _ _ _ _ _ grew.2 read.bytes.0,
        omega (arith, length-append grew.0 piece, held, sized, i.room, c.if-count-left.false),
      ),
      read.count ∙ i.count,
    ))
