use Rattle.std.proofs.Common.{ℕ, ◌≤◌, List, ◌++◌, ◌∙◌, length, take, arith, refl, length-append}
use Rattle.std.proofs.lemmas.List.{length-take-le}
use Rattle.std.proofs.lemmas.Result.{err_from_is_err_and}
use Rattle.std.proofs.KnownBytes.{Consumes-trans}
use Rattle.mr_explain.proofs.sifting.take_all.Goals as goal

pub returns-then-count-left-clause-consumes : goal.returns-then-count-left-clause-consumes
returns-then-count-left-clause-consumes g c =
    let i = c.loop-count.invariant.took in
    let read = c.in_ok-count.ensures in
    let piece : List ℕ = take c.in_ok-count.count c.read_at_most.new.buffer in
    let held = length-take-le c.in_ok-count.count c.read_at_most.new.buffer (omega (arith, read.bound, read.len, c.bytes_asked.ensures.piece)) in
    let longer = length-append i.got piece in (
      i.got ++ piece,
      Consumes-trans _ _ _ _ _ i.consumed read.bytes.0,
      omega (arith, longer, held, i.count, read.bound, c.bytes_asked.ensures.within),
      ((λ e. omega (arith, longer, held, i.count, c.if-count-left.true)), (λ less. refl)),
    )

pub returns-in_err-take-clause-consumes : goal.returns-in_err-take-clause-consumes
returns-in_err-take-clause-consumes g c =
    let p = err_from_is_err_and c.from_residual-in_err-take.result c.from_residual-in_err-take.ensures.1 in
    let i = c.loop-count.invariant.took in
    let read = c.in_ok-count.ensures in
    let piece : List ℕ = take c.in_ok-count.count c.read_at_most.new.buffer in
    let held = length-take-le c.in_ok-count.count c.read_at_most.new.buffer (omega (arith, read.bound, read.len, c.bytes_asked.ensures.piece)) in
    let longer = length-append i.got piece in
    let within : length (i.got ++ piece) ≤ c.args.limit = omega (arith, longer, held, i.count, c.if-count-left.false) in
    rw p.1 (rw p.2 (
      i.got ++ piece,
      Consumes-trans _ _ _ _ _ i.consumed read.bytes.0,
      omega (arith, within),
      ((λ e. absurd (cc e)), (λ less. absurd (omega (arith, within, less)))),
    ))

pub loop-count-preserved : goal.loop-count-preserved
loop-count-preserved g c =
    let i = c.loop-count.invariant in
    let read = c.in_ok-count.ensures in
    let piece : List ℕ = take c.in_ok-count.count c.read_at_most.new.buffer in
    let held = length-take-le c.in_ok-count.count c.read_at_most.new.buffer (omega (arith, read.bound, read.len, c.bytes_asked.ensures.piece)) in
    record {
      took = record {
        got = i.took.got ++ piece;
        consumed = Consumes-trans _ _ _ _ _ i.took.consumed read.bytes.0;
        count = omega (arith, length-append i.took.got piece, held, i.took.count, c.if-count-left.false);
        taken = c.in_ok-take.ensures.taken i.took.got i.took.taken;
      };
      needle = c.in_ok-take.ensures.needle ∙ i.needle;
      most = c.in_ok-take.ensures.most ∙ i.most;
      later = λ h. i.later (read.later h);
      count = read.count ∙ i.count;
    }
