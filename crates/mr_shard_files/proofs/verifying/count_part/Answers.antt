use Rattle.std.proofs.Common.{ℕ, ◌<◌, ◌≤◌, ◌++◌, List, [], ap, arith, drop, inl, length, refl, string_bytes, subst, sym, take}
use Rattle.std.proofs.lemmas.Result.{err_from_is_err_and}
use Rattle.mr_bytes.specs.Cut.{Lacks}
use Rattle.mr_shards.specs.Lines.{EndsLine, lines}
use Rattle.mr_shards.proofs.ReadingLemmas.{lines-none}
use Rattle.mr_shard_files.specs.Pairs.{IsTotal, StateTogether}
use Rattle.mr_shard_files.proofs.PairLemmas.{ends_behind, last_window, open_window, window_total}
use Rattle.mr_shard_files.proofs.StreamLemmas.{moves_none, moves_on, unread_back}
use Rattle.mr_shard_files.proofs.VerifyLemmas.{filled_on}
use Rattle.mr_shard_files.proofs.verifying.count_part.Goals as goal

pub loop-init : goal.loop-init
loop-init g c = record {
  passed = [];
  moves = moves_none g.R.CountedRead.remaining g.R.CountedRead.can_fail c.args.part.now;
  whole = inl refl;
  total = subst (λ ls. StateTogether c.args.job.now ls 0) (sym lines-none) refl;
}

pub returns-in_err-fill-clause-err : goal.returns-in_err-fill-clause-err
returns-in_err-fill-clause-err g c =
    let p = err_from_is_err_and c.from_residual.result c.from_residual.ensures.1 in
    let can_fail = g.R.CountedRead.can_fail in
    let part = c.loop.part in
    let moves = c.loop.invariant.moves in
    rw p.1 (rw p.2 (unread_back c.in_err-fill.field-0.0 (can_fail part.reader) (can_fail c.args.part.now.reader) (string_bytes part.name) (string_bytes c.args.part.now.name)
    moves.later (ap string_bytes moves.name) c.in_err-fill.ensures.err))

pub returns-then-lines-bytes-clause-ok : goal.returns-then-lines-bytes-clause-ok
returns-then-lines-bytes-clause-ok g c =
    let inv = c.loop.invariant in
    let job = c.args.job.now in
    let filled = c.fill.new.self in
    let held = filled.held in
    let k = c.whole_lines-lines.result in
    let ends : EndsLine (take k held) = subst (λ (x : List ℕ). EndsLine (take k x)) c.bytes.ensures c.whole_lines-lines.ensures.lines in
    let clear : Lacks 10 (drop k held) = subst (λ (x : List ℕ). Lacks 10 (drop k x)) c.bytes.ensures c.whole_lines-lines.ensures.rest in
    let here : IsTotal job (lines (take k held)) c.pairs_in.result = subst (λ (x : List ℕ). IsTotal job (lines (take k x)) c.pairs_in.result) c.bytes-in-loop.ensures c.pairs_in.ensures in
    let count = ap length c.bytes-then-is_done.ensures in
    let less : k < length held = omega (arith, count, c.if-lines-bytes.true) in (
      inv.passed,
      filled_on g.R.CountedRead.remaining g.R.CountedRead.can_fail inv.passed c.args.part.now c.loop.part filled inv.moves c.in_ok-fill.ensures.moves,
      open_window job inv.passed held k c.loop.total c.pairs_in.result c.sum_of-total.result inv.whole ends inv.total here c.sum_of-total.ensures less clear,
    )

pub returns-then-is_done-clause-ok : goal.returns-then-is_done-clause-ok
returns-then-is_done-clause-ok g c =
    let inv = c.loop.invariant in
    let job = c.args.job.now in
    let filled = c.fill.new.self in
    let held = filled.held in
    let k = c.whole_lines-lines.result in
    let ends : EndsLine (take k held) = subst (λ (x : List ℕ). EndsLine (take k x)) c.bytes.ensures c.whole_lines-lines.ensures.lines in
    let here : IsTotal job (lines (take k held)) c.pairs_in.result = subst (λ (x : List ℕ). IsTotal job (lines (take k x)) c.pairs_in.result) c.bytes-in-loop.ensures c.pairs_in.ensures in
    let count = ap length c.bytes-then-is_done.ensures in
    let all : length held ≤ k = omega (arith, count, c.if-lines-bytes.false) in (
      inv.passed,
      filled_on g.R.CountedRead.remaining g.R.CountedRead.can_fail inv.passed c.args.part.now c.loop.part filled inv.moves c.in_ok-fill.ensures.moves,
      last_window job inv.passed held k c.loop.total c.pairs_in.result c.sum_of-total.result inv.whole ends inv.total here c.sum_of-total.ensures all,
    )

pub loop-preserved : goal.loop-preserved
loop-preserved g c =
    let inv = c.loop.invariant in
    let job = c.args.job.now in
    let remaining = g.R.CountedRead.remaining in
    let can_fail = g.R.CountedRead.can_fail in
    let filled = c.fill.new.self in
    let held = filled.held in
    let k = c.whole_lines-lines.result in
    let ends : EndsLine (take k held) = subst (λ (x : List ℕ). EndsLine (take k x)) c.bytes.ensures c.whole_lines-lines.ensures.lines in
    let here : IsTotal job (lines (take k held)) c.pairs_in.result = subst (λ (x : List ℕ). IsTotal job (lines (take k x)) c.pairs_in.result) c.bytes-in-loop.ensures c.pairs_in.ensures in
    record {
      passed = inv.passed ++ take k held;
      moves = moves_on remaining can_fail c.args.part.now filled c.pass.new.self inv.passed (take k held)
          (filled_on remaining can_fail inv.passed c.args.part.now c.loop.part filled inv.moves c.in_ok-fill.ensures.moves) c.pass.ensures;
      whole = ends_behind inv.passed (take k held) inv.whole ends;
      total = window_total job inv.passed held k c.loop.total c.pairs_in.result c.sum_of-total.result inv.whole ends inv.total here c.sum_of-total.ensures;
    }
