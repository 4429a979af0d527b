use Rattle.std.proofs.Common.{◌≡◌, ◌+◌, [], suc, length, subst, string_bytes, arith, refl}
use Rattle.std.proofs.lemmas.Result.{err_from_is_err_and}
use Rattle.std.proofs.Math.ListN.{set}
use Rattle.mr_shard_files.specs.Streams.{Moves, ReportsUnread}
use Rattle.mr_shard_files.proofs.AllLemmas.{KeptTo, kept_all, kept_more, kept_same}
use Rattle.mr_shard_files.proofs.streams.fill_all.Goals as goal

pub returns-in_err-fill-clause-err : goal.returns-in_err-fill-clause-err
returns-in_err-fill-clause-err g c =
    let p = err_from_is_err_and c.from_residual.result c.from_residual.ensures.1 in
    let i = c.loop-shard.shard in
    let d = c.index-parts-shard.result in
    let can_fail = g.R.CountedRead.can_fail in
    let os = c.args.parts.now in
    let same = kept_same (λ _ o n. Moves g.R.CountedRead.remaining can_fail [] o n) i os os c.loop-shard.parts d c.loop-shard.invariant in
    rw p.1 (rw p.2 (i, d, c.loop-shard-test.true, subst (λ q. ReportsUnread (can_fail q.reader) (string_bytes q.name) c.in_err-fill.field-0.0) same c.in_err-fill.ensures.err))

pub loop-shard-preserved : goal.loop-shard-preserved
loop-shard-preserved g c =
    let i = c.loop-shard.shard in
    let d = c.index-parts-shard.result in
    let os = c.args.parts.now in
    let next : suc i ≡ i + 1 = omega arith in
    subst (λ k. KeptTo (λ _ o n. Moves g.R.CountedRead.remaining g.R.CountedRead.can_fail [] o n) k os os (set c.loop-shard.parts i c.fill.new.self)) next
    (kept_more (λ _ o n. Moves g.R.CountedRead.remaining g.R.CountedRead.can_fail [] o n) i os os c.loop-shard.parts d d c.fill.new.self c.loop-shard-test.true c.loop-shard-test.true c.loop-shard.invariant c.in_ok-fill.ensures.moves)

pub returns-clause-ok : goal.returns-clause-ok
returns-clause-ok g c =
    let os = c.args.parts.now in
    let last : c.loop-shard.shard ≡ length os = omega arith in
    kept_all (λ _ o n. Moves g.R.CountedRead.remaining g.R.CountedRead.can_fail [] o n) os os c.loop-shard.parts refl
    (subst (λ k. KeptTo (λ _ o n. Moves g.R.CountedRead.remaining g.R.CountedRead.can_fail [] o n) k os os c.loop-shard.parts) last c.loop-shard.invariant)
