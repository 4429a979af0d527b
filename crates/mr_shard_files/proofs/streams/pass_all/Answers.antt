use Rattle.std.proofs.Common.{◌≡◌, ◌+◌, ◌<◌, ◌≤◌, suc, get_or, length, subst, sym, take, arith}
use Rattle.std.proofs.Math.ListN.{set}
use Rattle.mr_shard_files.specs.Streams.{Moves}
use Rattle.mr_shard_files.proofs.AllLemmas.{KeptTo, kept_all, kept_more, kept_same}
use Rattle.mr_shard_files.proofs.ShownLemmas.{cut_at, cuts_count}
use Rattle.mr_shard_files.proofs.streams.pass_all.Goals as goal

pub bounds-cuts-shard : goal.bounds-cuts-shard
bounds-cuts-shard g c = omega (arith, cuts_count c.args.cuts.now c.args.parts.now c.requires, c.loop-shard-test.true)

pub pass-requires : goal.pass-requires
pass-requires g c =
    let i = c.loop-shard.shard in
    let d = c.index-parts-shard.result in
    let cs = c.args.cuts.now in
    let os = c.args.parts.now in
    let same = kept_same (λ n o m. Moves g.R.CountedRead.remaining g.R.CountedRead.can_fail (take n o.held) o m) i cs os c.loop-shard.parts d c.loop-shard.invariant in
    subst (λ q. get_or cs i 0 ≤ length q.held) (sym same) (cut_at cs os i d c.requires c.loop-shard-test.true)

pub loop-shard-preserved : goal.loop-shard-preserved
loop-shard-preserved g c =
    let i = c.loop-shard.shard in
    let d = c.index-parts-shard.result in
    let cs = c.args.cuts.now in
    let os = c.args.parts.now in
    let less : i < length cs = omega (arith, cuts_count cs os c.requires, c.loop-shard-test.true) in
    let next : suc i ≡ i + 1 = omega arith in
    subst (λ k. KeptTo (λ n o m. Moves g.R.CountedRead.remaining g.R.CountedRead.can_fail (take n o.held) o m) k cs os (set c.loop-shard.parts i c.pass.new.self)) next
    (kept_more (λ n o m. Moves g.R.CountedRead.remaining g.R.CountedRead.can_fail (take n o.held) o m) i cs os c.loop-shard.parts 0 d c.pass.new.self less c.loop-shard-test.true c.loop-shard.invariant c.pass.ensures)

pub returns : goal.returns
returns g c =
    let cs = c.args.cuts.now in
    let os = c.args.parts.now in
    let count = cuts_count cs os c.requires in
    let last : c.loop-shard.shard ≡ length cs = omega (arith, count) in
    kept_all (λ n o m. Moves g.R.CountedRead.remaining g.R.CountedRead.can_fail (take n o.held) o m) cs os c.loop-shard.parts count
    (subst (λ k. KeptTo (λ n o m. Moves g.R.CountedRead.remaining g.R.CountedRead.can_fail (take n o.held) o m) k cs os c.loop-shard.parts) last c.loop-shard.invariant)
