use Rattle.std.proofs.Common.{◌≡◌, ◌+◌, None, get_or, suc, length, subst, arith}
use Rattle.std.proofs.Math.ListN.{set}
use Rattle.mr_shards.specs.Rounds.{no_held}
use Rattle.mr_shard_files.specs.Pairs.{IsAdded, IsSumOf}
use Rattle.mr_shard_files.proofs.AllLemmas.{KeptTo, kept_all, kept_more}
use Rattle.mr_shard_files.proofs.pairs.add_pairs.Goals as goal

pub loop-shard-preserved : goal.loop-shard-preserved
loop-shard-preserved c =
    let i = c.loop-shard.shard in
    let hs = c.args.merger.now.held in
    let ts = c.loop-shard.totals in
    let sum = c.sum_of.result in
    let next : suc i ≡ i + 1 = omega arith in
    subst (λ k. KeptTo IsAdded k hs c.args.totals.now (set ts i sum)) next
    (kept_more IsAdded i hs c.args.totals.now ts no_held None sum (omega (arith, c.requires, c.loop-shard-test.true)) c.loop-shard-test.true c.loop-shard.invariant
    (subst (λ b. IsSumOf (get_or ts i None) b sum) c.pairs.ensures c.sum_of.ensures))

pub returns : goal.returns
returns c =
    let hs = c.args.merger.now.held in
    let os = c.args.totals.now in
    let count = c.requires in
    let last : c.loop-shard.shard ≡ length hs = omega (arith, count) in
    kept_all IsAdded hs os c.loop-shard.totals (omega (arith, count)) (subst (λ k. KeptTo IsAdded k hs os c.loop-shard.totals) last c.loop-shard.invariant)
