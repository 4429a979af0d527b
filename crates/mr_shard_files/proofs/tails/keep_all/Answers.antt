use Rattle.std.proofs.Common.{◌≡◌, ◌+◌, ◌<◌, suc, length, subst, arith}
use Rattle.std.proofs.Math.ListN.{set}
use Rattle.mr_shard_files.specs.Streams.{IsDigested}
use Rattle.mr_shard_files.proofs.AllLemmas.{KeptTo, kept_all, kept_more, kept_same}
use Rattle.mr_shard_files.proofs.TailLemmas.{next_count, next_kept}
use Rattle.mr_shard_files.proofs.tails.keep_all.Goals as goal

pub bounds-hashers-shard : goal.bounds-hashers-shard
bounds-hashers-shard g c = omega (arith, next_count c.args.parts.now c.args.hashers.now c.requires, c.loop-shard-test.true)

pub keep_digest-requires : goal.keep_digest-requires
keep_digest-requires g c =
    let i = c.loop-shard.shard in
    let d = c.index-parts-shard.result in
    let hs = c.args.hashers.now in
    let os = c.args.parts.now in
    rw c.in_ok-clone.ensures.cases (next_kept os c.loop-shard.parts hs i d _ (kept_same (λ _ o n. IsDigested o n) i hs os c.loop-shard.parts d c.loop-shard.invariant) c.requires c.loop-shard-test.true)

pub loop-shard-preserved : goal.loop-shard-preserved
loop-shard-preserved g c =
    let i = c.loop-shard.shard in
    let d = c.index-parts-shard.result in
    let hs = c.args.hashers.now in
    let os = c.args.parts.now in
    let less : i < length hs = omega (arith, next_count os hs c.requires, c.loop-shard-test.true) in
    let next : suc i ≡ i + 1 = omega arith in
    subst (λ k. KeptTo (λ _ o n. IsDigested o n) k hs os (set c.loop-shard.parts i c.keep_digest.new.self)) next
    (kept_more (λ _ o n. IsDigested o n) i hs os c.loop-shard.parts d.hasher d c.keep_digest.new.self less c.loop-shard-test.true c.loop-shard.invariant c.keep_digest.ensures)

pub returns : goal.returns
returns g c =
    let hs = c.args.hashers.now in
    let os = c.args.parts.now in
    let count = next_count os hs c.requires in
    let last : c.loop-shard.shard ≡ length hs = omega (arith, count) in
    kept_all (λ _ o n. IsDigested o n) hs os c.loop-shard.parts count
    (subst (λ k. KeptTo (λ _ o n. IsDigested o n) k hs os c.loop-shard.parts) last c.loop-shard.invariant)
