use Rattle.std.proofs.Common.{◌≡◌, ◌∷◌, ◌++◌, [], subst, rules, arith}
use Rattle.std.proofs.lemmas.List.{take_all}
use Rattle.mr_shard_files.specs.Streams.{AreTailsOf}
use Rattle.mr_shard_files.proofs.TailLemmas.{tails_next, tails_taken}
use Rattle.mr_shard_files.proofs.tails.tails_of.Goals as goal

pub loop-shard-preserved : goal.loop-shard-preserved
loop-shard-preserved g c =
    let q = c.index-parts-shard.result in
    let t = c.tail_of.result in
    let pushed : c.push.new.self.items ≡ c.loop-shard.tails.items ++ t ∷ [] = search rules in
    tails_next c.args.parts.now c.loop-shard.shard q q c.loop-shard.tails.items c.push.new.self.items t c.loop-shard-test.true c.index-parts-shard.is c.tail_of.ensures.hasher c.tail_of.ensures.bytes
    pushed c.loop-shard.invariant

pub returns-clause-next : goal.returns-clause-next
returns-clause-next g c hs a =
    tails_taken c.args.parts.now c.loop-shard.tails.items hs
    (subst (λ qs. AreTailsOf qs c.loop-shard.tails.items) (take_all c.loop-shard.shard c.args.parts.now (omega arith)) c.loop-shard.invariant) a
