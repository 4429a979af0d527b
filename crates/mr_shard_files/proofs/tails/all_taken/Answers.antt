use Rattle.std.proofs.Common.{◌≡◌, ◌∷◌, ◌++◌, [], rules, subst, sym}
use Rattle.sha2.specs.declared.Sha256.{Sha256}
use Rattle.sha2.specs.Hashers.{Holds256}
use Rattle.mr_shard_files.proofs.TailLemmas.{taken_next}
use Rattle.mr_shard_files.proofs.tails.all_taken.Goals as goal

pub loop-shard-preserved : goal.loop-shard-preserved
loop-shard-preserved c =
    let hasher = c.update.new.self in
    let pushed : c.push.new.self.items ≡ c.loop-shard.hashers.items ++ hasher ∷ [] = search rules in
    taken_next c.args.tails.now c.loop-shard.shard _ c.loop-shard.hashers.items c.push.new.self.items hasher c.loop-shard-test.true (λ m h. c.update.ensures m (subst (λ (x : Sha256). Holds256 x m) (sym c.in_ok-hasher.ensures.cases) h)) pushed c.loop-shard.invariant
