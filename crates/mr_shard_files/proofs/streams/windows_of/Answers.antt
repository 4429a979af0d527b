use Rattle.std.proofs.Common.{◌≡◌, ◌∷◌, ◌++◌, [], rules}
use Rattle.mr_shards.specs.declared.merger.Window.{Window}
use Rattle.mr_shard_files.proofs.ShownLemmas.{shown_next}
use Rattle.mr_shard_files.proofs.streams.windows_of.Goals as goal

pub loop-shard-preserved : goal.loop-shard-preserved
loop-shard-preserved g c =
    let q = c.index-parts-shard.result in
    let w : Window = record { bytes = c.bytes.result; is_last = c.is_done.result } in
    let pushed : c.push.new.self.items ≡ c.loop-shard.windows.items ++ w ∷ [] = search rules in
    shown_next c.args.parts.now c.loop-shard.shard q q c.loop-shard.windows.items c.push.new.self.items w c.loop-shard-test.true c.index-parts-shard.is c.bytes.ensures c.is_done.ensures pushed c.loop-shard.invariant
