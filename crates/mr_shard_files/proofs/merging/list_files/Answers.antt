use Rattle.std.proofs.Common.{◌∙◌, ap, arith, length}
use Rattle.mr_shards.specs.Verdict.{Told}
use Rattle.mr_shard_files.proofs.PartLemmas.{inputs_count}
use Rattle.mr_shard_files.proofs.merging.list_files.Goals as goal

pub shard_files-requires : goal.shard_files-requires
shard_files-requires c =
    let vs = c.args.verdicts.now in
    let i = c.loop-shard.shard in
    let d = c.index-verdicts-shard.result in
    let own = ap length c.as_slice-ranges.ensures.value ∙ ap (λ (v : Told). length v.inputs) (c.verdict.view_is ∙ c.index-verdicts-shard.is) in
    omega (arith, own, inputs_count vs i d c.loop-shard-test.true, c.requires.few, ap length c.requires.all)
