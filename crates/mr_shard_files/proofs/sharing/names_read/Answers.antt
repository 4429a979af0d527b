use Rattle.std.proofs.Common.{List, ℕ, map, string_bytes, subst, sym, take}
use Rattle.mr_files.proofs.Lists.{names_more}
use Rattle.mr_shard_files.specs.Sharing.{AreBeside}
use Rattle.mr_shard_files.proofs.SharingLemmas.{beside_more}
use Rattle.mr_shard_files.proofs.sharing.names_read.Goals as goal

pub loop-shard-preserved : goal.loop-shard-preserved
loop-shard-preserved c =
    let names = c.args.names.now in
    let i = c.loop-shard.shard in
    let before = map (λ s. s.now) (take i names) in
    subst (λ (ns : List (List ℕ)). AreBeside c.args.parts ns (map string_bytes c.add_parts.new.names.items)) (sym (names_more (λ s. s.now) names i _ c.loop-shard-test.true))
    (subst (AreBeside c.args.parts _) (sym c.in_ok-add_parts.ensures) (beside_more c.args.parts before (map string_bytes c.loop-shard.read.items) _ c.folder_of.result.now c.folder_of.ensures c.loop-shard.invariant))
