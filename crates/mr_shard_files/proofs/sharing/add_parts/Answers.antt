use Rattle.std.proofs.Common.{◌≡◌, ◌++◌, ◌∷◌, [], map, rules, string_bytes}
use Rattle.mr_shard_files.proofs.SharingLemmas.{none_added, one_added}
use Rattle.mr_shard_files.proofs.sharing.add_parts.Goals as goal

pub loop-part-init : goal.loop-part-init
loop-part-init c = none_added c.args.folder.now (map string_bytes c.args.names.now.items)

pub loop-part-preserved : goal.loop-part-preserved
loop-part-preserved c =
    let pushed : c.push.new.self.items ≡ c.loop-part.names.items ++ c.in_ok-name.name ∷ [] = search rules in
    one_added c.args.folder.now c.loop-part.part (map string_bytes c.args.names.now.items) c.loop-part.names.items c.push.new.self.items c.in_ok-name.name pushed c.in_ok-name.ensures c.loop-part.invariant
