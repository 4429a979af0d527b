use Rattle.std.proofs.Common.{◌≡◌, ◌+◌, ◌∷◌, ◌++◌, [], rules}
use Rattle.mr_files.specs.Names.{name_of_part, part_names}
use Rattle.mr_files.proofs.Lists.{holding_contents, parts_more, parts_none}
use Rattle.mr_commands.proofs.accepting.read_parts.Goals as goal

pub loop-part-init : goal.loop-part-init
loop-part-init g c = rw (parts_none c.args.dir.now) (rw c.new-outputs.ensures.items tt)

pub loop-part-preserved : goal.loop-part-preserved
loop-part-preserved g c =
    let i = c.loop-part.part in
    let dir = c.args.dir.now in
    let was = c.loop-part.outputs.items in
    let bytes = c.in_ok-bytes.bytes in
    let pushed : c.push.new.self.items ≡ was ++ bytes ∷ [] = search rules in
    holding_contents (g.S.Store.holds c.args.store.now) (part_names dir i) was c.push.new.self.items (part_names dir (i + 1)) (name_of_part dir i) bytes (parts_more dir i) pushed c.loop-part.invariant c.in_ok-bytes.ensures.bytes
