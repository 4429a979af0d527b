use Rattle.mr_input.specs.Files.{contents}
use Rattle.mr_files.specs.Holding.{Holding}
use Rattle.mr_files.specs.Names.{part_names}
use Rattle.mr_commands.proofs.accepting.read_parts.Given as goal

abbrev pub invariant-loop-part : goal.invariant-loop-part
invariant-loop-part g l = Holding (g.S.Store.holds l.store) (part_names l.dir l.part) (contents l.outputs.items)
