use Rattle.std.specs.Prelude.{◌≤◌, length}
use Rattle.std.specs.List.{AllByRecursion}
use Rattle.mr_input.specs.Files.{contents}
use Rattle.mr_files.specs.Holding.{Holding}
use Rattle.mr_files.specs.Names.{part_names}
use Rattle.mr_files.proofs.reading.read_result_within.Given as goal

abbrev pub invariant-loop-part : goal.invariant-loop-part
invariant-loop-part g l = record {
  held : Holding (g.S.Store.holds l.store) (part_names l.dir l.part) (contents l.outputs.items);
  few : AllByRecursion (λ b. length b ≤ l.limit) (contents l.outputs.items);
}
