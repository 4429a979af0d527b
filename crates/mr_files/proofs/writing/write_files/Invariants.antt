use Rattle.std.proofs.Common.{take, ℕ, List}
use Rattle.mr_input.specs.Files.{contents}
use Rattle.mr_files.specs.Holding.{Holding, ChangesAmong}
use Rattle.mr_files.specs.Names.{part_names}
use Rattle.mr_files.proofs.writing.write_files.Given as goal

abbrev pub invariant-loop-part : goal.invariant-loop-part
invariant-loop-part g l = record {
  whole : Holding (g.S.Store.holds l.store) (part_names l.dir l.part) (contents (take l.part l.outputs));
  others : ChangesAmong (g.S.Store.holds l.initial.store) (g.S.Store.holds l.store) (part_names l.dir l.part);
  still : (n : List ℕ) → g.S.Store.unwritable l.store n → g.S.Store.unwritable l.initial.store n;
}
