use Rattle.std.proofs.Common.{◌≡◌, ◌++◌, length, take, drop}
use Rattle.mr_input.specs.Files.{split_total}
use Rattle.mr_splits.specs.Named.{named_files, named_records}
use Rattle.mr_splits.specs.Table.{Stands, listed}
use Rattle.mr_splits.proofs.split_table.cut_files.Given as goal

abbrev pub invariant-loop-i : goal.invariant-loop-i
invariant-loop-i l = record {
  rows : length l.table.rows.items ≡ split_total l.size (take l.i l.input);
  stands : Stands l.size l.input l.table.ends.items l.table.rows.items;
  said : listed l.input l.table.ends.items 0 l.table.rows.items ++ named_files l.size l.i (split_total l.size (take l.i l.input)) (drop l.i l.input)
      ≡ named_records l.size l.input;
}
