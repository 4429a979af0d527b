use Rattle.std.proofs.Common.{length, ◌-◌, ◌+◌, ℕ, ◌++◌, ◌≤◌, take}
use Rattle.mr_records.specs.Records.{records}
use Rattle.mr_input.specs.Files.{split_total, nth_file}
use Rattle.mr_splits.specs.Named.{named_from}
use Rattle.mr_splits.specs.Table.{listed}
use Rattle.mr_splits.proofs.TableLemmas.{Cutting}
use Rattle.mr_splits.proofs.split_table.cut_file.Given as goal

abbrev pub invariant-loop-start : goal.invariant-loop-start
invariant-loop-start l = record {
  cut : (j : ℕ) × Cutting l.size l.input l.i
      (listed l.input l.fn.table.ends.items 0 l.fn.table.rows.items
      ++ named_from l.size l.i (split_total l.size (take l.i l.input)) (split_total l.size (take l.i l.input)) 0 (records (nth_file l.input l.i)))
      l.start l.next l.table.ends.items l.table.rows.items j;
  within : l.start ≤ length l.bytes;
  inside : l.next ≤ length l.bytes + 1;
}

abbrev pub decreases-loop-start : goal.decreases-loop-start
decreases-loop-start l = length l.bytes - l.start
