use Rattle.std.proofs.Common.{◌≡◌, ℕ, List, [], length, map}
use Rattle.mr_files.specs.Holding.{Begins, ChangesAmong, Holding}
use Rattle.mr_files.specs.Names.{merged_names, name_of_verdict, part_files, part_names}
use Rattle.mr_shards.specs.Truth.{notes_for}
use Rattle.mr_shard_files.specs.Beside.{ArePartitions}
use Rattle.mr_shard_files.specs.Streams.{AreRows}
use Rattle.mr_shard_files.proofs.RowLemmas.{AreSummed}
use Rattle.mr_shard_files.proofs.partition.partitions_written.Given as goal

abbrev pub invariant-loop-partition : goal.invariant-loop-partition
invariant-loop-partition g l = record {
  texts : List (List ℕ);
  count : length texts ≡ l.partition;
  all : length l.rows.items ≡ l.request.parts;
  opened : AreRows (g.S.Store.holds l.fn.store) (g.S.Store.unreadable l.fn.store) g.S.Reader.CountedRead.remaining g.S.Reader.CountedRead.can_fail (map (λ s. s.now) l.plan.names.now) l.verdicts l.partition l.rows.items;
  merged : ArePartitions (g.S.Store.holds l.fn.store) l.request.job (map (λ s. s.now) l.plan.names.now) l.verdicts texts;
  rows : AreSummed (g.S.Store.holds l.fn.store) l.request.job (map (λ s. s.now) l.plan.names.now) l.verdicts texts l.partition l.totals;
  totals : length l.totals ≡ length l.verdicts;
  notes_are : l.notes.items ≡ notes_for (part_files l.partition) texts;
  whole : Holding (g.S.Store.holds l.store) (part_names l.plan.out.now l.partition) texts;
  emptied : g.S.Store.holds l.store (name_of_verdict l.plan.out.now) [];
  begins : Begins (g.S.Store.holds l.fn.store) (g.S.Store.holds l.store) (name_of_verdict l.plan.out.now) [];
  others : ChangesAmong (g.S.Store.holds l.fn.store) (g.S.Store.holds l.store) (merged_names l.plan.out.now l.partition);
  still : (n : List ℕ) → g.S.Store.unwritable l.store n → g.S.Store.unwritable l.fn.store n;
}
