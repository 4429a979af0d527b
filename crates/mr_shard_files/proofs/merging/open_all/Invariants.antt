use Rattle.std.proofs.Common.{◌≡◌, length, map, take}
use Rattle.mr_shard_files.specs.Streams.{AreOpened, AreRows}
use Rattle.mr_shard_files.proofs.merging.open_all.Given as goal

abbrev pub invariant-loop-partition : goal.invariant-loop-partition
invariant-loop-partition g l = record {
  count : length l.rows.items ≡ l.partition;
  rows : AreRows (g.S.Store.holds l.store) (g.S.Store.unreadable l.store) g.S.Reader.CountedRead.remaining g.S.Reader.CountedRead.can_fail (map (λ s. s.now) l.names) l.verdicts 0 l.rows.items;
}

abbrev pub invariant-loop-shard : goal.invariant-loop-shard
invariant-loop-shard g l = AreOpened (g.S.Store.holds l.store) (g.S.Store.unreadable l.store) g.S.Reader.CountedRead.remaining g.S.Reader.CountedRead.can_fail l.partition (map (λ s. s.now) (take l.shard l.names)) (take l.shard l.verdicts) l.parts.items
