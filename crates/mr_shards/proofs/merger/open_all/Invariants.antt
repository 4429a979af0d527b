use Rattle.std.proofs.Common.{◌≡◌, ◌<◌, length, ℕ, get_or}
use Rattle.mr_shards.specs.declared.cursor.Cursor.{Cursor}
use Rattle.mr_shards.specs.declared.cursor.Held.{Held}
use Rattle.mr_shards.specs.declared.merger.Window.{Window}
use Rattle.mr_shards.specs.Cursors.{IsOpen}
use Rattle.mr_shards.proofs.merger.open_all.Given as goal

abbrev pub invariant-loop-shard : goal.invariant-loop-shard
invariant-loop-shard l = record {
  count : length l.cursors.items ≡ l.shard;
  at : (i : ℕ) (h : Held) (w : Window) (c : Cursor) → i < l.shard
      → IsOpen l.job (get_or l.held i h) (get_or l.windows i w).bytes.now (get_or l.windows i w).is_last (get_or l.cursors.items i c);
}
