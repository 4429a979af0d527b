use Rattle.std.proofs.Common.{◌≡◌, ◌≤◌, ℕ, drop, take, length}
use Rattle.mr_store.specs.Devices.{with_bytes}
use Rattle.mr_store.proofs.writing.write_all.Given as goal

abbrev pub invariant-loop-rest : goal.invariant-loop-rest
invariant-loop-rest g l = record {
  cut : (k : ℕ) × (k ≤ length l.bytes) × (l.rest ≡ drop k l.bytes) × (g.W.CountedWrite.seen l.writer ≡ with_bytes (g.W.CountedWrite.seen l.initial.writer) (take k l.bytes)) × (k ≡ 0 → l.writer ≡ l.initial.writer);
  later : g.W.CountedWrite.can_fail l.writer → g.W.CountedWrite.can_fail l.initial.writer;
}

abbrev pub decreases-loop-rest : goal.decreases-loop-rest
decreases-loop-rest g l = length l.rest
