use Rattle.std.proofs.Common.{◌≡◌, ℕ, ◌≤◌, ◌<◌, [], length, slice_index_or}
use Rattle.mr_index.specs.Index.{triples_in, triples_of}
use Rattle.mr_rows_tests.proofs.index.parts_of.Given as goal

abbrev pub invariant-loop-split : goal.invariant-loop-split
invariant-loop-split l = record {
  within : l.split ≤ l.splits;
  many : length l.parts.items ≡ l.split;
  each : (s : ℕ) → s < length l.parts.items → slice_index_or l.parts.items s [] ≡ triples_in s (triples_of l.job l.kept.cut l.skips);
}
