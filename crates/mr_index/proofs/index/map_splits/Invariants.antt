use Rattle.std.proofs.Common.{◌≡◌, ℕ, ◌+◌, ◌-◌, ◌≤◌, ◌<◌, [], length, slice_index_or}
use Rattle.mr_splits.specs.Cut.{records_of}
use Rattle.mr_splits.specs.Laws.{joined_splits}
use Rattle.mr_index.specs.Index.{mapped_among, triples_in, triples_of}
use Rattle.mr_index.proofs.index.map_splits.Given as goal

abbrev pub invariant-loop-split : goal.invariant-loop-split
invariant-loop-split g l = record {
  within : l.split ≤ l.splits;
  many : length l.parts.items ≡ l.split;
  each : (s : ℕ) → s < length l.parts.items → slice_index_or l.parts.items s [] ≡ triples_in s (triples_of l.fn.mapping.mapper.job l.kept.cut l.kept.skips);
  counted : l.mapping.mapped + mapped_among l.kept.skips (joined_splits l.split (l.splits - l.split) (records_of l.kept.cut))
      ≡ l.fn.mapping.mapped + mapped_among l.kept.skips (records_of l.kept.cut);
  more : l.fn.mapping.mapped ≤ l.mapping.mapped;
  mapper : l.mapping.mapper ≡ l.fn.mapping.mapper;
}
