use Rattle.std.proofs.Common.{ℕ, ◌<◌}
use Rattle.mr_shard_files.specs.Pairs.{FitsAt}
use Rattle.mr_shard_files.proofs.pairs.test_totals.Given as goal

abbrev pub invariant-loop-shard : goal.invariant-loop-shard
invariant-loop-shard l = (i : ℕ) → i < l.shard → FitsAt l.job l.verdicts l.totals i
