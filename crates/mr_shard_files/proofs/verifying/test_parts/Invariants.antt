use Rattle.std.proofs.Common.{◌≡◌, ℕ, List, length}
use Rattle.mr_shard_files.specs.Pairs.{IsTotalOf}
use Rattle.mr_shard_files.specs.Verified.{AreNoted}
use Rattle.mr_shard_files.proofs.verifying.test_parts.Given as goal

abbrev pub invariant-loop-partition : goal.invariant-loop-partition
invariant-loop-partition g l = record {
  texts : List (List ℕ);
  count : length texts ≡ l.partition;
  parts : AreNoted (g.S.Store.holds l.store) l.beside l.verdict 0 texts;
  total : IsTotalOf l.job texts l.total;
}
