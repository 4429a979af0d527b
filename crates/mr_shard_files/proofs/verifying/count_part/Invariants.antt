use Rattle.std.proofs.Common.{ℕ, List}
use Rattle.mr_shards.specs.Lines.{EndsLine, lines}
use Rattle.mr_shard_files.specs.Streams.{Moves}
use Rattle.mr_shard_files.specs.Pairs.{IsTotal}
use Rattle.mr_shard_files.proofs.verifying.count_part.Given as goal

abbrev pub invariant-loop : goal.invariant-loop
invariant-loop g l = record {
  passed : List ℕ;
  moves : Moves g.R.CountedRead.remaining g.R.CountedRead.can_fail passed l.initial.part l.part;
  whole : EndsLine passed;
  total : IsTotal l.job (lines passed) l.total;
}
