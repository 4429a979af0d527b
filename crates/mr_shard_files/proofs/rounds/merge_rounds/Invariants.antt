use Rattle.std.proofs.Common.{◌≡◌, ℕ, List, length}
use Rattle.mr_shard_files.specs.Made.{HasWritten}
use Rattle.mr_shard_files.specs.Streams.{AllAre, Moves}
use Rattle.mr_shard_files.proofs.RoundLemmas.{Stands}
use Rattle.mr_shard_files.proofs.rounds.merge_rounds.Given as goal

abbrev pub invariant-loop : goal.invariant-loop
invariant-loop g l = record {
  count : length l.parts ≡ length l.merger.held;
  passed : List (List ℕ);
  moved : AllAre (Moves g.R.CountedRead.remaining g.R.CountedRead.can_fail) passed l.initial.parts l.parts;
  written : List ℕ;
  stands : Stands g.R.CountedRead.remaining g.R.CountedRead.can_fail l.job l.files passed l.parts l.merger written;
  made : HasWritten g.W.CountedWrite.seen written l.made;
  later : g.W.CountedWrite.can_fail l.made.writer → g.W.CountedWrite.can_fail l.initial.made.writer;
  named : l.made.name ≡ l.initial.made.name;
}
