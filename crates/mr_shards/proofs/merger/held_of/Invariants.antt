use Rattle.std.proofs.Common.{◌≡◌, ◌++◌, drop, take}
use Rattle.mr_shards.specs.Portions.{no_shift}
use Rattle.mr_shards.specs.Rounds.{held_for, held_from, shift_for}
use Rattle.mr_shards.proofs.merger.held_of.Given as goal

abbrev pub invariant-loop-shard : goal.invariant-loop-shard
invariant-loop-shard l = record {
  all : l.all.items ++ held_from l.before (drop l.shard l.files) ≡ held_for l.files;
  before : l.before ≡ shift_for no_shift (take l.shard l.files);
}
