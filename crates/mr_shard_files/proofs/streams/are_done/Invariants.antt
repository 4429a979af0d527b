use Rattle.std.proofs.Common.{◌≡◌, drop}
use Rattle.mr_shard_files.specs.Streams.{all_done}
use Rattle.mr_shard_files.proofs.streams.are_done.Given as goal

abbrev pub invariant-loop-part : goal.invariant-loop-part
invariant-loop-part g l = all_done (drop l.part-index l.parts) ≡ all_done l.parts
