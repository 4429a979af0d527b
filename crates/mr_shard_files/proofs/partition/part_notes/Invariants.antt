use Rattle.std.proofs.Common.{◌≡◌, take}
use Rattle.mr_input.specs.Files.{contents}
use Rattle.mr_files.specs.Names.{part_files}
use Rattle.mr_shards.specs.Truth.{notes_for}
use Rattle.mr_shard_files.proofs.partition.part_notes.Given as goal

abbrev pub invariant-loop-partition : goal.invariant-loop-partition
invariant-loop-partition l = l.notes.items ≡ notes_for (part_files l.partition) (contents (take l.partition l.outputs))
