use Rattle.std.proofs.Common.{◌≡◌, ◌++◌, map, string_bytes}
use Rattle.mr_files.specs.Names.{part_names}
use Rattle.mr_shard_files.proofs.sharing.add_parts.Given as goal

abbrev pub invariant-loop-part : goal.invariant-loop-part
invariant-loop-part l = map string_bytes l.names.items ≡ map string_bytes l.fn.names.items ++ part_names l.folder l.part
