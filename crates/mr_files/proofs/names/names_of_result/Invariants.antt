use Rattle.std.proofs.Common.{◌≡◌, map, string_bytes}
use Rattle.mr_files.specs.Names.{part_names}
use Rattle.mr_files.proofs.names.names_of_result.Given as goal

abbrev pub invariant-loop-part : goal.invariant-loop-part
invariant-loop-part l = map string_bytes l.names.items ≡ part_names l.dir l.part
