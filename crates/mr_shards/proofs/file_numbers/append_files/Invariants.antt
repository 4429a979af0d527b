use Rattle.std.proofs.Common.{List, ℕ, Option}
use Rattle.mr_shards.proofs.FieldLemmas.{AreReadSo, IsWritten}
use Rattle.mr_shards.specs.Index.{size_left}
use Rattle.mr_shards.proofs.file_numbers.append_files.Given as goal

abbrev pub invariant-loop-left : goal.invariant-loop-left
invariant-loop-left l = (before : Option ℕ) × (done : List ℕ) × AreReadSo l.list l.left before done × IsWritten l.moved l.fn.before l.fn.text.items done l.end l.text.items

abbrev pub decreases-loop-left : goal.decreases-loop-left
decreases-loop-left l = size_left l.left
