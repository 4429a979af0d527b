use Rattle.std.proofs.Common.{List, ℕ}
use Rattle.mr_shards.proofs.FieldLemmas.{AreReadSo}
use Rattle.mr_shards.specs.Index.{size_left}
use Rattle.mr_shards.proofs.file_numbers.last_file.Given as goal

abbrev pub invariant-loop-left : goal.invariant-loop-left
invariant-loop-left l = (done : List ℕ) × AreReadSo l.list l.left l.last done

abbrev pub decreases-loop-left : goal.decreases-loop-left
decreases-loop-left l = size_left l.left
