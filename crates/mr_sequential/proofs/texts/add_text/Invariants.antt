use Rattle.std.proofs.Common.{◌≡◌, ◌++◌, List, All, map, length}
use Rattle.mr_bytes.specs.declared.Name.{Name}
use Rattle.mr_reduce.specs.Writing.{Writes}
use Rattle.mr_splits.specs.Cut.{records_of}
use Rattle.mr_sequential.specs.Names.{IsOfRecord, value_under}
use Rattle.mr_sequential.proofs.texts.add_text.Given as goal

abbrev pub invariant-loop-name : goal.invariant-loop-name
invariant-loop-name l =
    (done : List Name) × (done ++ l.left ≡ l.fn.names) × All (IsOfRecord l.plan) l.left
    × Writes l.job l.key (map (value_under l.job (records_of l.plan)) done) l.fn.text.items l.writer l.text.items

abbrev pub decreases-loop-name : goal.decreases-loop-name
decreases-loop-name l = length l.left
