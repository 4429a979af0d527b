use Rattle.std.specs.Prelude.{Option, sum_by, length}
use Rattle.mr_shards.specs.declared.cursor.Cursor.{Cursor}
use Rattle.mr_shards.specs.Cursors.{AreBehind}
use Rattle.mr_shards.specs.Rounds.{AreFurther, AreHeads, Goes}
use Rattle.mr_shards.specs.Merged.{Group}
use Rattle.mr_shards.specs.Views.{WaitsFor}
use Rattle.mr_shards.proofs.merger.merge_lines.Given as goal

abbrev pub invariant-loop-at : goal.invariant-loop-at
invariant-loop-at l = record {
  heads : AreHeads l.job l.cursors.items;
  further : AreFurther l.fn.cursors.items l.cursors.items;
  goes : (w : Option Group) → WaitsFor l.job l.fn.waiting w
      → (next : Option Group) × WaitsFor l.job l.waiting next × Goes l.job l.fn.cursors.items l.cursors.items w next l.out.items;
  behind : AreBehind l.last l.cursors.items;
}

abbrev pub decreases-loop-at : goal.decreases-loop-at
decreases-loop-at l = sum_by (λ (c : Cursor). length c.text.now) l.cursors.items
