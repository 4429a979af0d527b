use Rattle.std.proofs.Common.{◌≡◌, ℕ, List, ◌+◌, ◌++◌, length, take}
use Rattle.mr_reduce.specs.Text.{text_of}
use Rattle.mr_judge.specs.Outputs.{CanCome as CanComeAhead}
use Rattle.mr_judge.proofs.lines.test_group.Given as goal

abbrev pub invariant-loop-i : goal.invariant-loop-i
invariant-loop-i g l = record {
  stood : (rest : List ℕ) (later : List (List ℕ)) → g.O.Outputs.gives l.outputs rest later
      → g.O.Outputs.gives l.initial.outputs (text_of l.job l.key (take l.i l.values) ++ rest) later;
  some : CanComeAhead (g.O.Outputs.gives l.outputs);
  place : g.O.Outputs.place l.outputs ≡ g.O.Outputs.place l.initial.outputs + length (text_of l.job l.key (take l.i l.values));
  begun : g.O.Outputs.begun l.outputs;
  count : g.O.Outputs.failed l.outputs ≡ g.O.Outputs.failed l.initial.outputs;
}
