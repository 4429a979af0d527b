use Rattle.std.proofs.Common.{ℕ, ◌<◌, [], map}
use Rattle.std.specs.Prelude.{slice_index_or, Contains}
use Rattle.mr_commands.proofs.judging.first_line_end.Given as goal

abbrev pub invariant-loop-at : goal.invariant-loop-at
invariant-loop-at l = (k : ℕ) → k < l.at → ¬ Contains (slice_index_or (map (λ s. s.now) l.names) k []) 10
