use Rattle.std.proofs.Common.{◌≡◌, ◌≤◌, length}
use Rattle.mr_jobs.specs.Fields.{behind_blanks, stretch_behind}
use Rattle.mr_jobs.proofs.field.stretch_behind.Given as goal

abbrev pub invariant-loop-left : goal.invariant-loop-left
invariant-loop-left l = record {
  short : length l.rest ≤ length l.line;
  same : stretch_behind l.before (behind_blanks l.line) ≡ stretch_behind l.left l.rest;
}

abbrev pub decreases-loop-left : goal.decreases-loop-left
decreases-loop-left l = l.left
