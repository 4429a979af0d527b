use Rattle.std.proofs.Common.{◌≡◌, ◌≤◌, length}
use Rattle.mr_jobs.specs.Fields.{field_behind}
use Rattle.mr_jobs.proofs.field.field_behind.Given as goal

abbrev pub invariant-loop-left : goal.invariant-loop-left
invariant-loop-left l = record {
  short : length l.rest ≤ length l.line;
  same : field_behind l.separator l.before l.line ≡ field_behind l.separator l.left l.rest;
}

abbrev pub decreases-loop-left : goal.decreases-loop-left
decreases-loop-left l = l.left
