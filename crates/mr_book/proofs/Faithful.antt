-- A book whose job is done by faithful workers.
use Rattle.std.proofs.Common.{◌≡◌, ℕ, ◌≤◌, List, arith}
use Rattle.std.specs.Prelude.{Some}
use Rattle.mr_jobs.specs.JobSpec.{RequestSpec}
use Rattle.mr_core.specs.declared.event.End.{End}
use Rattle.mr_core.specs.Core.{InLimits}
use Rattle.mr_book.specs.Faithful.{IsFaithful, IsOpenedFor}
use Rattle.mr_book.specs.AssembledLaws.{IsDone}
use Rattle.mr_book.specs.View.{BookView, IsKept}
use Rattle.mr_book.specs.Assembling.{reduced_under}

pub is_done : (request : RequestSpec) (files : List (List ℕ)) (b : BookView) → 1 ≤ request.split → InLimits b.shape → IsOpenedFor request files b.shape → IsKept b → b.state.end ≡ Some End.Done
    → IsFaithful request files b.history b.state (reduced_under b.reduces) → IsDone request files b.shape b.history b.state (reduced_under b.reduces)
is_done request files b split limits opened kept ends faithful = record {
  split = omega (arith, split);
  parts = limits.parts.0;
  attempts = limits.attempts.0;
  opened = opened;
  run = kept.run;
  ends = ends;
  faithful = faithful;
}
