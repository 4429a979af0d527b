use Rattle.std.proofs.Common.{◌≡◌, ℕ, ◌+◌, ◌≤◌, ◌++◌, List, length}
use Rattle.mr_bytes.specs.declared.Value.{Value}
use Rattle.mr_jobs.specs.JobSpec.{JobSpec}
use Rattle.mr_jobs.specs.Pairs.{pairs_of}
use Rattle.mr_explain.specs.Group.{values_with}
use Rattle.mr_explain.specs.Texts.{HasText}
use Rattle.mr_explain.proofs.group.add_values.Given as goal

abbrev pub invariant-loop-found : goal.invariant-loop-found
invariant-loop-found l = record {
  key : l.to.key ≡ l.fn.to.key;
  few : l.to.count + length l.left ≤ l.fn.to.count + length (pairs_of l.fn.pairs);
  text : (done : List Value) × (done ++ values_with l.fn.to.key.now l.left ≡ values_with l.fn.to.key.now (pairs_of l.fn.pairs))
      × ((job : JobSpec) (of : List ℕ) (values : List Value) → HasText job of values l.fn.to → HasText job of (values ++ done) l.to);
}

abbrev pub decreases-loop-found : goal.decreases-loop-found
decreases-loop-found l = length l.left
