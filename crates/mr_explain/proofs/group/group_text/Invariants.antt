use Rattle.std.proofs.Common.{◌≡◌, ◌*◌, ◌^◌, ◌≤◌, ◌++◌, List, All, length}
use Rattle.mr_splits.specs.Named.{NamedRecord}
use Rattle.mr_sequential.proofs.LineLemmas.{Stands}
use Rattle.mr_explain.specs.Explained.{kept_of}
use Rattle.mr_explain.specs.Group.{values_in}
use Rattle.mr_explain.specs.Texts.{HasText}
use Rattle.mr_explain.proofs.group.group_text.Given as goal

abbrev pub invariant-loop-line : goal.invariant-loop-line
invariant-loop-line l = record {
  mapper : l.mapper ≡ record { job = l.fn.query.job.now; files = l.fn.query.plan.now.files };
  key : l.to.key.now ≡ l.fn.key;
  lines : All (Stands l.fn.query.plan.now.files) l.left;
  text : (done : List NamedRecord) × (done ++ l.left ≡ kept_of l.fn.query) × (l.to.count ≤ length done * 2 ^ 31)
      × HasText l.fn.query.job.now l.fn.key (values_in l.fn.query.job.now l.fn.key done) l.to;
}

abbrev pub decreases-loop-line : goal.decreases-loop-line
decreases-loop-line l = length l.left
