use Rattle.std.proofs.Common.{◌≡◌, ◌*◌, ◌^◌, ◌≤◌, ◌++◌, [], List, All, length}
use Rattle.mr_splits.specs.Named.{NamedRecord}
use Rattle.mr_sequential.proofs.LineLemmas.{Stands}
use Rattle.mr_explain.specs.Explained.{kept_of}
use Rattle.mr_explain.specs.Walking.{HasWalked, IsCounted}
use Rattle.mr_explain.proofs.evidence.walk_kept.Given as goal

abbrev pub invariant-loop-line : goal.invariant-loop-line
invariant-loop-line g l = record {
  mapper : l.walk.mapper ≡ l.fn.walk.mapper;
  needle : l.walk.needle ≡ l.fn.walk.needle;
  counted : IsCounted l.query.plan.now.files l.walk.lines;
  lines : All (Stands l.query.plan.now.files) l.left;
  few : (done : List NamedRecord) × (done ++ l.left ≡ kept_of l.query) × (l.walk.totals.pairs ≤ length done * 2 ^ 31)
      × HasWalked l.query [] done l.walk.totals (g.W.CountedWrite.seen l.fn.writer) (g.W.CountedWrite.seen l.writer);
}

abbrev pub decreases-loop-line : goal.decreases-loop-line
decreases-loop-line g l = length l.left
