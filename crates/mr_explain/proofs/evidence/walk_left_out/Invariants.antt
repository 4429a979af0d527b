use Rattle.std.proofs.Common.{◌≡◌, ◌*◌, ◌^◌, ◌≤◌, take}
use Rattle.std.specs.Prelude.{codes}
use Rattle.std.specs.List.{filter_map}
use Rattle.mr_splits.specs.Cut.{record_named, records_of}
use Rattle.mr_explain.specs.Walking.{HasWalked, IsCounted}
use Rattle.mr_explain.proofs.evidence.walk_left_out.Given as goal

abbrev pub invariant-loop-name : goal.invariant-loop-name
invariant-loop-name g l = record {
  mapper : l.walk.mapper ≡ l.fn.walk.mapper;
  needle : l.walk.needle ≡ l.fn.walk.needle;
  counted : IsCounted l.query.plan.now.files l.walk.lines;
  few : (l.walk.totals.pairs ≤ l.name-index * 2 ^ 31) × (l.walk.totals.records ≤ l.name-index);
  walked : HasWalked l.query (codes "left out:") (filter_map (record_named (records_of l.query.plan.now)) (take l.name-index l.query.skips.now)) l.walk.totals
      (g.W.CountedWrite.seen l.fn.writer) (g.W.CountedWrite.seen l.writer);
}
