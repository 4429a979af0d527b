use Rattle.std.proofs.Common.{◌≡◌, ◌≤◌, ◌-◌, drop, length, take}
use Rattle.std.specs.List.{flat_map}
use Rattle.mr_splits.specs.Cut.{records_of}
use Rattle.mr_splits.specs.Named.{of_split}
use Rattle.mr_task.specs.Runs.{AreAlike, AreOf, HasTaken}
use Rattle.mr_task.specs.Values.{record_gives}
use Rattle.mr_task.proofs.map.take_records.Given as goal

abbrev pub invariant-loop-next : goal.invariant-loop-next
invariant-loop-next g l =
    let rs = of_split l.fn.runs.split (records_of l.records.plan.now) in
    record {
      low : l.from ≤ l.next;
      high : l.next ≤ length rs;
      same : AreAlike l.fn.runs l.runs;
      own : AreOf l.runs.split l.runs.buffer.pairs;
      mapper : l.mapper ≡ record { job = l.records.job.now; files = l.records.plan.now.files };
      taken : HasTaken (flat_map (record_gives l.records.job.now l.records.left_out.items) (drop l.from (take l.next rs))) l.runs;
    }

abbrev pub decreases-loop-next : goal.decreases-loop-next
decreases-loop-next g l = l.count - l.next
