use Rattle.std.proofs.Common.{◌≡◌, ◌≤◌, ◌+◌, ◌-◌, drop, length, map}
use Rattle.mr_records.specs.Records.{records_from}
use Rattle.mr_explain.specs.Compared.{comparison, compared, with_feed, with_key}
use Rattle.mr_explain.proofs.comparing.compare.Given as goal

abbrev pub invariant-loop-end : goal.invariant-loop-end
invariant-loop-end l = record {
  within : l.expected ≤ length l.text;
  inside : l.at ≤ length l.part + 1;
  left : compared l.part (with_key l.part l.key (records_from l.at (drop l.at l.part)))
      (map (with_feed l.text) (records_from l.expected (drop l.expected l.text))) ≡ comparison l.part l.key l.text;
}

abbrev pub decreases-loop-end : goal.decreases-loop-end
decreases-loop-end l = length l.part + 1 - l.at
