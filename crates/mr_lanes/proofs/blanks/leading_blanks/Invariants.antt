use Rattle.std.proofs.Common.{length, drop, ◌-◌, ◌+◌, ◌≡◌, ◌≤◌}
use Rattle.std.specs.List.{prefix_len}
use Rattle.mr_lanes.specs.Blanks.{is_blank}
use Rattle.mr_lanes.proofs.blanks.leading_blanks.Given as goal

abbrev pub invariant-loop-at : goal.invariant-loop-at
invariant-loop-at l = record {
  within : l.at ≤ length l.bytes;
  same : prefix_len is_blank l.bytes ≡ l.at + prefix_len is_blank (drop l.at l.bytes);
}

abbrev pub decreases-loop-at : goal.decreases-loop-at
decreases-loop-at l = length l.bytes - l.at

abbrev pub invariant-loop-place : goal.invariant-loop-place
invariant-loop-place l = record {
  within : l.place ≤ length l.bytes;
  same : prefix_len is_blank l.bytes ≡ l.place + prefix_len is_blank (drop l.place l.bytes);
}

abbrev pub decreases-loop-place : goal.decreases-loop-place
decreases-loop-place l = length l.bytes - l.place

abbrev pub invariant-loop-near : goal.invariant-loop-near
invariant-loop-near l = record {
  within : l.near ≤ length l.bytes;
  same : prefix_len is_blank l.bytes ≡ l.near + prefix_len is_blank (drop l.near l.bytes);
}

abbrev pub decreases-loop-near : goal.decreases-loop-near
decreases-loop-near l = length l.bytes - l.near
