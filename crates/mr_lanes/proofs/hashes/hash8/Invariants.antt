use Rattle.std.proofs.Common.{◌≡◌, ℕ, ◌-◌, ◌<◌, ◌≤◌, length, get_or, drop}
use Rattle.mr_lanes.specs.Hashes.{fnv, fnv_from, key_at}
use Rattle.mr_lanes.proofs.hashes.hash8.Given as goal

abbrev pub invariant-loop-at : goal.invariant-loop-at
invariant-loop-at l = record {
  within : l.at ≤ l.shared;
  each : (i : ℕ) → i < 8 → fnv_from (get_or l.lanes i 0) (drop l.at (key_at l.keys i)) ≡ fnv (key_at l.keys i);
}

abbrev pub decreases-loop-at : goal.decreases-loop-at
decreases-loop-at l = l.shared - l.at

abbrev pub invariant-loop-i : goal.invariant-loop-i
invariant-loop-i l = record {
  long : length l.hashes ≡ 8;
  done : (k : ℕ) → k < l.i → get_or l.hashes k 0 ≡ fnv (key_at l.keys k);
  left : (k : ℕ) → l.i ≤ k → k < 8 → fnv_from (get_or l.hashes k 0) (drop l.shared (key_at l.keys k)) ≡ fnv (key_at l.keys k);
}
