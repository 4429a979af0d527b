use Rattle.std.proofs.Common.{◌≡◌, ◌≤◌, ◌==◌, count_by, take}
use Rattle.mr_explain.proofs.lines.feeds_one_by_one.Given as goal

abbrev pub invariant-loop-b : goal.invariant-loop-b
invariant-loop-b l = record { few : l.feeds ≤ l.b-index; counted : l.feeds ≡ count_by (λ b. b == 10) (take l.b-index l.bytes) }
