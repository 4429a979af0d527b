use Rattle.std.proofs.Common.{◌≡◌, ◌+◌, take, length}
use Rattle.std.specs.List.{sum_by}
use Rattle.mr_core.specs.declared.entries.Split.{Split}
use Rattle.mr_core.proofs.splits.Splits.has_room.Given as goal

abbrev pub invariant-loop-split : goal.invariant-loop-split
invariant-loop-split l = l.room + sum_by (λ (sp : Split). length sp.skips) (take l.split-index l.splits) ≡ l.limit
