use Rattle.std.proofs.Common.{◌≡◌, ◌++◌, map, take}
use Rattle.mr_book.specs.Assembled.{in_split}
use Rattle.mr_book.proofs.assembling.push_records.Given as goal

abbrev pub invariant-loop-number : goal.invariant-loop-number
invariant-loop-number l = l.records.items ≡ l.fn.records.items ++ map (in_split l.split) (take l.number-index l.numbers)
