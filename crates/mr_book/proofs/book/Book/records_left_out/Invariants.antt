use Rattle.std.proofs.Common.{◌≡◌, take}
use Rattle.mr_book.specs.Assembled.{records_from}
use Rattle.mr_book.specs.Assembling.{sets_of}
use Rattle.mr_book.proofs.book.Book.records_left_out.Given as goal

abbrev pub invariant-loop-split : goal.invariant-loop-split
invariant-loop-split g l = l.records.items ≡ records_from 0 (take l.split (sets_of l.core.state))
