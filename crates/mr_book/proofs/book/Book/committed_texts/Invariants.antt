use Rattle.std.proofs.Common.{◌≡◌, map, take}
use Rattle.mr_input.specs.Files.{contents}
use Rattle.mr_task.specs.Values.{Reduced}
use Rattle.mr_book.specs.Assembled.{committed_values}
use Rattle.mr_book.specs.Assembling.{reduced_under}
use Rattle.mr_book.proofs.book.Book.committed_texts.Given as goal

abbrev pub invariant-loop-partition : goal.invariant-loop-partition
invariant-loop-partition g l = contents l.texts.items ≡ map (λ (v : Reduced). v.output) (take l.partition (committed_values (reduced_under l.self.reduces) l.self.state))
