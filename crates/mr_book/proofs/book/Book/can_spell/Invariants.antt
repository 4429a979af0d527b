use Rattle.std.proofs.Common.{map, take}
use Rattle.std.specs.List.{AllByRecursion}
use Rattle.mr_certform.specs.Value.{CanSpell}
use Rattle.mr_task.specs.Values.{Reduced}
use Rattle.mr_book.specs.Assembled.{committed_values}
use Rattle.mr_book.specs.Assembling.{reduced_under}
use Rattle.mr_book.proofs.book.Book.can_spell.Given as goal

abbrev pub invariant-loop-partition : goal.invariant-loop-partition
invariant-loop-partition g l = AllByRecursion (CanSpell l.version) (map (λ (v : Reduced). v.groups) (take l.partition (committed_values (reduced_under l.self.reduces) l.self.state)))
