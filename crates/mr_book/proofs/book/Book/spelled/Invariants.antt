use Rattle.std.proofs.Common.{map, take}
use Rattle.mr_certform.specs.Pieces.{SpellsSoFar}
use Rattle.mr_task.specs.Values.{Reduced}
use Rattle.mr_book.specs.Assembled.{committed_values}
use Rattle.mr_book.specs.Assembling.{reduced_under}
use Rattle.mr_book.proofs.book.Book.spelled.Given as goal

abbrev pub invariant-loop-partition : goal.invariant-loop-partition
invariant-loop-partition g l = SpellsSoFar l.version l.out.items (record {
  job = l.fn.header.job;
  flags = l.fn.header.flags;
  literal = l.fn.header.literal.items;
  parts = l.self.shape.parts;
  split_size = l.fn.header.split_size;
  lengths = l.fn.header.lengths.items;
  skips = l.fn.header.skips.items;
  groups = map (λ (v : Reduced). v.groups) (take l.partition (committed_values (reduced_under l.self.reduces) l.self.state));
})
