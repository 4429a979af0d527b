use Rattle.std.proofs.Common.{arith}
use Rattle.mr_store.proofs.memory_reader.are_none.Goals as goal

pub returns : goal.returns
returns c = λ i. let b = c.type_inv.bytes i in omega arith
