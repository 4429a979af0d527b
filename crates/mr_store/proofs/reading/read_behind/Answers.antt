use Rattle.mr_store.proofs.Buffers.{moved}
use Rattle.mr_store.proofs.reading.read_behind.Goals as goal

pub returns-clause-front : goal.returns-clause-front
returns-clause-front g c =
    let split = c.split_at_mut-space.ensures in
    moved c.args.buffer.now c.copy_within.new.self c.split_at_mut-space.result.0.now c.read.new.buffer c.args.from c.args.to c.requires.order c.requires.within c.copy_within.ensures.after split.front split.front_len
