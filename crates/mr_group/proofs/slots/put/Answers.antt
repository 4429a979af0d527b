use Rattle.std.proofs.lemmas.List.Elements.{All-set}
use Rattle.mr_group.specs.Interner.{IsSlotOf}
use Rattle.mr_group.proofs.slots.put.Goals as goal

pub returns-then-index : goal.returns-then-index
returns-then-index c = λ keys is all. All-set (IsSlotOf keys) c.loop.slots.items c.loop.at c.args.slot is (c.loop.invariant keys is all)
