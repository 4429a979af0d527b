use Rattle.mr_group.proofs.interner.Interner.clear.Goals as goal

pub invariant_of-self : goal.invariant_of-self
invariant_of-self c = c.empty_all.ensures c.clear.new.self
