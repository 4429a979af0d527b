use Rattle.std.proofs.Common.{ℕ, List, Option, slice_get, subst, arith}
use Rattle.mr_core.specs.Index.{IsLonger}
use Rattle.mr_core.proofs.Updates.{longer_set, longer_none, longer_past}
use Rattle.mr_core.proofs.splits.put_longer.Goals as goal

pub returns-in_default : goal.returns-in_default
returns-in_default c = longer_none c.args.lists.now c.args.at c.args.number (subst (λ (o : Option (List ℕ)). IsLonger o (slice_get c.args.lists.now c.args.at) c.args.number) c.in_default.is c.requires)

pub returns-then-at-lists : goal.returns-then-at-lists
returns-then-at-lists c = longer_past c.args.lists.now c.args.at c.args.number (omega arith)

pub returns : goal.returns
returns c = longer_set c.args.lists.now c.args.at c.args.number c.in-Some.longer (subst (λ (o : Option (List ℕ)). IsLonger o (slice_get c.args.lists.now c.args.at) c.args.number) c.in-Some.is c.requires)
