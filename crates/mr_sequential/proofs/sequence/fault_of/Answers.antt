use Rattle.std.proofs.Common.{Some, None, ap, sym, ◌∙◌}
use Rattle.mr_splits.specs.Cut.{records_of}
use Rattle.mr_sequential.proofs.SkipLaws.{told, told-first}
use Rattle.mr_sequential.proofs.sequence.fault_of.Goals as goal

pub returns-in-None-clause-first : goal.returns-in-None-clause-first
returns-in-None-clause-first c = ap told (sym c.in-None.is ∙ c.first_fault.ensures.first) ∙ told-first (records_of c.args.plan.now) None c.args.skips.now

pub returns-in-Some-Order-clause-first : goal.returns-in-Some-Order-clause-first
returns-in-Some-Order-clause-first c =
    ap (λ f. told (Some f)) (sym c.in-Some-Order.field-0-is) ∙ ap told (sym c.in-Some-Order.is ∙ c.first_fault.ensures.first) ∙ told-first (records_of c.args.plan.now) None c.args.skips.now

pub returns-in-Some-NoSuchRecord-clause-first : goal.returns-in-Some-NoSuchRecord-clause-first
returns-in-Some-NoSuchRecord-clause-first c =
    ap (λ f. told (Some f)) (sym c.in-Some-NoSuchRecord.field-0-is) ∙ ap told (sym c.in-Some-NoSuchRecord.is ∙ c.first_fault.ensures.first) ∙ told-first (records_of c.args.plan.now) None c.args.skips.now
