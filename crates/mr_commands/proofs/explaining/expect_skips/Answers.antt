use Rattle.std.proofs.Common.{ℕ, Some, ap, sym, ◌∙◌}
use Rattle.mr_splits.specs.Cut.{records_of}
use Rattle.mr_splits.specs.Kept.{list_fault}
use Rattle.mr_sequential.proofs.SkipLaws.{told}
use Rattle.mr_commands.proofs.ExplainLemmas.{fault_told}
use Rattle.mr_commands.proofs.explaining.expect_skips.Goals as goal

pub returns-in-None-clause-good : goal.returns-in-None-clause-good
returns-in-None-clause-good c =
    sym (ap told (sym c.in-None.is ∙ c.list_fault.ensures) ∙ ap (λ (n : ℕ). told (list_fault (records_of c.args.plan.now) n c.args.skips.now)) c.max_skips.ensures.same
    ∙ fault_told c.args.request.now c.args.plan.now c.args.skips.now c.requires)

pub returns-in-Some-TooMany-clause-refused : goal.returns-in-Some-TooMany-clause-refused
returns-in-Some-TooMany-clause-refused c =
    sym (ap (λ f. told (Some f)) (sym c.in-Some-TooMany.field-0-is) ∙ ap told (sym c.in-Some-TooMany.is ∙ c.list_fault.ensures) ∙ ap (λ (n : ℕ). told (list_fault (records_of c.args.plan.now) n c.args.skips.now)) c.max_skips.ensures.same
    ∙ fault_told c.args.request.now c.args.plan.now c.args.skips.now c.requires)

pub returns-in-Some-Order-clause-refused : goal.returns-in-Some-Order-clause-refused
returns-in-Some-Order-clause-refused c =
    sym (ap (λ f. told (Some f)) (sym c.in-Some-Order.field-0-is) ∙ ap told (sym c.in-Some-Order.is ∙ c.list_fault.ensures) ∙ ap (λ (n : ℕ). told (list_fault (records_of c.args.plan.now) n c.args.skips.now)) c.max_skips.ensures.same
    ∙ fault_told c.args.request.now c.args.plan.now c.args.skips.now c.requires)

pub returns-in-Some-NoSuchRecord-clause-refused : goal.returns-in-Some-NoSuchRecord-clause-refused
returns-in-Some-NoSuchRecord-clause-refused c =
    sym (ap (λ f. told (Some f)) (sym c.in-Some-NoSuchRecord.field-0-is) ∙ ap told (sym c.in-Some-NoSuchRecord.is ∙ c.list_fault.ensures) ∙ ap (λ (n : ℕ). told (list_fault (records_of c.args.plan.now) n c.args.skips.now)) c.max_skips.ensures.same
    ∙ fault_told c.args.request.now c.args.plan.now c.args.skips.now c.requires)
