use Rattle.std.proofs.Common.{ap, sym, ◌∙◌, Some}
use Rattle.std.specs.Option.{option_map}
use Rattle.mr_splits.specs.Named.{NamedRecord}
use Rattle.mr_splits.specs.Cut.{records_of, has_record_name}
use Rattle.mr_splits.proofs.NameLemmas.{find-none}
use Rattle.mr_splits.proofs.plan.Plan.record_of.Goals as goal

pub returns-then-not-has_record : goal.returns-then-not-has_record
returns-then-not-has_record c =
    sym (ap (option_map (λ (x : NamedRecord). x.bytes))
    (find-none (has_record_name (record { split = c.args.s; rec = c.args.r })) (records_of c.args.self.now) (sym c.if-not-has_record.ensures.same)))

pub returns : goal.returns
returns c =
    sym (ap (option_map (λ (x : NamedRecord). x.bytes)) (c.locate.ensures.named ∙ ap (λ (x : NamedRecord). Some x) c.locate.ensures.«record»))
