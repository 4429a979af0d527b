use Rattle.std.proofs.Common.{sym}
use Rattle.mr_splits.specs.Cut.{records_of}
use Rattle.mr_splits.proofs.NameLemmas.{marked, unmarked}
use Rattle.mr_splits.proofs.plan.Plan.mark_one.Goals as goal

pub returns-then-has_record : goal.returns-then-has_record
returns-then-has_record c = λ i h.
    let n = c.record_index in
    marked (records_of c.args.self.now) c.args.name c.args.flags.now n.result i c.requires n.ensures.within n.ensures.name n.ensures.only h

pub returns-else-has_record : goal.returns-else-has_record
returns-else-has_record c = λ i h.
    unmarked (records_of c.args.self.now) c.args.name c.args.flags.now i (sym c.if-has_record.ensures.same) h
