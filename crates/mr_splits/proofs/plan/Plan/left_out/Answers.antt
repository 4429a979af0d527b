use Rattle.std.proofs.Common.{sym, ◌∙◌, length}
use Rattle.std.proofs.lemmas.Bool.{eqb-true}
use Rattle.mr_splits.specs.Cut.{records_of}
use Rattle.mr_splits.proofs.NameLemmas.{flags-none}
use Rattle.mr_splits.proofs.plan.Plan.left_out.Goals as goal

pub returns-then-is_empty-clause-ok : goal.returns-then-is_empty-clause-ok
returns-then-is_empty-clause-ok c =
    flags-none c.args.skips.now (records_of c.args.self.now) c.new.result.items c.count-count.result c.count-count.ensures.count
    (eqb-true (length c.args.skips.now) 0 (sym c.is_empty.ensures ∙ c.if-is_empty.true)) c.new.ensures.items
