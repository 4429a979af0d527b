use Rattle.std.proofs.Common.{◌∙◌}
use Rattle.mr_splits.proofs.KeptLemmas.{kept-of_split}
use Rattle.mr_splits.proofs.kept_records.KeptPlan.of_split.Goals as goal

pub returns : goal.returns
returns c = c.between.ensures ∙ kept-of_split c.args.self.now c.args.s
