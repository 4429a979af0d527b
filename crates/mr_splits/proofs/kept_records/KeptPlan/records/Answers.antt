use Rattle.std.proofs.Common.{arith, ◌∙◌, ap, sym, ◌≡◌}
use Rattle.mr_input.specs.Files.{split_total}
use Rattle.mr_splits.specs.Kept.{Choice}
use Rattle.mr_splits.proofs.KeptLemmas.{kept-all}
use Rattle.mr_splits.proofs.kept_records.KeptPlan.records.Goals as goal

pub returns : goal.returns
returns c =
    let size : c.args.self.now.cut.size ≡ c.size-size.result = ap (λ (k : Choice). k.cut.size) (sym c.self.view_is) ∙ sym c.size-size.ensures.same in
    let total : c.splits.result ≡ split_total c.args.self.now.cut.size c.args.self.now.cut.files =
    c.splits.ensures.count ∙ ap (λ (k : Choice). split_total k.cut.size k.cut.files) c.self.view_is in
    c.between.ensures ∙ kept-all c.args.self.now c.splits.result (omega (arith, size, c.size-size.ensures.within)) total
