use Rattle.std.proofs.Common.{◌++◌, List, take, ap, sym, ◌∙◌}
use Rattle.mr_shards.specs.Joined.{inputs_of as all_inputs}
use Rattle.mr_shards.specs.RangeNotes.{RangeNote}
use Rattle.mr_shards.proofs.JoinLemmas.{inputs-to}
use Rattle.mr_shards.proofs.joining.inputs_of.Goals as goal

pub loop-verdict-preserved : goal.loop-verdict-preserved
loop-verdict-preserved c =
    c.in_ok-add_ranges.ensures
    ∙ ap (λ (l : List RangeNote). l ++ c.as_slice.result.now) c.loop-verdict.invariant
    ∙ ap (λ (l : List RangeNote). all_inputs (take c.loop-verdict.verdict-index c.args.verdicts.now) ++ l) (c.as_slice.ensures.value ∙ ap (λ v. v.inputs) (c.verdict.view_is ∙ c.verdict-item.is))
    ∙ sym (inputs-to c.args.verdicts.now c.loop-verdict.verdict-index c.verdict-item.result c.loop-verdict-test.true)
