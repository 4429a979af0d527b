use Rattle.std.proofs.Common.{◌++◌, List, ap, sym, ◌∙◌, arith}
use Rattle.mr_spill.specs.Groups.{nth_group}
use Rattle.mr_merge.specs.Merged.{Group}
use Rattle.mr_reduce.specs.Text.{text_of}
use Rattle.mr_sequential.specs.Rules.{Text}
use Rattle.mr_task.specs.Values.{group_text}
use Rattle.mr_task.proofs.OutputLemmas.{texts-more}
use Rattle.mr_task.proofs.output.texts.Goals as goal

pub loop-g-preserved : goal.loop-g-preserved
loop-g-preserved c =
    let gs : List Group = c.args.groups.now in
    let text = text_of c.args.job.now in
    c.in_ok-put_text.ensures
    ∙ ap (λ (l : Text). l ++ group_text text (nth_group gs c.loop-g.g)) c.loop-g.invariant
    ∙ sym (texts-more text gs c.loop-g.g (omega (arith, c.loop-g-test.true, c.len-g-end.ensures)))
