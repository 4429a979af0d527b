use Rattle.std.proofs.Common.{◌≡◌, List, ◌∙◌, subst}
use Rattle.std.proofs.lemmas.List.{length-map}
use Rattle.mr_bytes.specs.declared.RecordName.{RecordName}
use Rattle.mr_input.specs.Files.{contents, nth_file}
use Rattle.mr_certform.specs.Value.{Contents, SpellsIn}
use Rattle.mr_sequential.proofs.VersionLaws.{good_can}
use Rattle.mr_sequential.specs.Sequential.{sequential}
use Rattle.mr_commands.specs.Outcomes.{IsSequentialResult}
use Rattle.mr_commands.proofs.commands.run_request.Goals as goal

pub returns-clause-result : goal.returns-clause-result
returns-clause-result g c version bytes spelled =
    let made = c.in_ok-made.ensures in
    subst (λ (skips : List RecordName). IsSequentialResult version c.args.run.request c.args.run.input skips (contents c.in_ok-made.made.outputs.items) bytes) c.as_slice-skips.ensures.value
    (record {
      allowed = made.skips;
      count = length-map c.in_ok-made.made.outputs.items (λ o. o.items) ∙ made.count;
      texts = made.texts;
      spelled = subst (λ (v : Contents). SpellsIn version bytes v) made.certificate spelled;
    })

pub returns-clause-can : goal.returns-clause-can
returns-clause-can g c version = good_can version _ _ _ _ c.in_ok-made.ensures.is_good

pub returns-clause-texts : goal.returns-clause-texts
returns-clause-texts g c p less =
    subst (λ (skips : List RecordName). nth_file (contents c.in_ok-made.made.outputs.items) p ≡ sequential c.args.run.request c.args.run.input skips p) c.as_slice-skips.ensures.value
    (c.in_ok-made.ensures.texts p less)
