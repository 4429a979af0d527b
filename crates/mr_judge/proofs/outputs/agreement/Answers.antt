use Rattle.std.proofs.Common.{ap, length, ◌∙◌}
use Rattle.std.specs.Option.{unwrap_or}
use Rattle.mr_judge.proofs.Agreements.{agreement-is}
use Rattle.mr_judge.proofs.outputs.agreement.Goals as goal

pub returns : goal.returns
returns c =
    c.unwrap_or.ensures
    ∙ ap (λ place. unwrap_or place (length c.args.text.now)) c.first_difference.ensures
    ∙ agreement-is c.args.text.now c.args.output.now
