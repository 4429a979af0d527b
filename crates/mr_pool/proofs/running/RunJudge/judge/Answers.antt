use Rattle.std.proofs.Common.{arith}
use Rattle.mr_input.specs.Files.{contents}
use Rattle.mr_pool.proofs.Versions.{yes_good}
use Rattle.mr_pool.proofs.running.RunJudge.judge.Goals as goal

pub returns-clause-good : goal.returns-clause-good
returns-clause-good g c =
    yes_good c.args.self.now.spec.request.now c.args.self.now.spec.input.now (contents c.args.outputs.now) c.args.certificate.now c.judge.result
    (λ i. (let b = c.type_inv.certificate i in omega arith)) c.judge.ensures.yes
