use Rattle.std.proofs.Common.{ℕ, List, subst}
use Rattle.mr_certform.proofs.Certificates.{one_certificate}
use Rattle.mr_certform.specs.Value.{Spells}
use Rattle.mr_input.specs.Files.{contents}
use Rattle.mr_sequential.specs.Good.{IsGood}
use Rattle.mr_book.specs.Assembled.{assembled_certificate}
use Rattle.mr_book.specs.Assembling.{reduced_under}
use Rattle.mr_book.proofs.book.Book.assemble.Goals as goal

pub returns-in-Ok-clause-certificate : goal.returns-in-Ok-clause-certificate
returns-in-Ok-clause-certificate g c =
    let b = c.args.self.now in
    let spelled = subst (λ (l : List ℕ). Spells l c.in-Ok.certificate) c.as_slice.ensures.value c.in-Ok.ensures.spelled in
    one_certificate c.in_ok-outputs.bytes.items c.in-Ok.certificate (assembled_certificate c.args.request.now c.args.input.now (reduced_under b.reduces) b.state) spelled
    c.in_ok-outputs.ensures.certificate

pub returns-in-Ok-clause-good : goal.returns-in-Ok-clause-good
returns-in-Ok-clause-good g c = λ faithful.
    let good = c.in_ok-outputs.ensures.good faithful in
    let spelled = subst (λ (l : List ℕ). Spells l c.in-Ok.certificate) c.as_slice.ensures.value c.in-Ok.ensures.spelled in
    subst (IsGood c.args.request.now c.args.input.now (contents c.in_ok-outputs.outputs.items))
    (one_certificate c.in_ok-outputs.bytes.items good.certificate c.in-Ok.certificate good.spelled spelled) good.good

pub returns-in-Ok-clause-result : goal.returns-in-Ok-clause-result
returns-in-Ok-clause-result g c = λ faithful bytes spelled.
    record { certificate = c.in-Ok.certificate; spelled = spelled; good = returns-in-Ok-clause-good g c faithful }
