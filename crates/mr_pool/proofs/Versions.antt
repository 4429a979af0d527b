-- What the judge says yes to is a good result, and each version can spell its certificate.
use Rattle.std.proofs.Common.{◌≡◌, ℕ, List, subst}
use Rattle.std.specs.Prelude.{Result, Ok, Err, IfOk, OnOk}
use Rattle.std.specs.List.{AllByRecursion}
use Rattle.mr_jobs.specs.JobSpec.{RequestSpec}
use Rattle.mr_certform.specs.declared.version.Version.{Version}
use Rattle.mr_certform.specs.Grammar.{AreBytes}
use Rattle.mr_certform.specs.Value.{Contents, CanSpell, Spells, SpellsIn}
use Rattle.mr_certform.proofs.Certificates.{one_certificate}
use Rattle.mr_sequential.specs.Good.{IsGoodResult}
use Rattle.mr_sequential.proofs.VersionLaws.{good_can}
use Rattle.mr_book.specs.Assembling.{SpellsWhereItCan}
use Rattle.mr_verdict.specs.declared.answers.No.{No}
use Rattle.mr_verdict.specs.declared.answers.Yes.{Yes}
use Rattle.mr_verdict.specs.Headline.{accepted_of}
use Rattle.mr_verdict.specs.Verdict.{verdict_of}
use Rattle.mr_verdict.proofs.VerdictYes.{yes_is_good}
use Rattle.mr_pool.specs.Outcomes.{IsInVersion}

pub yes_good : (request : RequestSpec) (files outputs : List (List ℕ)) (bytes : List ℕ) (r : Result Yes No) → AreBytes bytes
    → IfOk r (λ y. verdict_of request files outputs bytes ≡ Ok (accepted_of y)) → OnOk r (IsGoodResult request files outputs bytes)
yes_good request files outputs bytes (Ok y) are_bytes says = (yes_is_good request files outputs bytes (accepted_of y) are_bytes says).0
yes_good request files outputs bytes (Err e) are_bytes says = tt

-- where the result is good, the version asked for can spell the certificate
pub good_in_version : (version : Version) (request : RequestSpec) (files outputs : List (List ℕ)) (bytes : List ℕ) (c : Contents) (r : Result Yes No)
    → Spells bytes c → SpellsWhereItCan version bytes c → OnOk r (IsGoodResult request files outputs bytes) → OnOk r (IsInVersion version bytes)
good_in_version version request files outputs bytes c (Ok y) spelled asked good = λ d is.
    let can =
    subst (λ (e : Contents). AllByRecursion (CanSpell version) e.groups) (one_certificate bytes good.certificate c good.spelled spelled)
    (good_can version request files outputs good.certificate good.good) in
    subst (SpellsIn version bytes) (one_certificate bytes c d spelled is) (asked can)
good_in_version version request files outputs bytes c (Err e) spelled asked good = tt
