-- What the judge promises of a result that readers give.
use Rattle.std.specs.Prelude.{◌≡◌, ◌⊎◌, ℕ, ◌<◌, List, [], ◌∷◌, length, map, get_or, Option, Some, Result, Ok, Err, IfOk}
use Rattle.mr_jobs.specs.JobSpec.{RequestSpec}
use Rattle.mr_certform.specs.Grammar.{AreBytes}
use Rattle.mr_certform.specs.Streaming.{Agrees}
use Rattle.mr_verdict.specs.declared.answers.No.{No}
use Rattle.mr_verdict.specs.declared.answers.No.TheVariants.{OutOfMemory, Device}
use Rattle.mr_verdict.specs.declared.answers.Source.TheVariants.{Certificate, Output}
use Rattle.mr_verdict.specs.declared.answers.Yes.{Yes}
use Rattle.mr_verdict.specs.Verdict.{verdict_of}
use Rattle.mr_verdict.specs.Headline.{IsCertified, accepted_of}

-- the readers give these: of each output and of the certificate its reader has just these bytes left
pub record Give (outputs : List (Option (List ℕ))) (certificate : Option (List ℕ)) (outs : List (List ℕ)) (bytes : List ℕ) : Type 0 where
  pub outputs_are : outputs ≡ map (λ (o : List ℕ). Some o) outs
  pub certificate_is : certificate ≡ Some bytes
  pub are_bytes : AreBytes bytes

-- each of these outputs may be what its reader is still to give
abbrev pub AgreeAll : List (Option (List ℕ)) → List (List ℕ) → Type 0
AgreeAll [] [] = Unit {0}
AgreeAll (k ∷ ks) (l ∷ ls) = Agrees k l × AgreeAll ks ls
AgreeAll _ _ = ⊥

-- the readers may give these: an output for each reader, and the bytes of a certificate, which are those that a reader has
-- left where these are known
pub record MayGive (outputs : List (Option (List ℕ))) (certificate : Option (List ℕ)) (outs : List (List ℕ)) (bytes : List ℕ) : Type 0 where
  pub outputs_agree : AgreeAll outputs outs
  pub certificate_agrees : Agrees certificate bytes
  pub are_bytes : AreBytes bytes

-- the verdict over these, or want of memory; nothing is said of a result of which a read failed
abbrev pub IsVerdictFrom : RequestSpec → List (List ℕ) → List (List ℕ) → List ℕ → Result Yes No → Type 0
IsVerdictFrom request files outs bytes (Ok y) = verdict_of request files outs bytes ≡ Ok (accepted_of y)
IsVerdictFrom request files outs bytes (Err (Device s)) = Unit {0}
IsVerdictFrom request files outs bytes (Err e) = (e ≡ OutOfMemory) ⊎ (verdict_of request files outs bytes ≡ Err e)

-- the same over something that the readers may give
abbrev pub VerdictOfSome : RequestSpec → List (List ℕ) → List (Option (List ℕ)) → Option (List ℕ) → Result Yes No → Type 0
VerdictOfSome request files outputs certificate answer =
    (outs : List (List ℕ)) × ((bytes : List ℕ) × (MayGive outputs certificate outs bytes × IsVerdictFrom request files outs bytes answer))

-- there are an output for each reader and bytes of a certificate that they may give, of which the answer is the verdict, or
-- want of memory; and a yes is worth of them what it is worth of bytes at hand
pub record Judged (request : RequestSpec) (files : List (List ℕ)) (outputs : List (Option (List ℕ))) (certificate : Option (List ℕ)) (answer : Result Yes No) : Type 0 where
  pub outs : List (List ℕ)
  pub bytes : List ℕ
  pub given : MayGive outputs certificate outs bytes
  pub verdict : IsVerdictFrom request files outs bytes answer
  pub headline : IfOk answer (λ y. IsCertified request files outs bytes y.skips.items y.pairs)

-- by the counts of failed reads of the outputs and of the certificate, before and behind: a read failed just where that is
-- told, of the source that is named
abbrev pub IsDevice : List ℕ → List ℕ → ℕ → ℕ → Result Yes No → Type 0
IsDevice outs outs_now cert cert_now (Err (Device Certificate)) = cert_now ≡ cert → ⊥
IsDevice outs outs_now cert cert_now (Err (Device (Output p))) = (p < length outs) × (get_or outs_now p 0 ≡ get_or outs p 0 → ⊥)
IsDevice outs outs_now cert cert_now answer = (outs_now ≡ outs) × (cert_now ≡ cert)
