-- A yes is a good result, and a good result is the sequential execution's.
use Rattle.std.proofs.Common.{◌≡◌, ◌⊎◌, ℕ, ◌<◌, List, length, Result, Ok, Err, MatchResult, IfOk, ap, sym, ◌∙◌, subst, refl}
use Rattle.mr_bytes.specs.declared.RecordName.{RecordName}
use Rattle.mr_jobs.specs.JobSpec.{RequestSpec}
use Rattle.mr_certform.specs.Grammar.{AreBytes}
use Rattle.mr_certform.specs.Value.{Contents}
use Rattle.mr_sequential.specs.Emitted.{emitted}
use Rattle.mr_sequential.specs.Rules.{rules_of}
use Rattle.mr_sequential.specs.Laws.{IsInKeyOrder}
use Rattle.mr_sequential.proofs.GoodLaws.{good_is_sequential}
use Rattle.mr_sequential.proofs.KeyLaws.{outputs_are_in_key_order}
use Rattle.mr_verdict.specs.declared.answers.No.{No}
use Rattle.mr_verdict.specs.declared.answers.Yes.{Yes}
use Rattle.mr_verdict.specs.Headline.{IsCertified}
use Rattle.mr_verdict.specs.Verdict.{Accepted, verdict_of}
use Rattle.mr_verdict.proofs.VerdictYes.{yes_is_good}

-- of a certificate that is known, with the records that it lists
listed : (request : RequestSpec) (files outs : List (List ℕ)) (bytes : List ℕ) (told : Accepted) → AreBytes bytes → 0 < request.split
    → verdict_of request files outs bytes ≡ Ok told → IsCertified request files outs bytes told.skips told.pairs
listed request files outs bytes told are split accepted =
    let good = yes_is_good request files outs bytes told are accepted in
    let c : Contents = good.0.certificate in
    let g = good.0.good in
    let same = good.1 in
    let sequentials = good_is_sequential request files outs c split g in
    let skips : told.skips ≡ c.skips = ap (λ (a : Accepted). a.skips) same in
    let pairs : told.pairs ≡ length (emitted request.job request.split files c.skips) = ap (λ (a : Accepted). a.pairs) same in
    subst (λ (l : List RecordName). IsCertified request files outs bytes l told.pairs) (sym skips)
    (record {
      certificate = c;
      spelled = good.0.spelled;
      listed = refl;
      rise = g.skips_rise;
      exist = g.skips_exist;
      allowed = g.skips_few;
      count = g.result.one_each ∙ g.one_each;
      sequential_is = sequentials;
      by_key = λ p l. subst (IsInKeyOrder (rules_of request) (emitted request.job request.split files c.skips) p) (sym (sequentials p l)) (outputs_are_in_key_order request files c.skips p);
      all = pairs;
    })

pub certified : (request : RequestSpec) (files outs : List (List ℕ)) (bytes : List ℕ) (r : Result Yes No) → AreBytes bytes → 0 < request.split
    → (let v = verdict_of request files outs bytes in
    MatchResult r (λ y. v ≡ Ok (record { skips = y.skips.items; pairs = y.pairs })) (λ e. (e ≡ No.OutOfMemory) ⊎ (v ≡ Err e)))
    → IfOk r (λ y. IsCertified request files outs bytes y.skips.items y.pairs)
certified request files outs bytes (Ok y) are split h = listed request files outs bytes (record { skips = y.skips.items; pairs = y.pairs }) are split h
certified request files outs bytes (Err e) are split h = tt
