use Rattle.std.proofs.Common.{◌≡◌, ◌⊎◌, ℕ, List, ap, sym, ◌∙◌, subst, inl, inr}
use Rattle.std.specs.Prelude.{Ok, Err, IfErr, IfOk, OnOk}
use Rattle.std.proofs.lemmas.Bool.{false≢true}
use Rattle.mr_input.specs.Files.{contents}
use Rattle.mr_sequential.specs.Good.{IsGoodResult}
use Rattle.mr_book.specs.Assembled.{assembled_certificate}
use Rattle.mr_book.specs.Assembling.{reduced_under}
use Rattle.mr_verdict.specs.declared.answers.No.TheVariants.{OutOfMemory}
use Rattle.mr_verdict.specs.Headline.{IsCertified, accepted_of}
use Rattle.mr_verdict.specs.Verdict.{verdict_of}
use Rattle.mr_pool.specs.Outcomes.{IsInVersion}
use Rattle.mr_pool.proofs.Closed.{is_history, done_run}
use Rattle.mr_pool.proofs.Versions.{good_in_version}
use Rattle.mr_pool.proofs.running.RunJudge.assemble_and_judge.Goals as goal

-- what the judge says of slices, it says of the files and the bytes in them
moved : (P : List (List ℕ) → List ℕ → Type 0) (o p : List (List ℕ)) (k l : List ℕ) → o ≡ p → k ≡ l → P o k → P p l
moved P o p k l e d h = subst (λ (z : List (List ℕ)). P z l) e (subst (λ (z : List ℕ). P o z) d h)

pub returns-in-Ok-clause-certified : goal.returns-in-Ok-clause-certified
returns-in-Ok-clause-certified g c =
    let b = c.args.book in
    let h = c.close-history.result in
    let e = c.close-history.ensures in
    let request = c.args.self.now.spec.request.now in
    let files = c.args.self.now.spec.input.now in
    let outputs = contents c.in_ok-outputs.outputs.items in
    let bytes = c.in_ok-outputs.certificate.items in
    let made = c.in_ok-outputs.ensures in
    let judged = c.judge-judged.result in
    let says = c.judge-judged.ensures in
    let same = ap contents c.as_slice.ensures.value in
    let done = done_run request files outputs bytes b h (is_history b h e.shape e.entries e.maps e.reduces e.kept e.promises) e.reduces c.requires.ends made.outputs made.certificate in
    let good = moved (λ o k. OnOk judged (IsGoodResult request files o k)) _ outputs _ bytes same c.as_slice-2.ensures.value says.good in
    let version = good_in_version c.args.self.now.spec.version request files outputs bytes (assembled_certificate request files (reduced_under b.reduces) b.state) judged made.certificate made.version good in
    record {
      verdict = subst (λ j. IfOk j (λ y. verdict_of request files outputs bytes ≡ Ok (accepted_of y))) c.in-Ok.is (moved (λ o k. IfOk judged (λ y. verdict_of request files o k ≡ Ok (accepted_of y))) _ outputs _ bytes same c.as_slice-2.ensures.value says.yes);
      good = subst (λ j. OnOk j (IsGoodResult request files outputs bytes)) c.in-Ok.is good;
      judged = subst (λ j. IfOk j (λ y. IsCertified request files outputs bytes y.skips.items y.pairs)) c.in-Ok.is (moved (λ o k. IfOk judged (λ y. IsCertified request files o k y.skips.items y.pairs)) _ outputs _ bytes same c.as_slice-2.ensures.value says.headline);
      done = done;
      in_version = subst (λ j. OnOk j (IsInVersion c.args.self.now.spec.version bytes)) c.in-Ok.is version _ done.certificate_is;
    }

pub returns-else-is_same_fault-clause-fault : goal.returns-else-is_same_fault-clause-fault
returns-else-is_same_fault-clause-fault g c =
    let b = c.args.book in
    let h = c.close-history.result in
    let e = c.close-history.ensures in
    let request = c.args.self.now.spec.request.now in
    let files = c.args.self.now.spec.input.now in
    let outputs = contents c.in_ok-outputs.outputs.items in
    let bytes = c.in_ok-outputs.certificate.items in
    let made = c.in_ok-outputs.ensures in
    let judged = c.judge-judged.result in
    let told = subst (λ j. IfErr j (λ no. (no ≡ OutOfMemory) ⊎ (verdict_of request files outputs bytes ≡ Err no))) c.in-Err.is
    (moved (λ o k. IfErr judged (λ no. (no ≡ OutOfMemory) ⊎ (verdict_of request files o k ≡ Err no))) _ outputs _ bytes (ap contents c.as_slice.ensures.value) c.as_slice-2.ensures.value c.judge-judged.ensures.no) in
    inl (record {
      outputs = outputs;
      bytes = bytes;
      done = done_run request files outputs bytes b h (is_history b h e.shape e.entries e.maps e.reduces e.kept e.promises) e.reduces c.requires.ends made.outputs made.certificate;
      refused = elim told [ inl same ↦ absurd (false≢true (sym c.if-is_same_fault.false ∙ c.is_same_fault.ensures.1 same)) | inr v ↦ v ];
    })
