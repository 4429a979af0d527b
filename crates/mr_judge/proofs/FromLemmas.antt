-- From the judge over readers to the verdict over what they may give.
use Rattle.std.proofs.Common.{◌≡◌, ℕ, zero, suc, ◌+◌, ◌<◌, Option, Some, None, List, [], ◌∷◌, length, map, drop, refl, ap, sym, subst, ◌∙◌, inl, inr, arith}
use Rattle.std.proofs.lemmas.List.{length-map}
use Rattle.std.specs.Prelude.{Result, Ok, Err, IfOk, IfErr, IfSome}
use Rattle.mr_input.specs.Files.{nth_file}
use Rattle.mr_jobs.specs.JobSpec.{RequestSpec}
use Rattle.mr_certform.specs.declared.grammar_state.Item.{Item}
use Rattle.mr_certform.specs.declared.grammar_state.GrammarState.TheVariants.{AtMagic}
use Rattle.mr_certform.specs.Grammar.{AreBytes}
use Rattle.mr_certform.specs.Spelling.{items_of, stop}
use Rattle.mr_certform.specs.Streaming.{Agrees, MayCome}
use Rattle.mr_certform.proofs.Streams.{none_are, come_bytes, come_agrees}
use Rattle.mr_verdict.specs.declared.answers.No.{No}
use Rattle.mr_verdict.specs.declared.answers.No.TheVariants.{OutputCount, OutOfMemory, Device as AtRead}
use Rattle.mr_verdict.specs.declared.items.JudgeError.{JudgeError}
use Rattle.mr_verdict.specs.declared.items.JudgeError.TheVariants.{Fault, Device, TooLong, Output, LongOutput}
use Rattle.mr_verdict.specs.declared.answers.Yes.{Yes}
use Rattle.mr_verdict.specs.Headline.{IsCertified}
use Rattle.mr_verdict.specs.Items.{Coming}
use Rattle.mr_judge.specs.Kinds.{InKind}
use Rattle.mr_verdict.specs.Verdict.{start}
use Rattle.mr_judge.specs.Outputs.{Leaves, Through, AllJudged, IsVerdict}
use Rattle.mr_judge.specs.From.{Give, AgreeAll, MayGive, IsVerdictFrom, VerdictOfSome, Judged}
use Rattle.mr_judge.specs.Reading.{Reading, IsLeft, IsToCome}
use Rattle.mr_judge.specs.Readers.{StopOfSome, ReportsNoRead}
use Rattle.mr_verdict.proofs.FaultTruth.{tells_of_bytes}
use Rattle.mr_verdict.proofs.HeadlineLemmas.{certified}
use Rattle.mr_judge.proofs.KindLemmas.{kinds_of}
use Rattle.mr_judge.proofs.ReadingLemmas.{all_agreeing}
use Rattle.mr_judge.proofs.VerdictLemmas.{verdict_count}

-- ---- the outputs

agree_known : (outs later : List (List ℕ)) → AgreeAll (map (λ (o : List ℕ). Some o) outs) later → later ≡ outs
agree_known [] [] a = refl
agree_known [] (l ∷ later) a = absurd a
agree_known (o ∷ outs) [] a = absurd a
agree_known (o ∷ outs) (l ∷ later) a = ap (λ x. x ∷ later) a.0 ∙ ap (λ xs. o ∷ xs) (agree_known outs later a.1)

agree_long : (given : List (Option (List ℕ))) (outs : List (List ℕ)) → AgreeAll given outs → length outs ≡ length given
agree_long [] [] a = refl
agree_long [] (l ∷ later) a = absurd a
agree_long (k ∷ ks) [] a = absurd a
agree_long (k ∷ ks) (l ∷ later) a = let e = agree_long ks later a.1 in omega (arith, e)

-- none is open yet
left_first : (k : ℕ) (r : Reading) (rest : List ℕ) (later : List (List ℕ)) → k ≡ 0 → IsLeft k r rest later → rest ≡ nth_file later 0
left_first zero r rest later z l = l
left_first (suc k) r rest later z l = absurd (omega (arith, z))

all_left : (r : Reading) → r.opened ≡ 0 → (rest : List ℕ) (later : List (List ℕ)) → IsToCome r rest later → Leaves start later rest later
all_left r z rest later t = record {
  rest_is = sym (left_first r.opened r rest later z t.0);
  later_is = λ q. (let d : 0 + q ≡ q = omega arith in ap (nth_file later) d);
}

-- ---- the certificate

-- at the front of a reader's bytes
abbrev pub AtFront : Coming → Option (List ℕ) → Type 0
AtFront gives known = (is : List Item) (at : ℕ) → gives is at → (bytes : List ℕ) × MayCome known bytes × (is ≡ items_of bytes) × (at ≡ stop bytes)

pub kinds_front : (gives : Coming) (known : Option (List ℕ)) → AtFront gives known → (is : List Item) (at : ℕ) → gives is at → InKind AtMagic is
kinds_front gives known front is at g = let b = front is at g in subst (InKind AtMagic) (sym b.2) (kinds_of b.0)

-- ---- what the readers may give

bytes_given : (known : Option (List ℕ)) → IfSome known AreBytes → (bytes : List ℕ) × Agrees known bytes × AreBytes bytes
bytes_given None k = ([], tt, none_are)
bytes_given (Some xs) k = (xs, refl, k)

some_may : (given : List (Option (List ℕ))) (known : Option (List ℕ)) → IfSome known AreBytes → (outs : List (List ℕ)) × ((bytes : List ℕ) × MayGive given known outs bytes)
some_may given known k =
    let o = all_agreeing given in
    let b = bytes_given known k in
    (o.0, (b.0, record { outputs_agree = o.1; certificate_agrees = b.1; are_bytes = b.2 }))

-- it wants memory, whatever they give
pub no_room : (request : RequestSpec) (files : List (List ℕ)) (given : List (Option (List ℕ))) (known : Option (List ℕ)) (r : Result Yes JudgeError) (e : JudgeError) → IfSome known AreBytes → r ≡ Err e → e ≡ Fault OutOfMemory → StopOfSome request files given known r
no_room request files given known r e k is f =
    let s = some_may given known k in
    subst (StopOfSome request files given known) (sym (is ∙ ap (λ (x : JudgeError). Err x) f)) (s.0, (s.1.0, (s.1.1, inl refl)))

pub no_memory : (request : RequestSpec) (files : List (List ℕ)) (given : List (Option (List ℕ))) (known : Option (List ℕ)) (r : Result Yes No) (e : No) → IfSome known AreBytes → r ≡ Err e → e ≡ OutOfMemory → VerdictOfSome request files given known r
no_memory request files given known r e k is f =
    let s = some_may given known k in
    subst (VerdictOfSome request files given known) (sym (is ∙ ap (λ (x : No). Err x) f)) (s.0, (s.1.0, (s.1.1, inl refl)))

-- there are more readers than partitions, or fewer
pub other_count : {R : Type 0} (f : R → Option (List ℕ)) (xs : List R) (request : RequestSpec) (files : List (List ℕ)) (known : Option (List ℕ)) → IfSome known AreBytes → (length xs ≡ request.parts → ⊥) → VerdictOfSome request files (map f xs) known (Err OutputCount)
other_count f xs request files known k other =
    let s = some_may (map f xs) known k in
    let long = agree_long (map f xs) s.0 s.1.1.outputs_agree in
    (s.0, (s.1.0, (s.1.1, inr (verdict_count request files s.0 s.1.0 (λ e. other (omega (arith, e, long, length-map xs f)))))))

-- what was judged is of something that they may give
pub judged_some : {R : Type 0} (f : R → Option (List ℕ)) (xs : List R) (r : Reading) (known : Option (List ℕ)) (gives : Coming) (request : RequestSpec) (files : List (List ℕ)) (n m : ℕ) (answer : Result Yes JudgeError) → r.opened ≡ 0 → r.known ≡ map f xs → length xs ≡ request.parts
    → IfSome known AreBytes → AtFront gives known → Through (IsToCome r) start (AllJudged gives request files n m answer) → StopOfSome request files (map f xs) known answer
judged_some f xs r known gives request files n m answer z k parts are front (rest, (later, (t, h))) =
    let all : AgreeAll r.known later = subst (λ n. AgreeAll (drop n r.known) later) z t.1 in
    let agree : AgreeAll (map f xs) later = subst (λ (ks : List (Option (List ℕ))). AgreeAll ks later) k all in
    let j = h later (all_left r z rest later t) in
    let b = front j.0 j.1.0 j.1.1.0 in
    let bytes : AreBytes b.0 = come_bytes known b.0 are b.1 in
    let count : length later ≡ request.parts = omega (arith, agree_long (map f xs) later agree, length-map xs f, parts) in
    (later, (b.0, (record { outputs_agree = agree; certificate_agrees = come_agrees known b.0 b.1; are_bytes = bytes }, j.1.1.1.0 b.0 (record { bytes_are = bytes; items_are = b.2; stop_is = b.3 }) count)))

-- no fault of bytes tells of a read
no_read_in : (request : RequestSpec) (files outs : List (List ℕ)) (bytes : List ℕ) (stop : JudgeError) → AreBytes bytes → IsVerdict request files outs bytes (Err stop) → ReportsNoRead stop
no_read_in request files outs bytes (Fault (AtRead s)) are (inl e) = absurd (cc e)
no_read_in request files outs bytes (Fault (AtRead s)) are (inr e) = absurd ((tells_of_bytes request files outs bytes are).1 s e)
no_read_in request files outs bytes (Fault e) are h = tt
no_read_in request files outs bytes Device are h = tt
no_read_in request files outs bytes TooLong are h = tt
no_read_in request files outs bytes (Output p) are h = tt
no_read_in request files outs bytes LongOutput are h = tt

pub no_read_told : (request : RequestSpec) (files : List (List ℕ)) (given : List (Option (List ℕ))) (known : Option (List ℕ)) (answer : Result Yes JudgeError) → StopOfSome request files given known answer → IfErr answer ReportsNoRead
no_read_told request files given known (Ok y) h = tt
no_read_told request files given known (Err stop) (outs, (bytes, (m, v))) = no_read_in request files outs bytes stop m.are_bytes v

-- ---- the answer

pub verdict_told : (request : RequestSpec) (files : List (List ℕ)) (given : List (Option (List ℕ))) (known : Option (List ℕ)) (answer : Result Yes JudgeError) (r : Result Yes No)
    → ((o : RequestSpec) (fs outs : List (List ℕ)) (bytes : List ℕ) → IsVerdict o fs outs bytes answer → IsVerdictFrom o fs outs bytes r) → StopOfSome request files given known answer → VerdictOfSome request files given known r
verdict_told request files given known answer r told (outs, (bytes, (m, h))) = (outs, (bytes, (m, told request files outs bytes h)))

-- ---- what is promised

headline_of : (request : RequestSpec) (files outs : List (List ℕ)) (bytes : List ℕ) (r : Result Yes No) → AreBytes bytes → 0 < request.split → IsVerdictFrom request files outs bytes r
    → IfOk r (λ y. IsCertified request files outs bytes y.skips.items y.pairs)
headline_of request files outs bytes (Ok y) are split h = certified request files outs bytes (Ok y) are split h
headline_of request files outs bytes (Err e) are split h = tt

pub judged : (request : RequestSpec) (files : List (List ℕ)) (given : List (Option (List ℕ))) (known : Option (List ℕ)) (r : Result Yes No) → 0 < request.split → VerdictOfSome request files given known r → Judged request files given known r
judged request files given known r split (outs, (bytes, (m, h))) = record { outs = outs; bytes = bytes; given = m; verdict = h; headline = headline_of request files outs bytes r m.are_bytes split h }

-- where what they give is known, they may give nothing else
pub verdict : (request : RequestSpec) (files : List (List ℕ)) (given : List (Option (List ℕ))) (known : Option (List ℕ)) (r : Result Yes No) → VerdictOfSome request files given known r
    → (outs : List (List ℕ)) (bytes : List ℕ) → Give given known outs bytes → IsVerdictFrom request files outs bytes r
verdict request files given known r (others, (text, (m, h))) outs bytes g =
    let outputs : others ≡ outs = agree_known outs others (subst (λ (ks : List (Option (List ℕ))). AgreeAll ks others) g.outputs_are m.outputs_agree) in
    let certificate : text ≡ bytes = subst (λ (k : Option (List ℕ)). Agrees k text) g.certificate_is m.certificate_agrees in
    subst (λ (os : List (List ℕ)). IsVerdictFrom request files os bytes r) outputs (subst (λ (bs : List ℕ). IsVerdictFrom request files others bs r) certificate h)

pub headline : (request : RequestSpec) (files : List (List ℕ)) (given : List (Option (List ℕ))) (known : Option (List ℕ)) (r : Result Yes No) → 0 < request.split
    → ((outs : List (List ℕ)) (bytes : List ℕ) → Give given known outs bytes → IsVerdictFrom request files outs bytes r)
    → IfOk r (λ y. (outs : List (List ℕ)) (bytes : List ℕ) → Give given known outs bytes → IsCertified request files outs bytes y.skips.items y.pairs)
headline request files given known (Ok y) split verdict = λ outs bytes g. certified request files outs bytes (Ok y) g.are_bytes split (verdict outs bytes g)
headline request files given known (Err e) split verdict = tt
