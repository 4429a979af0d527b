-- From what is said of the partitions to the verdict, whatever walks the items and holds the outputs.
use Rattle.std.proofs.Common.{◌≡◌, ◌⊎◌, ℕ, zero, suc, ◌+◌, true, List, [], ◌∷◌, length, refl, ap, sym, subst, ◌∙◌, inl, inr, arith}
use Rattle.std.specs.Prelude.{Result, Ok, Err}
use Rattle.mr_bytes.specs.declared.RecordName.{RecordName}
use Rattle.mr_jobs.specs.JobSpec.{RequestSpec}
use Rattle.mr_splits.specs.Cut.{Cut, records_of}
use Rattle.mr_certform.specs.declared.grammar_state.Item.{Item}
use Rattle.mr_certform.specs.declared.grammar_state.Item.TheVariants.{Groups, End}
use Rattle.mr_certform.specs.declared.grammar_state.GrammarState.TheVariants.{AtMagic, AtSkips}
use Rattle.mr_certform.specs.declared.walker.Walker.{Walker}
use Rattle.mr_certform.specs.Grammar.{AreBytes}
use Rattle.mr_certform.specs.Places.{partitions}
use Rattle.mr_certform.specs.Walking.{items_left, halt}
use Rattle.mr_judge.specs.Kinds.{InKind}
use Rattle.mr_certform.specs.Spelling.{items_of, stop}
use Rattle.mr_verdict.specs.declared.answers.Yes.{Yes}
use Rattle.mr_verdict.specs.declared.answers.No.TheVariants.{OtherJob, OtherInput, OutOfMemory}
use Rattle.mr_verdict.specs.declared.items.JudgeError.{JudgeError}
use Rattle.mr_verdict.specs.declared.items.JudgeError.TheVariants.{Fault, Device, TooLong, Output, LongOutput}
use Rattle.mr_verdict.specs.Verdict.{start, subject_of, part_faults, count_faults, accepted_by, entries_in, first}
use Rattle.mr_verdict.specs.Steps.{Counted, Listed, counted, listed, header_met, case_at}
use Rattle.mr_verdict.specs.Items.{Coming, CanCome, Answered, IsStopped, Each}
use Rattle.mr_input.specs.Files.{nth_file}
use Rattle.mr_judge.specs.Outputs.{IsTold, Judges, Ahead, Leaves, Through, Looked, IsRestTold, RestJudged, OfBytes, IsVerdict, AllJudged, begins}
use Rattle.mr_judge.proofs.Faults.{told_is}
use Rattle.mr_judge.proofs.GrammarLemmas.{awaits, skips_place, partitions_place}
use Rattle.mr_judge.proofs.KindLemmas.{in_kind}
use Rattle.mr_judge.proofs.MeterLemmas.{rest_entries, header_entries}
use Rattle.mr_judge.proofs.VerdictLemmas.{accepted, counted_fault, rest_faults, rest_fault, rest_accepted, header_ok, verdict_ok, verdict_fault, verdict_header}
use Rattle.mr_judge.proofs.JudgeLemmas.{header_is}
use Rattle.mr_verdict.proofs.ItemLemmas.{over}

-- no memory
pub no_room : (old : Coming) (o : RequestSpec) (files outs : List (List ℕ)) (n : ℕ) → CanCome old → RestJudged old o files n n (Err (Fault OutOfMemory)) outs
no_room old o files outs n (is, (at, there)) = (is, (at, (there, (inl refl, (omega arith, omega arith)))))

-- ---- the number of left-out records, and these

count_told : (o : RequestSpec) (files outs : List (List ℕ)) (most at : ℕ) (is : List Item) (e : JudgeError) → most ≡ o.skips → IsStopped (counted at most is) e → IsRestTold (count_faults (case_at o files outs at) is) (accepted_by (accepted [] 0) is) (Err e)
count_told o files outs most at is (Fault f) m h = inr (counted_fault (case_at o files outs at) is f (subst (λ n. counted at n is ≡ Err f) m h))
count_told o files outs most at is Device m h = tt
count_told o files outs most at is TooLong m h = tt
count_told o files outs most at is (Output p) m h = tt
count_told o files outs most at is LongOutput m h = tt

pub count_judged : (old new : Coming) (o : RequestSpec) (files outs : List (List ℕ)) (most n : ℕ) (e : JudgeError) → most ≡ o.skips → CanCome old → Answered {A = ℕ} old new (λ k is. record { many = k; behind = is }) (λ at. counted at most) (Err e) → RestJudged old o files n n (Err e) outs
count_judged old new o files outs most n e m some (inl d) = subst (λ w. RestJudged old o files n n (Err w) outs) (sym d) (no_room old o files outs n some)
count_judged old new o files outs most n e m some (inr (js, (at, (there, h)))) = (js, (at, (there, (count_told o files outs most at js e m h, (omega arith, omega arith)))))

-- the items behind them came behind these
abbrev pub Listing : Coming → Coming → Cut → ℕ → ℕ → List RecordName → Type 0
Listing old next cut most many skips =
    (is : List Item) (at : ℕ) → next is at → (ks : List Item) × ((js : List Item) × (old ks at × ((counted at most ks ≡ Ok (record { many = many; behind = js })) × (listed (records_of cut) at many [] js ≡ Ok (record { skips = skips; behind = is })))))

pub listing : (old mid next : Coming) (cut : Cut) (most many : ℕ) (skips : List RecordName) → ((is : List Item) (at : ℕ) → mid is at → (js : List Item) × (old js at × (counted at most js ≡ Ok (record { many = many; behind = is }))))
    → ((is : List Item) (at : ℕ) → next is at → (js : List Item) × (mid js at × (listed (records_of cut) at many [] js ≡ Ok (record { skips = skips; behind = is })))) → Listing old next cut most many skips
listing old mid next cut most many skips a b is at n =
    let l = b is at n in
    let k = a l.0 at l.1.0 in
    (k.0, (l.0, (k.1.0, (k.1.1, l.1.1))))

skips_told : (o : RequestSpec) (files outs : List (List ℕ)) (most at many : ℕ) (cut : Cut) (ks js : List Item) (e : JudgeError) → most ≡ o.skips → cut ≡ record { size = o.split; files = files } → counted at most ks ≡ Ok (record { many = many; behind = js })
    → IsStopped (listed (records_of cut) at many [] js) e → IsRestTold (count_faults (case_at o files outs at) ks) (accepted_by (accepted [] 0) ks) (Err e)
skips_told o files outs most at many cut ks js (Fault f) m c k h = inr (rest_fault (case_at o files outs at) most at cut ks (record { many = many; behind = js }) f m k refl c h)
skips_told o files outs most at many cut ks js Device m c k h = tt
skips_told o files outs most at many cut ks js TooLong m c k h = tt
skips_told o files outs most at many cut ks js (Output p) m c k h = tt
skips_told o files outs most at many cut ks js LongOutput m c k h = tt

pub skips_judged : (old mid new : Coming) (o : RequestSpec) (files outs : List (List ℕ)) (most many n : ℕ) (cut : Cut) (e : JudgeError) → most ≡ o.skips → cut ≡ record { size = o.split; files = files } → CanCome mid
    → ((is : List Item) (at : ℕ) → mid is at → (js : List Item) × (old js at × (counted at most js ≡ Ok (record { many = many; behind = is }))))
    → (e ≡ Fault OutOfMemory) ⊎ ((js : List Item) × ((at : ℕ) × (mid js at × IsStopped (listed (records_of cut) at many [] js) e))) → RestJudged old o files n n (Err e) outs
skips_judged old mid new o files outs most many n cut e m c some a (inl d) =
    let k = a some.0 some.1.0 some.1.1 in
    subst (λ w. RestJudged old o files n n (Err w) outs) (sym d) (no_room old o files outs n (k.0, (some.1.0, k.1.0)))
skips_judged old mid new o files outs most many n cut e m c some a (inr (js, (at, (there, h)))) =
    let k = a js at there in
    (k.0, (at, (k.1.0, (skips_told o files outs most at many cut k.0 js e m c k.1.1 h, (omega arith, omega arith)))))

-- ---- the partitions

in_front : (r : ℕ) (is : List Item) → InKind (partitions r) is → begins is ≡ true
in_front r [] h = refl
in_front r (Groups n ∷ is) h = refl
in_front r (End ∷ is) h = refl
in_front zero (i ∷ is) h = absurd (h.0)
in_front (suc r) (i ∷ is) h = absurd (h.0)

pub parts_begin : (old next : Coming) (o : RequestSpec) (cut : Cut) (most many : ℕ) (skips : List RecordName) → ((is : List Item) (at : ℕ) → old is at → InKind (AtSkips o.parts) is) → Listing old next cut most many skips → Each next begins
parts_begin old next o cut most many skips order l is at n =
    let t = l is at n in
    in_front o.parts is (partitions_place InKind in_kind (records_of cut) o.parts at at most t.0 (record { many = many; behind = t.1.0 }) (record { skips = skips; behind = is }) (order t.0 at t.1.1.0) t.1.1.1.0 t.1.1.1.1)

part_faults_same : (o : RequestSpec) (files others outs : List (List ℕ)) (most at many : ℕ) (cut : Cut) (skips : List RecordName) (ks js is : List Item) → most ≡ o.skips → cut ≡ record { size = o.split; files = files } → others ≡ files → InKind (AtSkips o.parts) ks
    → counted at most ks ≡ Ok (record { many = many; behind = js }) → listed (records_of cut) at many [] js ≡ Ok (record { skips = skips; behind = is })
    → first (part_faults (subject_of (case_at o others outs 0) skips) at start is) ≡ first (count_faults (case_at o files outs at) ks)
part_faults_same o files others outs most at many cut skips ks js is m c same order k l =
    ap (λ fs. first (part_faults (subject_of (case_at o fs outs 0) skips) at start is)) same
    ∙ sym (ap first (rest_faults (case_at o files outs at) most at cut ks (record { many = many; behind = js }) (record { skips = skips; behind = is }) (awaits InKind in_kind o.parts ks order) m k refl c l))

pub pairs_fault : (old next : Coming) (o : RequestSpec) (files others outs : List (List ℕ)) (most many n m : ℕ) (cut : Cut) (skips : List RecordName) (e : JudgeError) → most ≡ o.skips → cut ≡ record { size = o.split; files = files } → others ≡ files
    → ((is : List Item) (at : ℕ) → old is at → InKind (AtSkips o.parts) is) → Listing old next cut most many skips → Judges next (subject_of (case_at o others outs 0) skips) n m (Err e) → RestJudged old o files n m (Err e) outs
pairs_fault old next o files others outs most many n m cut skips e most_is c same order l (is, (at, (there, (told, looked)))) =
    let t = l is at there in
    let count = rest_entries (records_of cut) at most at t.0 (record { many = many; behind = t.1.0 }) (record { skips = skips; behind = is }) t.1.1.1.0 t.1.1.1.1 in
    let faults = part_faults_same o files others outs most at many cut skips t.0 t.1.0 is most_is c same (order t.0 at t.1.1.0) t.1.1.1.0 t.1.1.1.1 in
    (t.0, (at, (t.1.1.0, (by at is t.0 e told faults, (looked.0, omega (arith, looked.1, count))))))
  where
    by : (at : ℕ) (is ks : List Item) (e : JudgeError) → IsTold (part_faults (subject_of (case_at o others outs 0) skips) at start is) (entries_in is) (Err e) → first (part_faults (subject_of (case_at o others outs 0) skips) at start is) ≡ first (count_faults (case_at o files outs at) ks) → IsRestTold (count_faults (case_at o files outs at) ks) (accepted_by (accepted [] 0) ks) (Err e)
    by at is ks (Fault f) told same = told_is (part_faults (subject_of (case_at o others outs 0) skips) at start is) (count_faults (case_at o files outs at) ks) f (sym same) told
    by at is ks Device told same = tt
    by at is ks TooLong told same = tt
    by at is ks (Output p) told same = tt
    by at is ks LongOutput told same = tt

pub pairs_fine : (old next : Coming) (o : RequestSpec) (files others outs : List (List ℕ)) (most many n m : ℕ) (cut : Cut) (y : Yes) → most ≡ o.skips → cut ≡ record { size = o.split; files = files } → others ≡ files
    → ((is : List Item) (at : ℕ) → old is at → InKind (AtSkips o.parts) is) → Listing old next cut most many y.skips.items → Judges next (subject_of (case_at o others outs 0) y.skips.items) n m (Ok y.pairs) → RestJudged old o files n m (Ok y) outs
pairs_fine old next o files others outs most many n m cut y most_is c same order l (is, (at, (there, (told, looked)))) =
    let t = l is at there in
    let front = order t.0 at t.1.1.0 in
    let k : Counted = record { many = many; behind = t.1.0 } in
    let r : Listed = record { skips = y.skips.items; behind = is } in
    let count = rest_entries (records_of cut) at most at t.0 k r t.1.1.1.0 t.1.1.1.1 in
    let faults = part_faults_same o files others outs most at many cut y.skips.items t.0 t.1.0 is most_is c same front t.1.1.1.0 t.1.1.1.1 in
    (t.0, (at, (t.1.1.0, ((sym faults ∙ told.0, rest_accepted (records_of cut) at most at t.0 k r (awaits InKind in_kind o.parts t.0 front) t.1.1.1.0 t.1.1.1.1 ∙ ap (accepted y.skips.items) (sym told.1)), (looked.0, omega (arith, looked.1, count))))))

-- ---- all of it

pub order_behind : (old mid : Coming) (o : RequestSpec) (files : List (List ℕ)) → ((is : List Item) (at : ℕ) → old is at → InKind AtMagic is)
    → ((is : List Item) (at : ℕ) → mid is at → (js : List Item) × (old js at × (header_met at o files js ≡ Ok is))) → (is : List Item) (at : ℕ) → mid is at → InKind (AtSkips o.parts) is
order_behind old mid o files front met is at n =
    let t = met is at n in
    let h = header_ok at o files t.0 is t.1.1 in
    skips_place InKind in_kind o files at at OtherJob OtherInput t.0 h.0 is (front t.0 at t.1.0) h.1 h.2

header_told : (o : RequestSpec) (files outs : List (List ℕ)) (at : ℕ) (js : List Item) (e : JudgeError) → IsStopped (header_met at o files js) e → (bytes : List ℕ) → OfBytes js at bytes → length outs ≡ o.parts → IsVerdict o files outs bytes (Err e)
header_told o files outs at js (Fault f) h bytes of count = inr (verdict_header o files outs bytes f count (header_is o files bytes at js (Err f) of.stop_is of.items_are h))
header_told o files outs at js Device h bytes of count = tt
header_told o files outs at js TooLong h bytes of count = tt
header_told o files outs at js (Output p) h bytes of count = tt
header_told o files outs at js LongOutput h bytes of count = tt

pub header_judged : (old : Coming) (o : RequestSpec) (files outs : List (List ℕ)) (n : ℕ) (e : JudgeError) → (js : List Item) × ((at : ℕ) × (old js at × IsStopped (header_met at o files js) e)) → AllJudged old o files n n (Err e) outs
header_judged old o files outs n e (js, (at, (there, h))) = (js, (at, (there, (header_told o files outs at js e h, (omega arith, omega arith)))))

rest_told : (o : RequestSpec) (files outs : List (List ℕ)) (bytes : List ℕ) (ks : List Item) (at : ℕ) (r : Result Yes JudgeError) → length outs ≡ o.parts → header_met (stop bytes) o files (items_of bytes) ≡ Ok ks → at ≡ stop bytes
    → IsRestTold (count_faults (case_at o files outs at) ks) (accepted_by (accepted [] 0) ks) r → IsVerdict o files outs bytes r
rest_told o files outs bytes ks at (Ok y) n h a d = verdict_ok o files outs bytes ks (accepted y.skips.items y.pairs) n h (ap (λ k. first (count_faults (case_at o files outs k) ks)) (sym a) ∙ d.0) d.1
rest_told o files outs bytes ks at (Err (Fault e)) n h a (inl d) = inl d
rest_told o files outs bytes ks at (Err (Fault e)) n h a (inr d) = inr (verdict_fault o files outs bytes ks e n h (ap (λ k. first (count_faults (case_at o files outs k) ks)) (sym a) ∙ d))
rest_told o files outs bytes ks at (Err Device) n h a d = tt
rest_told o files outs bytes ks at (Err TooLong) n h a d = tt
rest_told o files outs bytes ks at (Err (Output p)) n h a d = tt
rest_told o files outs bytes ks at (Err LongOutput) n h a d = tt

pub all_judged : (old mid : Coming) (o : RequestSpec) (files outs : List (List ℕ)) (n m : ℕ) (r : Result Yes JudgeError) → ((is : List Item) (at : ℕ) → mid is at → (js : List Item) × (old js at × (header_met at o files js ≡ Ok is)))
    → RestJudged mid o files n m r outs → AllJudged old o files n m r outs
all_judged old mid o files outs n m r met (is, (at, (there, (told, looked)))) =
    let t = met is at there in
    let count = header_entries at o files t.0 is t.1.1 in
    (t.0, (at, (t.1.0, ((λ bytes of k. rest_told o files outs bytes is at r k (header_is o files bytes at t.0 (Ok is) of.stop_is of.items_are t.1.1) of.stop_is told), (looked.0, omega (arith, looked.1, count))))))

-- ---- outputs and bytes at hand

-- the outputs that may come are these
abbrev pub Only : Ahead → List (List ℕ) → Type 0
Only ahead outs = (rest : List ℕ) (later : List (List ℕ)) → ahead rest later → (rest ≡ nth_file outs 0) × (later ≡ outs)

-- what is at hand
abbrev pub held : List ℕ → List (List ℕ) → Ahead
held rest later r l = (r ≡ rest) × (l ≡ later)

only_leaves : (outs : List (List ℕ)) (rest : List ℕ) (later : List (List ℕ)) → (rest ≡ nth_file outs 0) × (later ≡ outs) → Leaves start outs rest later
only_leaves outs rest later e = record {
  rest_is = sym e.0;
  later_is = λ q. (let d : 0 + q ≡ q = omega arith in ap (nth_file outs) d ∙ ap (λ (ls : List (List ℕ)). nth_file ls q) (sym e.1));
}

pub at_hand : (ahead : Ahead) (old : Coming) (o : RequestSpec) (files outs : List (List ℕ)) (bytes : List ℕ) (n m : ℕ) (r : Result Yes JudgeError) → Only ahead outs → ((is : List Item) (at : ℕ) → old is at → OfBytes is at bytes) → length outs ≡ o.parts
    → Through ahead start (AllJudged old o files n m r) → IsVerdict o files outs bytes r × Looked (items_of bytes) n m
at_hand ahead old o files outs bytes n m r only of count (rest, (later, (g, h))) =
    let j = h outs (only_leaves outs rest later (only rest later g)) in
    let b = of j.0 j.1.0 j.1.1.0 in
    (j.1.1.1.0 bytes b count, subst (λ (w : List Item). Looked w n m) b.items_are j.1.1.1.1)

-- what a judge answers on bytes and outputs at hand
pub judged_at_hand : (o : RequestSpec) (files outs later : List (List ℕ)) (rest bytes : List ℕ) (w : Walker) (n m : ℕ) (r : Result Yes JudgeError) → AreBytes bytes → items_left w ≡ items_of bytes → halt w ≡ stop bytes
    → rest ≡ nth_file outs 0 → later ≡ outs → length outs ≡ o.parts → Through (held rest later) start (AllJudged (over w) o files n m r) → IsVerdict o files outs bytes r × Looked (items_of bytes) n m
judged_at_hand o files outs later rest bytes w n m r are items place opened behind count judged =
    at_hand (held rest later) (over w) o files outs bytes n m r (λ k l e. (e.0 ∙ opened, e.1 ∙ behind)) (λ is at e. record {
      bytes_are = are;
      items_are = e.0 ∙ items;
      stop_is = e.1 ∙ place;
    }) count judged
