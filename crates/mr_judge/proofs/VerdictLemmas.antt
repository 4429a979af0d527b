-- From what the judge's functions find to the verdict.
use Rattle.std.proofs.Common.{zero, suc, ◌≡◌, ℕ, ◌+◌, Bool, true, false, cond, Option, Some, None, List, [], ◌∷◌, ◌++◌, length, refl, ap, sym, ◌∙◌, arith, leb, eqb}
use Rattle.std.specs.Prelude.{Result, Ok, Err}
use Rattle.std.proofs.lemmas.Bool.{false≢true, eq-eqb, ne_eqb}
use Rattle.std.specs.List.{flat_map}
use Rattle.mr_bytes.specs.declared.RecordName.{RecordName}
use Rattle.mr_jobs.specs.JobSpec.{JobSpec, RequestSpec}
use Rattle.mr_splits.specs.Named.{NamedRecord, named_records}
use Rattle.mr_splits.specs.Cut.{Cut, is_record, records_of}
use Rattle.mr_certform.specs.declared.grammar_state.Item.{Item}
use Rattle.mr_certform.specs.declared.grammar_state.Item.TheVariants.{Skips, Skip, Entry}
use Rattle.mr_certform.specs.Spelling.{items_of, stop}
use Rattle.mr_bytes.specs.Pairs.{Triple}
use Rattle.mr_sequential.specs.Emitted.{record_triples}
use Rattle.mr_splits.specs.Kept.{is_past}
use Rattle.mr_index.specs.Index.{triples_of}
use Rattle.mr_verdict.specs.declared.answers.No.{No}
use Rattle.mr_verdict.specs.declared.answers.No.TheVariants.{OtherJob, OtherInput, OutputCount, SkipOrder, NoSuchRecord, TooManySkips}
use Rattle.mr_verdict.specs.Verdict.{WalkCase, Accepted, item_eq, last_of, start, subject_of, part_faults, skip_faults, count_faults, wanted_faults, accepted_by, told_by, passes, job_wanted, input_wanted, verdict_of, first, entries_in}
use Rattle.mr_verdict.specs.Steps.{Counted, subject, met, met_behind, header_met, counted, skip_fault, unless, Listed, listed, no_skip, skips_in_front, awaits_skips, case_at}

-- ---- what is met

pub met_faults : (c : WalkCase) (ws : List Item) (f : No) (behind : List Item → List No) (is js : List Item) → met c.stop ws f is ≡ Ok js → wanted_faults c ws f behind is ≡ behind js
met_faults c [] f behind is js e = ap behind (cc e)
met_faults c (w ∷ ws) f behind [] js e = absurd (cc e)
met_faults c (w ∷ ws) f behind (i ∷ is) js e = by (item_eq i w) e (met_faults c ws f behind is js)
  where
    by : (b : Bool) → cond b (met c.stop ws f is) (Err f) ≡ Ok js → (met c.stop ws f is ≡ Ok js → wanted_faults c ws f behind is ≡ behind js) → passes b f ++ wanted_faults c ws f behind is ≡ behind js
    by true h more = more h
    by false h more = absurd (cc h)

pub met_fault : (c : WalkCase) (ws : List Item) (f : No) (behind : List Item → List No) (is : List Item) (e : No) → met c.stop ws f is ≡ Err e → first (wanted_faults c ws f behind is) ≡ Some e
met_fault c [] f behind is e d = absurd (cc d)
met_fault c (w ∷ ws) f behind [] e d = cc d
met_fault c (w ∷ ws) f behind (i ∷ is) e d = by (item_eq i w) d (met_fault c ws f behind is e)
  where
    by : (b : Bool) → cond b (met c.stop ws f is) (Err f) ≡ Err e → (met c.stop ws f is ≡ Err e → first (wanted_faults c ws f behind is) ≡ Some e) → first (passes b f ++ wanted_faults c ws f behind is) ≡ Some e
    by true h more = more h
    by false h more = cc h

-- what is met lists neither left-out records nor entries
plain : (a : Accepted) (i w : Item) (is : List Item) → item_eq i w ≡ true → accepted_by a (i ∷ is) ≡ accepted_by a is
plain a (Skip s) w is e = absurd (false≢true e)
plain a (Entry n) w is e = absurd (false≢true e)
plain a i w is e = refl

pub met_accepted : (at : ℕ) (ws : List Item) (f : No) (a : Accepted) (is js : List Item) → met at ws f is ≡ Ok js → accepted_by a is ≡ accepted_by a js
met_accepted at [] f a is js e = let same : is ≡ js = cc e in ap (accepted_by a) same
met_accepted at (w ∷ ws) f a [] js e = absurd (cc e)
met_accepted at (w ∷ ws) f a (i ∷ is) js e = by (item_eq i w) refl e (met_accepted at ws f a is js)
  where
    by : (b : Bool) → item_eq i w ≡ b → cond b (met at ws f is) (Err f) ≡ Ok js → (met at ws f is ≡ Ok js → accepted_by a is ≡ accepted_by a js) → accepted_by a (i ∷ is) ≡ accepted_by a js
    by true same h more = plain a i w is same ∙ more h
    by false same h more = absurd (cc h)

-- ---- how many records are left out

pub counted_is : (at most : ℕ) (is : List Item) (k : Counted) → counted at most is ≡ Ok k → (is ≡ Skips k.many ∷ k.behind) × (leb k.many most ≡ true)
counted_is at most [] k e = absurd (cc e)
counted_is at most (Skips n ∷ is) k e = by (leb n most) refl e
  where
    by : (b : Bool) → leb n most ≡ b → cond b (Ok (record { many = n; behind = is })) (Err (TooManySkips n)) ≡ Ok k → (Skips n ∷ is ≡ Skips k.many ∷ k.behind) × (leb k.many most ≡ true)
    by true same h = let d : record { many = n; behind = is } ≡ k = cc h in (ap (λ (w : Counted). Skips w.many ∷ w.behind) d, ap (λ (w : Counted). leb w.many most) (sym d) ∙ same)
    by false same h = absurd (cc h)
counted_is at most (i ∷ is) k e = absurd (cc e)

pub counted_faults : (c : WalkCase) (most : ℕ) (is : List Item) (k : Counted) → most ≡ c.request.skips → counted c.stop most is ≡ Ok k → count_faults c is ≡ skip_faults c [] k.behind
counted_faults c most is k m e =
    let h = counted_is c.stop most is k e in
    ap (count_faults c) h.0 ∙ (ap (λ w. passes (leb k.many w) (TooManySkips k.many) ++ skip_faults c [] k.behind) (sym m) ∙ ap (λ b. passes b (TooManySkips k.many) ++ skip_faults c [] k.behind) h.1)

pub counted_fault : (c : WalkCase) (is : List Item) (e : No) → counted c.stop c.request.skips is ≡ Err e → first (count_faults c is) ≡ Some e
counted_fault c [] e d = cc d
counted_fault c (Skips n ∷ is) e d = by (leb n c.request.skips) d
  where
    by : (b : Bool) → cond {A = Result Counted No} b (Ok (record { many = n; behind = is })) (Err (TooManySkips n)) ≡ Err e → first (passes b (TooManySkips n) ++ skip_faults c [] is) ≡ Some e
    by true h = absurd (cc h)
    by false h = cc h
counted_fault c (i ∷ is) e d = cc d

-- ---- the left-out records

none_listed : (c : WalkCase) (ss : List RecordName) (is : List Item) → no_skip is ≡ true → skip_faults c ss is ≡ part_faults (subject_of c ss) c.stop start is
none_listed c ss [] h = refl
none_listed c ss (Skip s ∷ is) h = absurd (false≢true h)
none_listed c ss (i ∷ is) h = refl

pub listed_faults : (c : WalkCase) (n : ℕ) (ss : List RecordName) (is : List Item) (r : Listed) → skips_in_front n is ≡ true → listed (named_records c.request.split c.files) c.stop n ss is ≡ Ok r
    → skip_faults c ss is ≡ part_faults (subject_of c r.skips) c.stop start r.behind
listed_faults c zero ss is r front e = let same : record { skips = ss; behind = is } ≡ r = cc e in none_listed c ss is front ∙ ap (λ (w : Listed). part_faults (subject_of c w.skips) c.stop start w.behind) same
listed_faults c (suc n) ss [] r front e = absurd (cc e)
listed_faults c (suc n) ss (Skip s ∷ is) r front e = by (is_past (last_of ss) s) (is_record (named_records c.request.split c.files) s) e (listed_faults c n (ss ++ s ∷ []) is r front)
  where
    by : (a b : Bool) → unless (cond a (cond b None (Some (NoSuchRecord (length ss)))) (Some (SkipOrder (length ss)))) (listed (named_records c.request.split c.files) c.stop n (ss ++ s ∷ []) is) ≡ Ok r
        → (listed (named_records c.request.split c.files) c.stop n (ss ++ s ∷ []) is ≡ Ok r → skip_faults c (ss ++ s ∷ []) is ≡ part_faults (subject_of c r.skips) c.stop start r.behind)
        → passes a (SkipOrder (length ss)) ++ passes b (NoSuchRecord (length ss)) ++ skip_faults c (ss ++ s ∷ []) is ≡ part_faults (subject_of c r.skips) c.stop start r.behind
    by true true h more = more h
    by true false h more = absurd (cc h)
    by false b h more = absurd (cc h)
listed_faults c (suc n) ss (i ∷ is) r front e = absurd (false≢true front)

pub listed_fault : (c : WalkCase) (n : ℕ) (ss : List RecordName) (is : List Item) (e : No) → listed (named_records c.request.split c.files) c.stop n ss is ≡ Err e → first (skip_faults c ss is) ≡ Some e
listed_fault c zero ss is e d = absurd (cc d)
listed_fault c (suc n) ss [] e d = cc d
listed_fault c (suc n) ss (Skip s ∷ is) e d = by (is_past (last_of ss) s) (is_record (named_records c.request.split c.files) s) d (listed_fault c n (ss ++ s ∷ []) is e)
  where
    by : (a b : Bool) → unless (cond a (cond b None (Some (NoSuchRecord (length ss)))) (Some (SkipOrder (length ss)))) (listed (named_records c.request.split c.files) c.stop n (ss ++ s ∷ []) is) ≡ Err e
        → (listed (named_records c.request.split c.files) c.stop n (ss ++ s ∷ []) is ≡ Err e → first (skip_faults c (ss ++ s ∷ []) is) ≡ Some e)
        → first (passes a (SkipOrder (length ss)) ++ passes b (NoSuchRecord (length ss)) ++ skip_faults c (ss ++ s ∷ []) is) ≡ Some e
    by true true h more = more h
    by true false h more = cc h
    by false b h more = cc h
listed_fault c (suc n) ss (i ∷ is) e d = absurd (cc d)

pub listed_accepted : (rs : List NamedRecord) (at n : ℕ) (ss : List RecordName) (is : List Item) (r : Listed) → listed rs at n ss is ≡ Ok r → accepted_by (record { skips = ss; pairs = 0 }) is ≡ accepted_by (record { skips = r.skips; pairs = 0 }) r.behind
listed_accepted rs at zero ss is r e = let same : record { skips = ss; behind = is } ≡ r = cc e in ap (λ (w : Listed). accepted_by (record { skips = w.skips; pairs = 0 }) w.behind) same
listed_accepted rs at (suc n) ss [] r e = absurd (cc e)
listed_accepted rs at (suc n) ss (Skip s ∷ is) r e = by (skip_fault rs (last_of ss) s (length ss)) e (listed_accepted rs at n (ss ++ s ∷ []) is r)
  where
    by : (o : Option No) → unless o (listed rs at n (ss ++ s ∷ []) is) ≡ Ok r → (listed rs at n (ss ++ s ∷ []) is ≡ Ok r → accepted_by (record { skips = ss ++ s ∷ []; pairs = 0 }) is ≡ accepted_by (record { skips = r.skips; pairs = 0 }) r.behind)
        → accepted_by (record { skips = ss ++ s ∷ []; pairs = 0 }) is ≡ accepted_by (record { skips = r.skips; pairs = 0 }) r.behind
    by None h more = more h
    by (Some f) h more = absurd (cc h)
listed_accepted rs at (suc n) ss (i ∷ is) r e = let same : record { skips = ss; behind = i ∷ is } ≡ r = cc e in ap (λ (w : Listed). accepted_by (record { skips = w.skips; pairs = 0 }) w.behind) same

pub listed_no_skip : (rs : List NamedRecord) (at n : ℕ) (ss : List RecordName) (is : List Item) (r : Listed) → skips_in_front n is ≡ true → listed rs at n ss is ≡ Ok r → no_skip r.behind ≡ true
listed_no_skip rs at zero ss is r front e = let same : record { skips = ss; behind = is } ≡ r = cc e in ap (λ (w : Listed). no_skip w.behind) (sym same) ∙ front
listed_no_skip rs at (suc n) ss [] r front e = absurd (cc e)
listed_no_skip rs at (suc n) ss (Skip s ∷ is) r front e = by (skip_fault rs (last_of ss) s (length ss)) e (listed_no_skip rs at n (ss ++ s ∷ []) is r front)
  where
    by : (o : Option No) → unless o (listed rs at n (ss ++ s ∷ []) is) ≡ Ok r → (listed rs at n (ss ++ s ∷ []) is ≡ Ok r → no_skip r.behind ≡ true) → no_skip r.behind ≡ true
    by None h more = more h
    by (Some f) h more = absurd (cc h)
listed_no_skip rs at (suc n) ss (i ∷ is) r front e = absurd (false≢true front)

-- ---- the partitions

abbrev pub accepted : List RecordName → ℕ → Accepted
accepted skips pairs = record { skips = skips; pairs = pairs }

one_more : (a : Accepted) (n : ℕ) → accepted a.skips (a.pairs + 1 + n) ≡ accepted a.skips (a.pairs + (n + 1))
one_more a n = let e : a.pairs + 1 + n ≡ a.pairs + (n + 1) = omega arith in ap (accepted a.skips) e

pub parts_accepted : (a : Accepted) (is : List Item) → no_skip is ≡ true → accepted_by a is ≡ record { skips = a.skips; pairs = a.pairs + entries_in is }
parts_accepted a [] e = let z : a.pairs ≡ a.pairs + 0 = omega arith in ap (accepted a.skips) z
parts_accepted a (Skip s ∷ is) e = absurd (false≢true e)
parts_accepted a (Entry n ∷ is) e = parts_accepted (record a { pairs = a.pairs + 1 }) is e ∙ one_more a (entries_in is)
parts_accepted a (i ∷ is) e = parts_accepted a is e

-- what is known of the partitions is what they are judged against
pub known_subject : (c : WalkCase) (skips : List RecordName) (job : JobSpec) (cut : Cut) (ts : List Triple) → job ≡ c.request.job → cut.size ≡ c.request.split → cut.files ≡ c.files → ts ≡ triples_of job cut skips
    → subject (record { request = c.request; triples = ts; outputs = c.outputs }) ≡ subject_of c skips
known_subject c skips job cut ts t size files e =
    ap (λ (ws : List Triple). subject (record { request = c.request; triples = ws; outputs = c.outputs }))
    (e ∙ (ap (λ (w : JobSpec). flat_map (record_triples w skips) (named_records cut.size cut.files)) t
    ∙ (ap (λ n. flat_map (record_triples c.request.job skips) (named_records n cut.files)) size ∙ ap (λ fs. flat_map (record_triples c.request.job skips) (named_records c.request.split fs)) files)))

-- ---- the verdict

pub told_none : (fs : List No) (a : Accepted) → first fs ≡ None → told_by fs a ≡ Ok a
told_none [] a e = refl
told_none (f ∷ fs) a e = absurd (cc e)

pub told_some : (fs : List No) (a : Accepted) (f : No) → first fs ≡ Some f → told_by fs a ≡ Err f
told_some [] a f e = absurd (cc e)
told_some (g ∷ fs) a f e = cc e

-- ---- what stands behind the items of the request and of the input

abbrev pub cut_of : WalkCase → Cut
cut_of c = record { size = c.request.split; files = c.files }

listed_by : (c : WalkCase) (at n : ℕ) (cut : Cut) (js : List Item) (r : Result Listed No) → at ≡ c.stop → cut ≡ cut_of c → listed (records_of cut) at n [] js ≡ r → listed (named_records c.request.split c.files) c.stop n [] js ≡ r
listed_by c at n cut js r a e h = ap (λ m. listed (named_records c.request.split c.files) m n [] js) (sym a) ∙ (ap (λ (w : Cut). listed (records_of w) at n [] js) (sym e) ∙ h)

-- behind their number so many are listed
pub front_listed : (stop most : ℕ) (is : List Item) (k : Counted) → awaits_skips is ≡ true → counted stop most is ≡ Ok k → skips_in_front k.many k.behind ≡ true
front_listed stop most is k awaits e = ap awaits_skips (sym (counted_is stop most is k e).0) ∙ awaits

pub rest_faults : (c : WalkCase) (most at : ℕ) (cut : Cut) (is : List Item) (k : Counted) (r : Listed) → awaits_skips is ≡ true → most ≡ c.request.skips → counted c.stop most is ≡ Ok k → at ≡ c.stop → cut ≡ cut_of c → listed (records_of cut) at k.many [] k.behind ≡ Ok r
    → count_faults c is ≡ part_faults (subject_of c r.skips) c.stop start r.behind
rest_faults c most at cut is k r awaits m e a d h =
    counted_faults c most is k m e ∙ listed_faults c k.many [] k.behind r (front_listed c.stop most is k awaits e) (listed_by c at k.many cut k.behind (Ok r) a d h)

pub rest_fault : (c : WalkCase) (most at : ℕ) (cut : Cut) (is : List Item) (k : Counted) (f : No) → most ≡ c.request.skips → counted c.stop most is ≡ Ok k → at ≡ c.stop → cut ≡ cut_of c → listed (records_of cut) at k.many [] k.behind ≡ Err f
    → first (count_faults c is) ≡ Some f
rest_fault c most at cut is k f m e a d h = ap first (counted_faults c most is k m e) ∙ listed_fault c k.many [] k.behind f (listed_by c at k.many cut k.behind (Err f) a d h)

pub rest_accepted : (rs : List NamedRecord) (stop most at : ℕ) (is : List Item) (k : Counted) (r : Listed) → awaits_skips is ≡ true → counted stop most is ≡ Ok k → listed rs at k.many [] k.behind ≡ Ok r
    → accepted_by (accepted [] 0) is ≡ accepted r.skips (entries_in r.behind)
rest_accepted rs stop most at is k r awaits e h =
    ap (accepted_by (accepted [] 0)) (counted_is stop most is k e).0
    ∙ (listed_accepted rs at k.many [] k.behind r h
    ∙ (parts_accepted (accepted r.skips 0) r.behind (listed_no_skip rs at k.many [] k.behind r (front_listed stop most is k awaits e) h)
    ∙ (let z : 0 + entries_in r.behind ≡ entries_in r.behind = omega arith in ap (accepted r.skips) z)))

-- ---- all of it

pub header_ok : (at : ℕ) (o : RequestSpec) (files : List (List ℕ)) (is ks : List Item) → header_met at o files is ≡ Ok ks → (js : List Item) × (met at (job_wanted o) OtherJob is ≡ Ok js) × (met at (input_wanted files) OtherInput js ≡ Ok ks)
header_ok at o files is ks e = by (met at (job_wanted o) OtherJob is) refl e
  where
    by : (r : Result (List Item) No) → met at (job_wanted o) OtherJob is ≡ r → met_behind at files r ≡ Ok ks → (js : List Item) × (met at (job_wanted o) OtherJob is ≡ Ok js) × (met at (input_wanted files) OtherInput js ≡ Ok ks)
    by (Ok js) same d = (js, same, d)
    by (Err f) same d = absurd (cc d)

pub header_faults : (c : WalkCase) (is ks : List Item) → header_met c.stop c.request c.files is ≡ Ok ks → wanted_faults c (job_wanted c.request) OtherJob (wanted_faults c (input_wanted c.files) OtherInput (count_faults c)) is ≡ count_faults c ks
header_faults c is ks e =
    let h = header_ok c.stop c.request c.files is ks e in
    met_faults c (job_wanted c.request) OtherJob (wanted_faults c (input_wanted c.files) OtherInput (count_faults c)) is h.0 h.1 ∙ met_faults c (input_wanted c.files) OtherInput (count_faults c) h.0 ks h.2

pub header_fault : (c : WalkCase) (is : List Item) (f : No) → header_met c.stop c.request c.files is ≡ Err f → first (wanted_faults c (job_wanted c.request) OtherJob (wanted_faults c (input_wanted c.files) OtherInput (count_faults c)) is) ≡ Some f
header_fault c is f e = by (met c.stop (job_wanted c.request) OtherJob is) refl e
  where
    by : (r : Result (List Item) No) → met c.stop (job_wanted c.request) OtherJob is ≡ r → met_behind c.stop c.files r ≡ Err f → first (wanted_faults c (job_wanted c.request) OtherJob (wanted_faults c (input_wanted c.files) OtherInput (count_faults c)) is) ≡ Some f
    by (Ok js) same d = ap first (met_faults c (job_wanted c.request) OtherJob (wanted_faults c (input_wanted c.files) OtherInput (count_faults c)) is js same) ∙ met_fault c (input_wanted c.files) OtherInput (count_faults c) js f d
    by (Err g) same d = met_fault c (job_wanted c.request) OtherJob (wanted_faults c (input_wanted c.files) OtherInput (count_faults c)) is f (same ∙ ap (λ (k : No). Err k) (cc d))

pub header_accepted : (at : ℕ) (o : RequestSpec) (files : List (List ℕ)) (a : Accepted) (is ks : List Item) → header_met at o files is ≡ Ok ks → accepted_by a is ≡ accepted_by a ks
header_accepted at o files a is ks e =
    let h = header_ok at o files is ks e in
    met_accepted at (job_wanted o) OtherJob a is h.0 h.1 ∙ met_accepted at (input_wanted files) OtherInput a h.0 ks h.2

abbrev whole_case : RequestSpec → List (List ℕ) → List (List ℕ) → List ℕ → WalkCase
whole_case request files outputs bytes = case_at request files outputs (stop bytes)

-- there are not as many outputs as partitions
pub verdict_count : (o : RequestSpec) (files outputs : List (List ℕ)) (bytes : List ℕ) → (length outputs ≡ o.parts → ⊥) → verdict_of o files outputs bytes ≡ Err OutputCount
unfolding verdict_of
verdict_count o files outputs bytes h =
    let all = wanted_faults (whole_case o files outputs bytes) (job_wanted o) OtherJob (wanted_faults (whole_case o files outputs bytes) (input_wanted files) OtherInput (count_faults (whole_case o files outputs bytes))) (items_of bytes) in
    told_some (passes (eqb (length outputs) o.parts) OutputCount ++ all) (accepted_by (accepted [] 0) (items_of bytes)) OutputCount (ap (λ b. first (passes b OutputCount ++ all)) (ne_eqb (length outputs) o.parts h))

-- the faults behind the number of outputs are those of the verdict
verdict_told : (o : RequestSpec) (files outputs : List (List ℕ)) (bytes : List ℕ) → length outputs ≡ o.parts
    → verdict_of o files outputs bytes ≡ told_by (wanted_faults (whole_case o files outputs bytes) (job_wanted o) OtherJob (wanted_faults (whole_case o files outputs bytes) (input_wanted files) OtherInput (count_faults (whole_case o files outputs bytes))) (items_of bytes)) (accepted_by (accepted [] 0) (items_of bytes))
unfolding verdict_of
verdict_told o files outputs bytes h =
    let all = wanted_faults (whole_case o files outputs bytes) (job_wanted o) OtherJob (wanted_faults (whole_case o files outputs bytes) (input_wanted files) OtherInput (count_faults (whole_case o files outputs bytes))) (items_of bytes) in
    ap (λ b. told_by (passes b OutputCount ++ all) (accepted_by (accepted [] 0) (items_of bytes))) (eq-eqb (length outputs) o.parts h)

-- a fault of the items that the order and the files fix
pub verdict_header : (o : RequestSpec) (files outputs : List (List ℕ)) (bytes : List ℕ) (f : No) → length outputs ≡ o.parts → header_met (stop bytes) o files (items_of bytes) ≡ Err f → verdict_of o files outputs bytes ≡ Err f
verdict_header o files outputs bytes f h e = verdict_told o files outputs bytes h ∙ told_some _ (accepted_by (accepted [] 0) (items_of bytes)) f (header_fault (whole_case o files outputs bytes) (items_of bytes) f e)

-- a fault behind these
pub verdict_fault : (o : RequestSpec) (files outputs : List (List ℕ)) (bytes : List ℕ) (ks : List Item) (f : No) → length outputs ≡ o.parts → header_met (stop bytes) o files (items_of bytes) ≡ Ok ks → first (count_faults (case_at o files outputs (stop bytes)) ks) ≡ Some f
    → verdict_of o files outputs bytes ≡ Err f
verdict_fault o files outputs bytes ks f h e d =
    verdict_told o files outputs bytes h
    ∙ told_some _ (accepted_by (accepted [] 0) (items_of bytes)) f (ap first (header_faults (whole_case o files outputs bytes) (items_of bytes) ks e) ∙ d)

-- and none
pub verdict_ok : (o : RequestSpec) (files outputs : List (List ℕ)) (bytes : List ℕ) (ks : List Item) (a : Accepted) → length outputs ≡ o.parts → header_met (stop bytes) o files (items_of bytes) ≡ Ok ks → first (count_faults (case_at o files outputs (stop bytes)) ks) ≡ None → accepted_by (accepted [] 0) ks ≡ a
    → verdict_of o files outputs bytes ≡ Ok a
verdict_ok o files outputs bytes ks a h e d is =
    verdict_told o files outputs bytes h
    ∙ (told_none _ (accepted_by (accepted [] 0) (items_of bytes)) (ap first (header_faults (whole_case o files outputs bytes) (items_of bytes) ks e) ∙ d)
    ∙ ap (λ (w : Accepted). Ok w) (header_accepted (stop bytes) o files (accepted [] 0) (items_of bytes) ks e ∙ is))
