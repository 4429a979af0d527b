-- A fault that the verdict tells is true of the certificate that was read.
use Rattle.std.proofs.Common.{◌≡◌, ◌⊎◌, ℕ, zero, suc, ◌+◌, ◌-◌, ◌<◌, Bool, true, false, Option, Some, None, List, [], ◌∷◌, ◌++◌, length, map, refl, ap, sym, ◌∙◌, subst, inl, inr, arith, append_assoc, length-append, nat_le, slice_index_or, ◌==◌}
use Rattle.std.proofs.lemmas.Bool.{eq-eqb, leb-false, false≢true}
use Rattle.std.proofs.lemmas.List.{length-map}
use Rattle.std.specs.List.{slice_get}
use Rattle.mr_bytes.specs.declared.RecordName.{RecordName}
use Rattle.mr_bytes.specs.Order.{record_order}
use Rattle.mr_jobs.specs.JobSpec.{job_literal}
use Rattle.mr_splits.specs.Named.{named_records}
use Rattle.mr_splits.specs.Cut.{is_record}
use Rattle.mr_certform.specs.declared.grammar_state.Item.{Item}
use Rattle.mr_certform.specs.declared.grammar_state.Item.TheVariants.{LiteralByte, FileLength, Parts, SplitSize, Skips, Skip, Groups, End}
use Rattle.mr_certform.specs.declared.grammar_state.GrammarState.{GrammarState}
use Rattle.mr_certform.specs.declared.grammar_state.GrammarState.TheVariants.{AtMagic, AtParts, AtSkips, AtGroups}
use Rattle.mr_certform.specs.Grammar.{MayStand, InOrder}
use Rattle.mr_certform.specs.Places as Places
use Rattle.mr_certform.specs.Spelling.{items_of, is_ended}
use Rattle.mr_certform.proofs.Walks.{read_front}
use Rattle.mr_splits.specs.Kept.{is_past}
use Rattle.mr_verdict.specs.declared.answers.No.{No}
use Rattle.mr_verdict.specs.declared.answers.No.TheVariants as Fault
use Rattle.mr_verdict.specs.Verdict.{WalkCase, Subject, passes, start, first, subject_of, last_of, item_eq, job_wanted, input_wanted, wanted_faults, entries_in, case_of}
use Rattle.mr_verdict.specs.VerdictLaws.{told, or_else, fault_of, skips_in, piece, parts_in, front_skips, front_count, front_faults, part_fault, least_fault, back_fault}
use Rattle.mr_verdict.specs.FaultLaws.{part_read, parts_read, IsWrongIn, Depart, SkipsFall, IsNoRecord, IsTrueOf, FaultsAreTrue, IsAboutBytes}
use Rattle.mr_verdict.proofs.FaultPart.{Tells, either, failed, untold, get-seam, not_less, part_wrong}
use Rattle.mr_verdict.proofs.VerdictHeader.{AreEqual, eq_is, equal_job, equal_input}
use Rattle.mr_verdict.proofs.VerdictPlace.{fault_by_place}

or_cases : (a b : Option No) (f : No) → or_else a b ≡ Some f → ◌≡◌ {A = Option No} a (Some f) ⊎ ◌≡◌ {A = Option No} b (Some f)
or_cases None b f e = inr e
or_cases (Some g) b f e = inl e

-- ---- the partition that a fault is told of

record Found (s : Subject) (parts : List (List Item)) (p : ℕ) (f : No) : Type 0 where
  k : ℕ
  n : ℕ
  r : ℕ
  behind : List Item
  within : k < length parts
  there : slice_index_or parts k [] ≡ Groups n ∷ piece behind
  order : InOrder (AtGroups r) (Groups n ∷ behind)
  tells : Tells f (told s (record start { next = p + k }) (Groups n ∷ piece behind))

groups_place : (q : GrammarState) (n : ℕ) (is : List Item) → InOrder q (Groups n ∷ is) → (r : ℕ) × InOrder (AtGroups r) (Groups n ∷ is)
groups_place q n is h = at q h
  where
    at : (q : GrammarState) → InOrder q (Groups n ∷ is) → (r : ℕ) × InOrder (AtGroups r) (Groups n ∷ is)
    at (AtGroups r) h = (r, h)
    at _ h = absurd h.0

found : (s : Subject) (is : List Item) (q : GrammarState) (p : ℕ) (f : No) → InOrder q is → ◌≡◌ {A = Option No} (least_fault s p (parts_in is)) (Some f) → Found s (parts_in is) p f
found s [] q p f order e = absurd (cc)
found s (Groups n ∷ is) q p f order e = by (part_fault s p (Groups n ∷ piece is)) refl e (found s is (Places.behind q (Groups n)) (p + 1) f order.1)
  where
    by : (o : Option No) → part_fault s p (Groups n ∷ piece is) ≡ o → ◌≡◌ {A = Option No} (or_else o (least_fault s (p + 1) (parts_in is))) (Some f)
        → (◌≡◌ {A = Option No} (least_fault s (p + 1) (parts_in is)) (Some f) → Found s (parts_in is) (p + 1) f) → Found s ((Groups n ∷ piece is) ∷ parts_in is) p f
    by (Some g) w e rest =
        let place = groups_place q n is order in
        let here : p ≡ p + 0 = omega arith in
        record {
          k = 0;
          n = n;
          r = place.0;
          behind = is;
          within = omega arith;
          there = refl;
          order = place.1;
          tells = subst (λ (m : ℕ). Tells f (told s (record start { next = m }) (Groups n ∷ piece is))) here (w ∙ e);
        }
    by None w e rest =
        let r = rest e in
        let here : p + 1 + r.k ≡ p + suc r.k = omega arith in
        record {
          k = suc r.k;
          n = r.n;
          r = r.r;
          behind = r.behind;
          within = omega (arith, r.within);
          there = r.there;
          order = r.order;
          tells = subst (λ (m : ℕ). Tells f (told s (record start { next = m }) (Groups r.n ∷ piece r.behind))) here r.tells;
        }
found s (i ∷ is) q p f order e = found s is (Places.behind q i) p f order.1 e

get-map : (xs : List (List Item)) (k : ℕ) → slice_index_or (map part_read xs) k (record { announced = 0; groups = [] }) ≡ part_read (slice_index_or xs k [])
get-map [] k = refl
get-map (x ∷ xs) zero = refl
get-map (x ∷ xs) (suc k) = get-map xs k

-- what is wrong in a partition is wrong somewhere
somewhere : (c : WalkCase) (is : List Item) (p : ℕ) (f : No) → p < length (parts_read is)
    → IsWrongIn (subject_of c (skips_in is)) p (slice_index_or (parts_read is) p (record { announced = 0; groups = [] })) f → IsTrueOf c is f
somewhere c is p (Fault.NoSuchPair q g e) l h = record { p = p; within = l; wrong = h }
somewhere c is p (Fault.EntryOrder q g e) l h = record { p = p; within = l; wrong = h }
somewhere c is p (Fault.KeyDiffers q g e) l h = record { p = p; within = l; wrong = h }
somewhere c is p (Fault.WrongPartition q g e) l h = record { p = p; within = l; wrong = h }
somewhere c is p (Fault.KeyOrder q g e) l h = record { p = p; within = l; wrong = h }
somewhere c is p (Fault.OutputDiffers q at) l h = record { p = p; within = l; wrong = h }
somewhere c is p f l h = absurd h

parts_true : (c : WalkCase) (is : List Item) (q : GrammarState) (f : No) → InOrder q is → ◌≡◌ {A = Option No} (least_fault (subject_of c (skips_in is)) 0 (parts_in is)) (Some f) → IsTrueOf c is f
parts_true c is q f order e =
    let s : Subject = subject_of c (skips_in is) in
    let r = found s is q 0 f order e in
    let here : 0 + r.k ≡ r.k = omega arith in
    let part : slice_index_or (parts_read is) r.k (record { announced = 0; groups = [] }) ≡ part_read (Groups r.n ∷ piece r.behind) = get-map (parts_in is) r.k ∙ ap part_read r.there in
    somewhere c is r.k f (omega (arith, r.within, length-map (parts_in is) part_read))
    (part_wrong s r.k (slice_index_or (parts_read is) r.k (record { announced = 0; groups = [] })) f r.r r.n r.behind r.order part
    (subst (λ (m : ℕ). Tells f (told s (record start { next = m }) (Groups r.n ∷ piece r.behind))) here r.tells))

-- ---- behind the partitions

back_true : (c : WalkCase) (is : List Item) (f : No) (b : Bool) → is_ended is ≡ b → ◌≡◌ {A = Option No} (back_fault (subject_of c (skips_in is)) c.stop (entries_in is) b) (Some f) → IsTrueOf c is f
back_true c is f false ended e =
    let same : Fault.Malformed c.stop ≡ f = cc in
    subst (IsTrueOf c is) same (refl, ended)
back_true c is f true ended e =
    let s : Subject = subject_of c (skips_in is) in
    let fail = failed (nat_le (length s.triples) (entries_in is)) (Fault.Unnamed (length s.triples) (entries_in is)) f e in
    subst (IsTrueOf c is) fail.1 (record { ended = ended; emitted_is = refl; named_is = refl; fewer = leb-false (length s.triples) (entries_in is) fail.0 })

-- ---- before the partitions

pub ended_behind : (i w : Item) (is : List Item) → item_eq i w ≡ true → is_ended (i ∷ is) ≡ is_ended is
ended_behind End w is h = absurd (false≢true h)
ended_behind i w is h = refl

pub through_ended : (ws is : List Item) → AreEqual ws → is_ended (ws ++ is) ≡ is_ended is
through_ended [] is h = refl
through_ended (w ∷ ws) is h = ended_behind w w (ws ++ is) h.0 ∙ through_ended ws is h.1

pub skips_behind : (i : Item) (is : List Item) → item_eq i i ≡ true → skips_in (i ∷ is) ≡ skips_in is
skips_behind (Skip s) is h = absurd (false≢true h)
skips_behind (Groups n) is h = absurd (false≢true h)
skips_behind i is h = refl

pub through_skips : (ws is : List Item) → AreEqual ws → skips_in (ws ++ is) ≡ skips_in is
through_skips [] is h = refl
through_skips (w ∷ ws) is h = skips_behind w (ws ++ is) h.0 ∙ through_skips ws is h.1

-- items depart from the wanted ones, or end before them, or what is behind them tells
wanted_told : (c : WalkCase) (wanted : List Item) (x : No) (behind : List Item → List No) (is : List Item) (f : No) → AreEqual wanted → Tells f (wanted_faults c wanted x behind is)
    → ((x ≡ f) × Depart wanted is) ⊎ (((Fault.Malformed c.stop ≡ f) × (is_ended is ≡ false)) ⊎ ((rest : List Item) × (is ≡ wanted ++ rest) × Tells f (behind rest)))
wanted_told c [] x behind is f equal e = inr (inr (is, refl, e))
wanted_told c (w ∷ wanted) x behind [] f equal e = inr (inl (cc, refl))
wanted_told c (w ∷ wanted) x behind (i ∷ is) f equal e = by (item_eq i w) refl e (wanted_told c wanted x behind is f equal.1)
  where
    by : (b : Bool) → item_eq i w ≡ b → Tells f (passes b x ++ wanted_faults c wanted x behind is)
        → (Tells f (wanted_faults c wanted x behind is)
        → ((x ≡ f) × Depart wanted is) ⊎ (((Fault.Malformed c.stop ≡ f) × (is_ended is ≡ false)) ⊎ ((rest : List Item) × (is ≡ wanted ++ rest) × Tells f (behind rest))))
        → ((x ≡ f) × Depart (w ∷ wanted) (i ∷ is)) ⊎ (((Fault.Malformed c.stop ≡ f) × (is_ended (i ∷ is) ≡ false)) ⊎ ((rest : List Item) × (i ∷ is ≡ w ∷ (wanted ++ rest)) × Tells f (behind rest)))
    by true same e rest =
        let one : i ≡ w = eq_is i w same in
        elim (rest e) [
          | inl a ↦ inl (
            a.0,
            (let d = a.1 in record {
              same = w ∷ d.same;
              item = d.item;
              want = d.want;
              items_behind = d.items_behind;
              wanted_behind = d.wanted_behind;
              items_are = (let more = d.items_are in cc);
              wanted_are = ap (λ l. w ∷ l) d.wanted_are;
              other = d.other;
            }),
          )
          | inr b ↦ elim b [
            | inl m ↦ inr (inl (m.0, ended_behind i w is same ∙ m.1))
            | inr r ↦ inr (inr (r.0, (let more = r.1 in cc), r.2))
          ]
        ]
    by false same e rest =
        inl (
          cc,
          record {
            same = [];
            item = i;
            want = w;
            items_behind = is;
            wanted_behind = wanted;
            items_are = refl;
            wanted_are = refl;
            other = λ g. false≢true (sym same ∙ (ap (λ j. item_eq j w) g ∙ equal.0));
          },
        )

-- ---- the left-out records

last_split : (done : List RecordName) (b : RecordName) → ◌≡◌ {A = Option RecordName} (last_of done) (Some b) → (front : List RecordName) × (done ≡ front ++ b ∷ [])
last_split [] b e = absurd (cc)
last_split (x ∷ []) b e = ([], cc)
last_split (x ∷ y ∷ done) b e = let r = last_split (y ∷ done) b e in (x ∷ r.0, ap (λ l. x ∷ l) r.1)

skips_true : (c : WalkCase) (all done : List RecordName) (js : List Item) (f : No) → all ≡ done ++ skips_in js → Tells f (front_skips c done js)
    → ((k : ℕ) × (Fault.SkipOrder k ≡ f) × SkipsFall all k) ⊎ ((k : ℕ) × (Fault.NoSuchRecord k ≡ f) × IsNoRecord (named_records c.request.split c.files) all k)
skips_true c all done [] f same e = absurd (untold f e)
skips_true c all done (Skip s ∷ js) f same e =
    let here : slice_get all (length done) ≡ Some s = ap (λ l. slice_get l (length done)) same ∙ get-seam done (skips_in js) s in
    let order : List No = passes (is_past (last_of done) s) (Fault.SkipOrder (length done)) in
    let there : List No = passes (is_record (named_records c.request.split c.files) s) (Fault.NoSuchRecord (length done)) in
    elim (either order (there ++ front_skips c (done ++ s ∷ []) js) f (subst (Tells f) (append_assoc order there (front_skips c (done ++ s ∷ []) js)) e)) [
      | inl a ↦
          (let fail = failed (is_past (last_of done) s) (Fault.SkipOrder (length done)) f a in
          inl (length done, fail.1, falls (last_of done) refl here fail.0))
      | inr b ↦ elim (either there (front_skips c (done ++ s ∷ []) js) f b.1) [
        | inl a ↦
            (let fail = failed (is_record (named_records c.request.split c.files) s) (Fault.NoSuchRecord (length done)) f a in
            inr (length done, fail.1, record { name = s; stands = here; none = fail.0 }))
        | inr d ↦ skips_true c all (done ++ s ∷ []) js f (same ∙ sym (append_assoc done (s ∷ []) (skips_in js))) d.1
      ]
    ]
  where
    falls : (o : Option RecordName) → last_of done ≡ o → slice_get all (length done) ≡ Some s → is_past o s ≡ false → SkipsFall all (length done)
    falls None last here h = absurd (cc)
    falls (Some b) last here h =
        let split = last_split done b last in
        let count : length done ≡ length split.0 + 1 = omega (arith, ap length split.1, length-append split.0 (b ∷ [])) in
        let whole : all ≡ split.0 ++ b ∷ (s ∷ skips_in js) = same ∙ (ap (λ l. l ++ s ∷ skips_in js) split.1 ∙ append_assoc split.0 (b ∷ []) (s ∷ skips_in js)) in
        let place : length done - 1 ≡ length split.0 = omega (arith, count) in
        record {
          later = omega (arith, count);
          before = b;
          name = s;
          before_stands = ap (λ l. slice_get l (length done - 1)) whole ∙ (ap (slice_get (split.0 ++ b ∷ (s ∷ skips_in js))) place ∙ get-seam split.0 (s ∷ skips_in js) b);
          stands = here;
          falls = not_less record_order b s h;
        }
skips_true c all done (i ∷ js) f same e = absurd (untold f e)

-- ---- where the number of left-out records stands

literal_place : (bs : List ℕ) (is : List Item) → InOrder (Places.literal_bytes (length bs)) (map LiteralByte bs ++ is) → InOrder AtParts is
literal_place [] is h = h
literal_place (b ∷ bs) is h = literal_place bs is h.1

lengths_place : (files : List (List ℕ)) (r : ℕ) (is : List Item) → InOrder (Places.file_lengths r (length files)) (map (λ (f : List ℕ). FileLength (length f)) files ++ is) → InOrder (AtSkips r) is
lengths_place [] r is h = h
lengths_place (f ∷ files) r is h = lengths_place files r is h.1

header_place : (c : WalkCase) (is : List Item) → InOrder AtMagic (job_wanted c.request ++ (input_wanted c.files ++ is)) → InOrder (AtSkips c.request.parts) is
header_place c is h =
    let literal : List ℕ = job_literal c.request.job in
    let front = subst (InOrder (Places.literal_bytes (length literal))) (append_assoc (map LiteralByte literal) (Parts c.request.parts ∷ SplitSize c.request.split ∷ []) (input_wanted c.files ++ is)) h.1.1.1.1 in
    let parts = literal_place literal (Parts c.request.parts ∷ SplitSize c.request.split ∷ (input_wanted c.files ++ is)) front in
    lengths_place c.files c.request.parts is parts.1.1.1

count_true : (c : WalkCase) (all is js : List Item) (r : ℕ) (f : No) → (before : List Item) → is ≡ before ++ js → is_ended is ≡ is_ended js → skips_in is ≡ skips_in js
    → InOrder (AtSkips r) js → Tells f (front_count c js) → IsTrueOf c is f
count_true c all is [] r f before same ended skips order e =
    let malformed : Fault.Malformed c.stop ≡ f = cc in
    subst (IsTrueOf c is) malformed (refl, ended)
count_true c all is (i ∷ js) r f before same ended skips order e = at i order.0 same skips e
  where
    at : (i : Item) → MayStand (AtSkips r) i → is ≡ before ++ i ∷ js → skips_in is ≡ skips_in (i ∷ js) → Tells f (front_count c (i ∷ js)) → IsTrueOf c is f
    at (Skips n) h same skips e =
        elim (either (passes (nat_le n c.request.skips) (Fault.TooManySkips n)) (front_skips c [] js) f e) [
          | inl a ↦
              (let fail = failed (nat_le n c.request.skips) (Fault.TooManySkips n) f a in
              subst (IsTrueOf c is) fail.1 (record { before = before; behind = js; items_are = same }, leb-false n c.request.skips fail.0))
          | inr b ↦ elim (skips_true c (skips_in is) [] js f skips b.1) [
            | inl k ↦ subst (IsTrueOf c is) k.1 k.2
            | inr k ↦ subst (IsTrueOf c is) k.1 k.2
          ]
        ]
    at _ h same skips e = absurd h

front_true : (c : WalkCase) (is : List Item) (f : No) → InOrder AtMagic is → Tells f (front_faults c is) → IsTrueOf c is f
front_true c is f order e =
    elim (either (passes (length c.outputs == c.request.parts) Fault.OutputCount) (wanted_faults c (job_wanted c.request) Fault.OtherJob (wanted_faults c (input_wanted c.files) Fault.OtherInput (front_count c)) is) f e) [
      | inl a ↦
          (let fail = failed (length c.outputs == c.request.parts) Fault.OutputCount f a in
          subst (IsTrueOf c is) fail.1 (λ same. false≢true (sym fail.0 ∙ eq-eqb (length c.outputs) c.request.parts same)))
      | inr b ↦ elim (wanted_told c (job_wanted c.request) Fault.OtherJob (wanted_faults c (input_wanted c.files) Fault.OtherInput (front_count c)) is f (equal_job c.request) b.1) [
        | inl job ↦ subst (IsTrueOf c is) job.0 job.1
        | inr d ↦ elim d [
          | inl cut ↦ subst (IsTrueOf c is) cut.0 (refl, cut.1)
          | inr job ↦ elim (wanted_told c (input_wanted c.files) Fault.OtherInput (front_count c) job.0 f (equal_input c.files) job.2) [
            | inl input ↦ subst (IsTrueOf c is) input.0 (record { rest = job.0; items_are = job.1; depart = input.1 })
            | inr g ↦ elim g [
              | inl cut ↦ subst (IsTrueOf c is) cut.0 (refl, ap is_ended job.1 ∙ (through_ended (job_wanted c.request) job.0 (equal_job c.request) ∙ cut.1))
              | inr input ↦
                  (let wanted : List Item = job_wanted c.request ++ input_wanted c.files in
                  let whole : is ≡ job_wanted c.request ++ (input_wanted c.files ++ input.0) = job.1 ∙ ap (λ l. job_wanted c.request ++ l) input.1 in
                  count_true c is is input.0 c.request.parts f wanted (whole ∙ sym (append_assoc (job_wanted c.request) (input_wanted c.files) input.0))
                  (ap is_ended whole ∙ (through_ended (job_wanted c.request) (input_wanted c.files ++ input.0) (equal_job c.request) ∙ through_ended (input_wanted c.files) input.0 (equal_input c.files)))
                  (ap skips_in whole ∙ (through_skips (job_wanted c.request) (input_wanted c.files ++ input.0) (equal_job c.request) ∙ through_skips (input_wanted c.files) input.0 (equal_input c.files)))
                  (header_place c input.0 (subst (InOrder AtMagic) whole order)) input.2)
            ]
          ]
        ]
      ]
    ]

pub faults_are_true : FaultsAreTrue
faults_are_true request files outputs bytes fault are_bytes e =
    let c : WalkCase = case_of request files outputs bytes in
    let is : List Item = items_of bytes in
    let s : Subject = subject_of c (skips_in is) in
    let order : InOrder AtMagic is = (read_front bytes are_bytes).0 in
    let back : Option No = back_fault s c.stop (entries_in is) (is_ended is) in
    let told_is : ◌≡◌ {A = Option No} (or_else (first (front_faults c is)) (or_else (least_fault s 0 (parts_in is)) back)) (Some fault) =
    sym (fault_by_place request files outputs bytes are_bytes) ∙ ap fault_of e in
    elim (or_cases (first (front_faults c is)) (or_else (least_fault s 0 (parts_in is)) back) fault told_is) [
      | inl a ↦ front_true c is fault order a
      | inr b ↦ elim (or_cases (least_fault s 0 (parts_in is)) back fault b) [
        | inl a ↦ parts_true c is AtMagic fault order a
        | inr d ↦ back_true c is fault (is_ended is) refl d
      ]
    ]

pub tells_of_bytes : IsAboutBytes
tells_of_bytes request files outputs bytes are =
    (λ e. (faults_are_true request files outputs bytes Fault.OutOfMemory are e).wrong, λ s e. (faults_are_true request files outputs bytes (Fault.Device s) are e).wrong)
