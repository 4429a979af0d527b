-- What the tests before the partitions say of a certificate.
use Rattle.std.proofs.Common.{◌≡◌, ℕ, suc, ◌+◌, ◌≤◌, Bool, true, false, cond, Option, Some, None, Result, Ok, List, [], ◌∷◌, ◌++◌, length, map, refl, ap, sym, ◌∙◌, subst, inl, inr, arith, append_assoc, length-append, nat_le}
use Rattle.std.proofs.lemmas.Bool.{eqb-true, eq-eqb, leb-true, false≢true}
use Rattle.std.proofs.lemmas.List.{append-nil}
use Rattle.std.specs.List.{AllByRecursion, flat_map}
use Rattle.mr_bytes.specs.declared.Name.{Name}
use Rattle.mr_bytes.specs.declared.RecordName.{RecordName}
use Rattle.mr_bytes.specs.Lists.{Has}
use Rattle.mr_jobs.specs.JobSpec.{RequestSpec, flags_of, job_literal, job_number}
use Rattle.mr_splits.specs.Named.{NamedRecord, named_records}
use Rattle.mr_splits.specs.Cut.{is_record}
use Rattle.mr_certform.specs.declared.grammar_state.Item.{Item}
use Rattle.mr_certform.specs.declared.grammar_state.Item.TheVariants.{Magic, Job, Flags, LiteralLength, LiteralByte, Parts, SplitSize, Files, FileLength, Skips, Skip, Entry, End}
use Rattle.mr_certform.specs.Value.{Contents, job_items, input_items, skip_items, group_items, part_items}
use Rattle.mr_sequential.specs.declared.sequence.RunFault.{RunFault}
use Rattle.mr_sequential.specs.declared.sequence.RunFault.TheVariants.{NoSuchRecord, SkipOrder}
use Rattle.mr_sequential.specs.Good.{entries_of}
use Rattle.mr_splits.specs.Kept.{is_past}
use Rattle.mr_sequential.specs.Skips.{list_fault}
use Rattle.mr_verdict.specs.declared.answers.No.{No}
use Rattle.mr_verdict.specs.declared.answers.No.TheVariants as Fault
use Rattle.mr_verdict.specs.Verdict.{WalkCase, Reached, Subject, tests, after, passes, start, part_faults, subject_of, last_of, skip_faults, count_faults, item_eq, job_wanted, input_wanted, wanted_faults, Accepted, accepted_by, told_by}
use Rattle.mr_verdict.proofs.VerdictTests.{none_left, none_right, none_both, passed, passes-true}

-- ---- the verdict is yes where there is no fault

pub told_none : (faults : List No) (a b : Accepted) → ◌≡◌ {A = Result Accepted No} (told_by faults a) (Ok b) → (faults ≡ []) × (a ≡ b)
told_none [] a b e = (refl, cc)
told_none (f ∷ faults) a b e = absurd (cc)

-- ---- the wanted items

pub eq_is : (i w : Item) → item_eq i w ≡ true → i ≡ w
eq_is Magic Magic h = refl
eq_is (Job m) (Job n) h = ap Job (eqb-true m n h)
eq_is (Flags m) (Flags n) h = ap Flags (eqb-true m n h)
eq_is (LiteralLength m) (LiteralLength n) h = ap LiteralLength (eqb-true m n h)
eq_is (LiteralByte m) (LiteralByte n) h = ap LiteralByte (eqb-true m n h)
eq_is (Parts m) (Parts n) h = ap Parts (eqb-true m n h)
eq_is (SplitSize m) (SplitSize n) h = ap SplitSize (eqb-true m n h)
eq_is (Files m) (Files n) h = ap Files (eqb-true m n h)
eq_is (FileLength m) (FileLength n) h = ap FileLength (eqb-true m n h)
eq_is i w h = absurd (false≢true h)

pub wanted_none : (c : WalkCase) (wanted : List Item) (fault : No) (behind : List Item → List No) (is : List Item) → wanted_faults c wanted fault behind is ≡ []
    → (rest : List Item) × (is ≡ wanted ++ rest) × (behind rest ≡ [])
wanted_none c [] fault behind is h = (is, refl, h)
wanted_none c (w ∷ wanted) fault behind [] h = absurd (cc)
wanted_none c (w ∷ wanted) fault behind (i ∷ is) h =
    let same : i ≡ w = eq_is i w (passed _ _ (none_left (passes (item_eq i w) fault) _ h)) in
    let r = wanted_none c wanted fault behind is (none_right (passes (item_eq i w) fault) _ h) in
    (r.0, cc (same, r.1), r.2)

abbrev pub AreEqual : List Item → Type 0
AreEqual ws = AllByRecursion (λ w. item_eq w w ≡ true) ws

wanted_pass : (c : WalkCase) (wanted : List Item) (fault : No) (behind : List Item → List No) (rest : List Item) → AreEqual wanted → wanted_faults c wanted fault behind (wanted ++ rest) ≡ behind rest
wanted_pass c [] fault behind rest h = refl
wanted_pass c (w ∷ wanted) fault behind rest h = ap (λ t. t ++ wanted_faults c wanted fault behind (wanted ++ rest)) (passes-true (item_eq w w) fault h.0) ∙ wanted_pass c wanted fault behind rest h.1

equal_literal : (bs : List ℕ) (ws : List Item) → AreEqual ws → AreEqual (map LiteralByte bs ++ ws)
equal_literal [] ws h = h
equal_literal (b ∷ bs) ws h = (eq-eqb b b refl, equal_literal bs ws h)

pub equal_job : (o : RequestSpec) → AreEqual (job_wanted o)
equal_job o =
    let literal = equal_literal (job_literal o.job) (Parts o.parts ∷ SplitSize o.split ∷ []) (eq-eqb o.parts o.parts refl, (eq-eqb o.split o.split refl, tt)) in
    let long = eq-eqb (length (job_literal o.job)) (length (job_literal o.job)) refl in
    (refl, (eq-eqb (job_number o.job) (job_number o.job) refl, (eq-eqb (flags_of o) (flags_of o) refl, (long, literal))))

equal_lengths : (files : List (List ℕ)) → AreEqual (map (λ (f : List ℕ). FileLength (length f)) files)
equal_lengths [] = tt
equal_lengths (f ∷ files) = (eq-eqb (length f) (length f) refl, equal_lengths files)

pub equal_input : (files : List (List ℕ)) → AreEqual (input_wanted files)
equal_input files = (eq-eqb (length files) (length files) refl, equal_lengths files)

pub job_pass : (c : WalkCase) (behind : List Item → List No) (rest : List Item) → wanted_faults c (job_wanted c.request) Fault.OtherJob behind (job_wanted c.request ++ rest) ≡ behind rest
job_pass c behind rest = wanted_pass c (job_wanted c.request) Fault.OtherJob behind rest (equal_job c.request)

pub input_pass : (c : WalkCase) (behind : List Item → List No) (rest : List Item) → wanted_faults c (input_wanted c.files) Fault.OtherInput behind (input_wanted c.files ++ rest) ≡ behind rest
input_pass c behind rest = wanted_pass c (input_wanted c.files) Fault.OtherInput behind rest (equal_input c.files)

-- ---- the values that the wanted items tell

same_front : (f : ℕ → Item) → ((m n : ℕ) → f m ≡ f n → m ≡ n) → (ls ms : List ℕ) (is js : List Item) → length ls ≡ length ms → map f ls ++ is ≡ map f ms ++ js → (ls ≡ ms) × (is ≡ js)
same_front f one [] [] is js h e = (refl, e)
same_front f one [] (m ∷ ms) is js h e = absurd (omega arith)
same_front f one (l ∷ ls) [] is js h e = absurd (omega arith)
same_front f one (l ∷ ls) (m ∷ ms) is js h e =
    let head : f l ≡ f m = cc in
    let tail : map f ls ++ is ≡ map f ms ++ js = cc in
    let r = same_front f one ls ms is js (omega arith) tail in
    (cc (one l m head, r.0), r.1)

one_byte : (m n : ℕ) → LiteralByte m ≡ LiteralByte n → m ≡ n
one_byte m n e = cc

one_length : (m n : ℕ) → FileLength m ≡ FileLength n → m ≡ n
one_length m n e = cc

-- a job's items, by the values that they tell
abbrev job_of : ℕ → ℕ → List ℕ → ℕ → ℕ → List Item
job_of job flags literal parts size = Magic ∷ (Job job ∷ Flags flags ∷ LiteralLength (length literal) ∷ (map LiteralByte literal ++ (Parts parts ∷ SplitSize size ∷ [])))

pub record SameJob (c : Contents) (o : RequestSpec) : Type 0 where
  pub job : c.job ≡ job_number o.job
  pub flags : c.flags ≡ flags_of o
  pub literal : c.literal ≡ job_literal o.job
  pub parts : c.parts ≡ o.parts
  pub size : c.split_size ≡ o.split

pub job_is : (c : Contents) (o : RequestSpec) → SameJob c o → Magic ∷ job_items c ≡ job_wanted o
job_is c o h = λ i. job_of (h.job i) (h.flags i) (h.literal i) (h.parts i) (h.size i)

pub job_same : (c : Contents) (o : RequestSpec) (is js : List Item) → Magic ∷ (job_items c ++ is) ≡ job_wanted o ++ js → SameJob c o × (is ≡ js)
job_same c o is js e =
    let job : Job c.job ≡ Job (job_number o.job) = cc in
    let flags : Flags c.flags ≡ Flags (flags_of o) = cc in
    let long : LiteralLength (length c.literal) ≡ LiteralLength (length (job_literal o.job)) = cc in
    let tail : (map LiteralByte c.literal ++ (Parts c.parts ∷ SplitSize c.split_size ∷ [])) ++ is ≡ (map LiteralByte (job_literal o.job) ++ (Parts o.parts ∷ SplitSize o.split ∷ [])) ++ js = cc in
    let whole : map LiteralByte c.literal ++ (Parts c.parts ∷ SplitSize c.split_size ∷ is) ≡ map LiteralByte (job_literal o.job) ++ (Parts o.parts ∷ SplitSize o.split ∷ js) =
    sym (append_assoc (map LiteralByte c.literal) (Parts c.parts ∷ SplitSize c.split_size ∷ []) is)
    ∙ (tail ∙ append_assoc (map LiteralByte (job_literal o.job)) (Parts o.parts ∷ SplitSize o.split ∷ []) js) in
    let r = same_front LiteralByte one_byte c.literal (job_literal o.job) (Parts c.parts ∷ SplitSize c.split_size ∷ is) (Parts o.parts ∷ SplitSize o.split ∷ js) (cc) whole in
    let rest : Parts c.parts ∷ SplitSize c.split_size ∷ is ≡ Parts o.parts ∷ SplitSize o.split ∷ js = r.1 in
    (record { job = cc; flags = cc; literal = r.0; parts = cc; size = cc }, cc)

lengths_map : (files : List (List ℕ)) → map (λ (f : List ℕ). FileLength (length f)) files ≡ map FileLength (map length files)
lengths_map [] = refl
lengths_map (f ∷ files) = ap (λ w. FileLength (length f) ∷ w) (lengths_map files)

count_map : (files : List (List ℕ)) → length (map length files) ≡ length files
count_map [] = refl
count_map (f ∷ files) = ap suc (count_map files)

pub input_is : (c : Contents) (files : List (List ℕ)) → c.lengths ≡ map length files → input_items c ≡ input_wanted files
input_is c files h =
    ap (λ (ls : List ℕ). Files (length ls) ∷ map FileLength ls) h
    ∙ (ap (λ (n : ℕ). Files n ∷ map FileLength (map length files)) (count_map files) ∙ ap (λ (w : List Item). Files (length files) ∷ w) (sym (lengths_map files)))

pub input_same : (c : Contents) (files : List (List ℕ)) (is js : List Item) → input_items c ++ is ≡ input_wanted files ++ js → (c.lengths ≡ map length files) × (is ≡ js)
input_same c files is js e =
    let count : Files (length c.lengths) ≡ Files (length files) = cc in
    let long : length c.lengths ≡ length files = cc in
    let tail : map FileLength c.lengths ++ is ≡ map (λ (f : List ℕ). FileLength (length f)) files ++ js = cc in
    same_front FileLength one_length c.lengths (map length files) is js (long ∙ sym (count_map files)) (tail ∙ ap (λ w. w ++ js) (lengths_map files))

-- ---- the left-out records

last_is : (done : List RecordName) (s : RecordName) → last_of (done ++ s ∷ []) ≡ Some s
last_is [] s = refl
last_is (d ∷ []) s = refl
last_is (d ∷ e ∷ done) s = last_is (e ∷ done) s

-- the items of the partitions, up to the end
abbrev pub to_end : List (List (List Name)) → List Item
to_end parts = flat_map part_items parts ++ End ∷ []

behind_skips : (c : WalkCase) (done : List RecordName) (parts : List (List (List Name))) → skip_faults c done (to_end parts) ≡ part_faults (subject_of c done) c.stop start (to_end parts)
behind_skips c done [] = refl
behind_skips c done (gs ∷ parts) = refl

abbrev records_in : WalkCase → List NamedRecord
records_in c = named_records c.request.split c.files

abbrev NoFault : Option RunFault → Type 0
NoFault o = ◌≡◌ {A = Option RunFault} o None

list_parts : (rs : List NamedRecord) (before : Option RecordName) (s : RecordName) (ss : List RecordName) → NoFault (list_fault rs before (s ∷ ss))
    → (is_past before s ≡ true) × (is_record rs s ≡ true) × NoFault (list_fault rs (Some s) ss)
list_parts rs before s ss h = by (is_past before s) (is_record rs s) refl refl h
  where
    by : (p r : Bool) → is_past before s ≡ p → is_record rs s ≡ r → NoFault (cond p (cond r (list_fault rs (Some s) ss) (Some NoSuchRecord)) (Some SkipOrder))
        → (is_past before s ≡ true) × (is_record rs s ≡ true) × NoFault (list_fault rs (Some s) ss)
    by true true p r h = (p, r, h)
    by true false p r h = absurd (cc)
    by false r p q h = absurd (cc)

list_join : (rs : List NamedRecord) (before : Option RecordName) (s : RecordName) (ss : List RecordName) → is_past before s ≡ true → is_record rs s ≡ true → NoFault (list_fault rs (Some s) ss)
    → NoFault (list_fault rs before (s ∷ ss))
list_join rs before s ss p r h =
    ap (λ b. cond b (cond (is_record rs s) (list_fault rs (Some s) ss) (Some NoSuchRecord)) (Some SkipOrder)) p
    ∙ (ap (λ b. cond b (list_fault rs (Some s) ss) (Some NoSuchRecord)) r ∙ h)

one_more : (done : List RecordName) (s : RecordName) (ss : List RecordName) → (done ++ s ∷ []) ++ ss ≡ done ++ s ∷ ss
one_more done s ss = append_assoc done (s ∷ []) ss

pub skips_none : (c : WalkCase) (ss done : List RecordName) (parts : List (List (List Name))) → skip_faults c done (map Skip ss ++ to_end parts) ≡ []
    → NoFault (list_fault (records_in c) (last_of done) ss) × (part_faults (subject_of c (done ++ ss)) c.stop start (to_end parts) ≡ [])
skips_none c [] done parts h = (refl, ap (λ w. part_faults (subject_of c w) c.stop start (to_end parts)) (append-nil done) ∙ (sym (behind_skips c done parts) ∙ h))
skips_none c (s ∷ ss) done parts h =
    let order : List No = passes (is_past (last_of done) s) (Fault.SkipOrder (length done)) in
    let there : List No = passes (is_record (records_in c) s) (Fault.NoSuchRecord (length done)) in
    let rest : List No = skip_faults c (done ++ s ∷ []) (map Skip ss ++ to_end parts) in
    let here = none_left (order ++ there) rest h in
    let r = skips_none c ss (done ++ s ∷ []) parts (none_right (order ++ there) rest h) in
    let later : NoFault (list_fault (records_in c) (Some s) ss) = ap (λ o. list_fault (records_in c) o ss) (sym (last_is done s)) ∙ r.0 in (
      list_join (records_in c) (last_of done) s ss (passed _ _ (none_left order there here)) (passed _ _ (none_right order there here)) later,
      ap (λ w. part_faults (subject_of c w) c.stop start (to_end parts)) (sym (one_more done s ss)) ∙ r.1,
    )

pub skips_pass : (c : WalkCase) (ss done : List RecordName) (parts : List (List (List Name))) → NoFault (list_fault (records_in c) (last_of done) ss)
    → skip_faults c done (map Skip ss ++ to_end parts) ≡ part_faults (subject_of c (done ++ ss)) c.stop start (to_end parts)
skips_pass c [] done parts h = behind_skips c done parts ∙ ap (λ w. part_faults (subject_of c w) c.stop start (to_end parts)) (sym (append-nil done))
skips_pass c (s ∷ ss) done parts h =
    let order : List No = passes (is_past (last_of done) s) (Fault.SkipOrder (length done)) in
    let there : List No = passes (is_record (records_in c) s) (Fault.NoSuchRecord (length done)) in
    let l = list_parts (records_in c) (last_of done) s ss h in
    let later : NoFault (list_fault (records_in c) (last_of (done ++ s ∷ [])) ss) = ap (λ o. list_fault (records_in c) o ss) (last_is done s) ∙ l.2 in
    ap (λ w. w ++ skip_faults c (done ++ s ∷ []) (map Skip ss ++ to_end parts)) (none_both order there (passes-true _ _ l.0) (passes-true _ _ l.1))
    ∙ (skips_pass c ss (done ++ s ∷ []) parts later ∙ ap (λ w. part_faults (subject_of c w) c.stop start (to_end parts)) (one_more done s ss))

-- ---- where there is no fault the items end

part_ends : (s : Subject) (at : ℕ) (st : Reached) (is : List Item) → part_faults s at st is ≡ [] → Has is End
part_ends s at st [] h = absurd (cc)
part_ends s at st (End ∷ is) h = inl refl
part_ends s at st (i ∷ is) h = inr (part_ends s at (after s st i) is (none_right (tests s st i) _ h))

skip_ends : (c : WalkCase) (done : List RecordName) (is : List Item) → skip_faults c done is ≡ [] → Has is End
skip_ends c done [] h = part_ends (subject_of c done) c.stop start [] h
skip_ends c done (Skip s ∷ is) h =
    inr (skip_ends c (done ++ s ∷ []) is (none_right (passes (is_past (last_of done) s) (Fault.SkipOrder (length done)) ++ passes (is_record (records_in c) s) (Fault.NoSuchRecord (length done))) _ h))
skip_ends c done (i ∷ is) h = part_ends (subject_of c done) c.stop start (i ∷ is) h

-- the number of left-out records, and what is behind it
pub count_none : (c : WalkCase) (is : List Item) → count_faults c is ≡ [] → (n : ℕ) × (rest : List Item) × (is ≡ Skips n ∷ rest) × (n ≤ c.request.skips) × (skip_faults c [] rest ≡ [])
count_none c (Skips n ∷ is) h =
    let test : List No = passes (nat_le n c.request.skips) (Fault.TooManySkips n) in
    (n, is, refl, leb-true _ _ (passed _ _ (none_left test _ h)), none_right test _ h)
count_none c [] h = absurd (cc)
count_none c (i ∷ is) h = absurd (cc)

pub count_ends : (c : WalkCase) (is : List Item) → count_faults c is ≡ [] → Has is End
count_ends c is h =
    let r = count_none c is h in
    subst (λ w. Has w End) (sym r.2) (inr (skip_ends c [] r.1 r.4))

-- ---- what the items tell of a good result

accepted_append : (a : Accepted) (is js : List Item) → accepted_by a (is ++ js) ≡ accepted_by (accepted_by a is) js
accepted_append a [] js = refl
accepted_append a (Skip s ∷ is) js = accepted_append (record a { skips = a.skips ++ s ∷ [] }) is js
accepted_append a (Entry n ∷ is) js = accepted_append (record a { pairs = a.pairs + 1 }) is js
accepted_append a (i ∷ is) js = accepted_append a is js

accepted_literal : (a : Accepted) (bs : List ℕ) → accepted_by a (map LiteralByte bs) ≡ a
accepted_literal a [] = refl
accepted_literal a (b ∷ bs) = accepted_literal a bs

accepted_lengths : (a : Accepted) (ls : List ℕ) → accepted_by a (map FileLength ls) ≡ a
accepted_lengths a [] = refl
accepted_lengths a (l ∷ ls) = accepted_lengths a ls

accepted_skips : (a : Accepted) (ss : List RecordName) → accepted_by a (map Skip ss) ≡ record a { skips = a.skips ++ ss }
accepted_skips a [] = ap (λ (w : List RecordName). record a { skips = w }) (sym (append-nil a.skips))
accepted_skips a (s ∷ ss) = accepted_skips (record a { skips = a.skips ++ s ∷ [] }) ss ∙ ap (λ (w : List RecordName). record a { skips = w }) (one_more a.skips s ss)

accepted_names : (a : Accepted) (ns : List Name) → accepted_by a (map Entry ns) ≡ record a { pairs = a.pairs + length ns }
accepted_names a [] = let none : a.pairs ≡ a.pairs + 0 = omega arith in ap (λ (w : ℕ). record a { pairs = w }) none
accepted_names a (n ∷ ns) =
    let more : a.pairs + 1 + length ns ≡ a.pairs + suc (length ns) = omega arith in
    accepted_names (record a { pairs = a.pairs + 1 }) ns ∙ ap (λ (w : ℕ). record a { pairs = w }) more

accepted_groups : (a : Accepted) (gs : List (List Name)) → accepted_by a (flat_map group_items gs) ≡ record a { pairs = a.pairs + length (flat_map (λ (ns : List Name). ns) gs) }
accepted_groups a [] = let none : a.pairs ≡ a.pairs + 0 = omega arith in ap (λ (w : ℕ). record a { pairs = w }) none
accepted_groups a (ns ∷ gs) =
    let more : a.pairs + length ns + length (flat_map (λ (ms : List Name). ms) gs) ≡ a.pairs + length (ns ++ flat_map (λ (ms : List Name). ms) gs) = omega (arith, length-append ns (flat_map (λ (ms : List Name). ms) gs)) in
    accepted_append a (map Entry ns) (flat_map group_items gs)
    ∙ (ap (λ w. accepted_by w (flat_map group_items gs)) (accepted_names a ns)
    ∙ (accepted_groups (record a { pairs = a.pairs + length ns }) gs ∙ ap (λ (w : ℕ). record a { pairs = w }) more))

accepted_parts : (a : Accepted) (parts : List (List (List Name))) → accepted_by a (flat_map part_items parts) ≡ record a { pairs = a.pairs + length (entries_of parts) }
accepted_parts a [] = let none : a.pairs ≡ a.pairs + 0 = omega arith in ap (λ (w : ℕ). record a { pairs = w }) none
accepted_parts a (gs ∷ parts) =
    let here : List Name = flat_map (λ (ms : List Name). ms) gs in
    let more : a.pairs + length here + length (entries_of parts) ≡ a.pairs + length (here ++ entries_of parts) = omega (arith, length-append here (entries_of parts)) in
    accepted_append a (flat_map group_items gs) (flat_map part_items parts)
    ∙ (ap (λ w. accepted_by w (flat_map part_items parts)) (accepted_groups a gs)
    ∙ (accepted_parts (record a { pairs = a.pairs + length here }) parts ∙ ap (λ (w : ℕ). record a { pairs = w }) more))

abbrev pub nothing : Accepted
nothing = record { skips = []; pairs = 0 }

pub accepted_all : (c : Contents)
    → accepted_by nothing (Magic ∷ (job_items c ++ (input_items c ++ (skip_items c ++ to_end c.groups)))) ≡ record { skips = c.skips; pairs = length (entries_of c.groups) }
accepted_all c =
    let input : List Item = input_items c ++ (skip_items c ++ to_end c.groups) in
    let skips : List Item = skip_items c ++ to_end c.groups in
    let count : 0 + length (entries_of c.groups) ≡ length (entries_of c.groups) = omega arith in
    accepted_append nothing (job_items c) input
    ∙ (ap (λ w. accepted_by w input) (accepted_append nothing (map LiteralByte c.literal) (Parts c.parts ∷ SplitSize c.split_size ∷ []) ∙ ap (λ w. accepted_by w (Parts c.parts ∷ SplitSize c.split_size ∷ [])) (accepted_literal nothing c.literal))
    ∙ (accepted_append nothing (input_items c) skips
    ∙ (ap (λ w. accepted_by w skips) (accepted_lengths nothing c.lengths)
    ∙ (accepted_append nothing (skip_items c) (to_end c.groups)
    ∙ (ap (λ w. accepted_by w (to_end c.groups)) (accepted_skips nothing c.skips)
    ∙ (accepted_append (record { skips = c.skips; pairs = 0 }) (flat_map part_items c.groups) (End ∷ [])
    ∙ (ap (λ w. accepted_by w (End ∷ [])) (accepted_parts (record { skips = c.skips; pairs = 0 }) c.groups)
    ∙ ap (λ (n : ℕ). let it : Accepted = record { skips = c.skips; pairs = n } in it) count)))))))
