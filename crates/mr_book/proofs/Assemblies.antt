-- Committed outputs put together, and what a done job has committed.
use Rattle.std.proofs.Common.{◌≡◌, ℕ, zero, suc, ◌+◌, ◌<◌, ◌≤◌, Option, Some, None, List, [], ◌∷◌, ◌++◌, length, map, take, slice_get, get_or, refl, ap, sym, ◌∙◌, subst, append_assoc, append-nil, arith, true, is_some}
use Rattle.std.specs.Prelude.{slice_index_or}
use Rattle.std.specs.List.{AllByRecursion, list_all, sum_by}
use Rattle.std.proofs.lemmas.List.Sums.{sum_by-cons}
use Rattle.mr_core.specs.Promises.{FewAreLeftOut}
use Rattle.std.specs.Option.{option_map_or, unwrap_or}
use Rattle.std.proofs.lemmas.Bool.{false≢true}
use Rattle.std.proofs.lemmas.List.{take_more, length-append, length-map, length-take, map-append}
use Rattle.mr_bytes.specs.declared.Name.{Name}
use Rattle.mr_bytes.specs.declared.RecordName.{RecordName}
use Rattle.mr_certform.specs.declared.version.Version.{Version}
use Rattle.mr_certform.specs.declared.version.Version.TheVariants.{V1}
use Rattle.mr_certform.specs.Value.{CanSpell}
use Rattle.mr_certform.proofs.Spelled.{whole_groups}
use Rattle.mr_task.specs.Values.{Reduced}
use Rattle.mr_core.specs.declared.event.Event.{Event}
use Rattle.mr_core.specs.declared.event.End.{End}
use Rattle.mr_core.specs.declared.event.Reply.{Reply}
use Rattle.mr_core.specs.declared.event.Shape.{Shape}
use Rattle.mr_core.specs.declared.entries.Split.{Split}
use Rattle.mr_core.specs.Master.{State, Run, opening}
use Rattle.mr_core.specs.Looks.{committed_of, part_output, set_of, split_set}
use Rattle.mr_core.proofs.Progress.{Going, run_going, going_at_opening}
use Rattle.mr_book.specs.Assembled.{committed_values, in_split, nothing, records_from}
use Rattle.mr_book.specs.Assembling.{reduced_under, sets_of}
use Rattle.mr_book.specs.Stored.{stored_at}

All-append : {X : Type 0} (P : X → Type 0) (xs ys : List X) → AllByRecursion P xs → AllByRecursion P ys → AllByRecursion P (xs ++ ys)
All-append P [] ys a b = b
All-append P (x ∷ xs) ys a b = (a.0, All-append P xs ys a.1 b)

-- ---- left-out sets

records-append : (a : ℕ) (ks : List (List ℕ)) (k : List ℕ) → records_from a (ks ++ k ∷ []) ≡ records_from a ks ++ map (in_split (a + length ks)) k
records-append a [] k = let here : a ≡ a + 0 = omega arith in append-nil (map (in_split a) k) ∙ ap (λ n. map (in_split n) k) here
records-append a (j ∷ ks) k =
    let there : suc a + length ks ≡ a + suc (length ks) = omega arith in
    ap (λ rs. map (in_split a) j ++ rs) (records-append (suc a) ks k ∙ ap (λ n. records_from (suc a) ks ++ map (in_split n) k) there)
    ∙ sym (append_assoc (map (in_split a) j) (records_from (suc a) ks) (map (in_split (a + suc (length ks))) k))

set_at : (sps : List Split) (i : ℕ) → get_or (map (λ sp. sp.skips) sps) i [] ≡ split_set (slice_get sps i)
set_at [] i = refl
set_at (sp ∷ sps) zero = refl
set_at (sp ∷ sps) (suc i) = set_at sps i

-- the sets of the splits before the next one, and its own
pub records_more : (st : State) (i : ℕ) (rs : List RecordName) → i < length st.splits → rs ≡ records_from 0 (take i (sets_of st))
    → rs ++ map (in_split i) (set_of st i) ≡ records_from 0 (take (i + 1) (sets_of st))
records_more st i rs l is =
    let within : i < length (sets_of st) = omega (arith, length-map st.splits (λ (sp : Split). sp.skips)) in
    let count : 0 + length (take i (sets_of st)) ≡ i = omega (arith, length-take i (sets_of st)) in
    sym (
    ap (records_from 0) (take_more (sets_of st) i [] within)
    ∙ records-append 0 (take i (sets_of st)) (get_or (sets_of st) i [])
    ∙ (λ j. sym is j ++ map (in_split (count j)) (set_at st.splits i j))
    )

-- ---- what is committed

sum_parts : (sh : Shape) (h : List (Event × Reply)) (st : State) → 1 ≤ sh.parts → 1 ≤ sh.limits.attempts → Run sh (opening sh) h st → Going sh st
sum_parts sh h st parts attempts run = (run_going sh (opening sh) h st (going_at_opening sh parts attempts) run).0

-- each partition of a done job is committed
some_at : (xs : List (Option ℕ)) (p : ℕ) → list_all is_some xs ≡ true → p < length xs → (o : ℕ) × (slice_get xs p ≡ Some (Some o))
some_at [] p all l = absurd (omega arith)
some_at (None ∷ xs) p all l = absurd (false≢true all)
some_at (Some x ∷ xs) zero all l = (x, refl)
some_at (Some x ∷ xs) (suc p) all l = some_at xs p all (omega arith)

committed_at : (sh : Shape) (h : List (Event × Reply)) (st : State) → 1 ≤ sh.limits.attempts → Run sh (opening sh) h st → st.end ≡ Some End.Done
    → (p : ℕ) → p < sh.parts → (o : ℕ) × (slice_get st.committed p ≡ Some (Some o))
committed_at sh h st attempts run ends p l =
    let going = sum_parts sh h st (omega arith) attempts run in
    some_at st.committed p (going.done ends) (omega (arith, going.sound.parts_long))

-- so none is missing
pub none_missing : {A : Type 0} (sh : Shape) (h : List (Event × Reply)) (st : State) → 1 ≤ sh.limits.attempts → Run sh (opening sh) h st → st.end ≡ Some End.Done
    → (p : ℕ) → p < sh.parts → committed_of st p ≡ None → A
none_missing sh h st attempts run ends p l none =
    let at = committed_at sh h st attempts run ends p l in
    absurd (cc (sym (ap part_output at.1) ∙ none))

-- the committed value of a partition is what is stored under its number
value_at : (reduces : List (ℕ × Reduced)) (xs : List (Option ℕ)) (p x : ℕ) (v : Reduced) → part_output (slice_get xs p) ≡ Some x → stored_at reduces x ≡ Some v
    → v ≡ slice_index_or (map (λ o. option_map_or (reduced_under reduces) o nothing) xs) p nothing
value_at reduces [] p x v e is = absurd (cc e)
value_at reduces (None ∷ xs) zero x v e is = absurd (cc e)
value_at reduces (Some o ∷ xs) zero x v e is =
    let same : o ≡ x = cc e in
    sym (ap (λ w. unwrap_or w nothing) is) ∙ ap (reduced_under reduces) (sym same)
value_at reduces (o ∷ xs) (suc p) x v e is = value_at reduces xs p x v e is

pub commit_is : (st : State) (reduces : List (ℕ × Reduced)) (p x : ℕ) (v : Reduced) → committed_of st p ≡ Some x → stored_at reduces x ≡ Some v
    → v ≡ slice_index_or (committed_values (reduced_under reduces) st) p nothing
commit_is st reduces p x v e is = value_at reduces st.committed p x v e is

-- ---- partitions put together

pub mapped_more : {X : Type 0} (f : Reduced → X) (vs : List Reduced) (p : ℕ) (xs : List X) (v : Reduced) → p < length vs → xs ≡ map f (take p vs) → v ≡ slice_index_or vs p nothing
    → xs ++ f v ∷ [] ≡ map f (take (p + 1) vs)
mapped_more f vs p xs v l is one = (λ i. is i ++ f (one i) ∷ []) ∙ sym (ap (map f) (take_more vs p nothing l) ∙ map-append f (take p vs) (slice_index_or vs p nothing ∷ []))

-- ---- what a version can spell

-- the groups of one partition more
pub can_more : (version : Version) (vs : List Reduced) (p : ℕ) (v : Reduced) → p < length vs → AllByRecursion (CanSpell version) (map (λ (v : Reduced). v.groups) (take p vs))
    → v ≡ slice_index_or vs p nothing → CanSpell version v.groups → AllByRecursion (CanSpell version) (map (λ (v : Reduced). v.groups) (take (p + 1) vs))
can_more version vs p v l so_far one can =
    let before : List (List (List Name)) = map (λ (v : Reduced). v.groups) (take p vs) in
    subst (AllByRecursion (CanSpell version)) (mapped_more (λ (v : Reduced). v.groups) vs p before v l refl one)
    (All-append (CanSpell version) before (v.groups ∷ []) so_far (can, tt))

-- the groups of one partition of all
pub can_at : (version : Version) (vs : List Reduced) (p : ℕ) → p < length vs → AllByRecursion (CanSpell version) (map (λ (v : Reduced). v.groups) vs)
    → CanSpell version (slice_index_or vs p nothing).groups
can_at version [] p l all = absurd (omega arith)
can_at version (v ∷ vs) zero l all = all.0
can_at version (v ∷ vs) (suc p) l all = can_at version vs p (omega arith) all.1

-- version 1 can spell all groups
pub first_can : (parts : List (List (List Name))) → AllByRecursion (CanSpell V1) parts
first_can [] = tt
first_can (gs ∷ parts) = (whole_groups gs, first_can parts)

pub parts_count : (sh : Shape) (h : List (Event × Reply)) (st : State) (reduces : List (ℕ × Reduced)) → 1 ≤ sh.parts → 1 ≤ sh.limits.attempts → Run sh (opening sh) h st
    → length (committed_values (reduced_under reduces) st) ≡ sh.parts
parts_count sh h st reduces parts attempts run = length-map st.committed (λ o. option_map_or (reduced_under reduces) o nothing) ∙ (sum_parts sh h st parts attempts run).sound.parts_long

pub splits_count : (sh : Shape) (h : List (Event × Reply)) (st : State) → 1 ≤ sh.parts → 1 ≤ sh.limits.attempts → Run sh (opening sh) h st → length st.splits ≡ sh.maps
splits_count sh h st parts attempts run = (sum_parts sh h st parts attempts run).sound.splits_long

-- ---- how many records are left out

length-records : (a : ℕ) (sps : List Split) → length (records_from a (map (λ sp. sp.skips) sps)) ≡ sum_by (λ sp. length sp.skips) sps
length-records a [] = refl
length-records a (sp ∷ sps) =
    omega (arith, length-append (map (in_split a) sp.skips) (records_from (suc a) (map (λ sp. sp.skips) sps)), length-map sp.skips (in_split a), length-records (suc a) sps, sum_by-cons (λ (w : Split). length w.skips) sp sps)

pub few_left_out : (sh : Shape) (h : List (Event × Reply)) (st : State) → FewAreLeftOut sh st → sh.limits.skips ≤ 1000 → length (records_from 0 (sets_of st)) ≤ 1000
few_left_out sh h st few most = omega (arith, few, length-records 0 st.splits)
