-- The assembled result of a done job is that of the sequential execution.
use Rattle.std.proofs.Common.{◌≡◌, ℕ, zero, suc, ◌+◌, ◌<◌, ◌≤◌, Option, Some, None, List, [], ◌∷◌, length, inl, inr, map, slice_get, refl, ap, sym, ◌∙◌, subst, arith, Bool, true, cond, is_some}
use Rattle.std.specs.Prelude.{IsTrue}
use Rattle.std.specs.List.{range_with_len, list_all}
use Rattle.std.specs.Option.{option_map_or, option_map}
use Rattle.std.proofs.lemmas.Bool.{false≢true}
use Rattle.std.proofs.lemmas.Option.{slice_get-map}
use Rattle.std.proofs.lemmas.List.{length-map}
use Rattle.std.proofs.lemmas.List.FromFn.{length-map-range_with_len, get_or-map-range_with_len}
use Rattle.mr_bytes.specs.declared.RecordName.{RecordName}
use Rattle.mr_bytes.specs.Lists.{Has}
use Rattle.mr_bytes.specs.Pairs.{Triple}
use Rattle.mr_bytes.proofs.ListLaws.{Has-append_left, Has-append_right}
use Rattle.mr_spill.proofs.RegionLaws.{rises-names}
use Rattle.mr_input.specs.Files.{nth_file, split_total}
use Rattle.mr_jobs.specs.JobSpec.{RequestSpec}
use Rattle.mr_splits.specs.Named.{named_records}
use Rattle.mr_splits.specs.Cut.{is_record}
use Rattle.mr_sequential.specs.Rules.{rules_of}
use Rattle.mr_sequential.specs.Emitted.{emitted}
use Rattle.mr_sequential.specs.Sequential.{texts_of}
use Rattle.mr_sequential.specs.Certified.{certificate_of, groups_of}
use Rattle.mr_sequential.specs.Good.{IsGood}
use Rattle.mr_sequential.specs.Skips.{skip_fault}
use Rattle.mr_sequential.proofs.NameLaws.{names_rise}
use Rattle.mr_sequential.proofs.SkipLaws.{good_skips}
use Rattle.mr_sequential.proofs.CertifiedLaws.{sequential_is_good}
use Rattle.mr_sequential.proofs.EntryLaws.{EachFrom}
use Rattle.mr_task.specs.Values.{Reduced}
use Rattle.mr_core.specs.declared.event.Shape.{Shape}
use Rattle.mr_core.specs.declared.event.Task.{Task}
use Rattle.mr_core.specs.declared.event.Task.TheVariants.{Reduce as ReduceTask}
use Rattle.mr_core.specs.declared.event.Event.{Event}
use Rattle.mr_core.specs.declared.event.Event.TheVariants.{Fetch, MapDone, ReduceDone}
use Rattle.mr_core.specs.declared.event.Reply.{Reply}
use Rattle.mr_core.specs.declared.event.Reply.TheVariants.{Accepted, Region}
use Rattle.mr_core.specs.declared.entries.Split.{Split}
use Rattle.mr_core.specs.Master.{State, Attempt, Run, opening}
use Rattle.mr_core.specs.Laws.{IsMapOf, IsReduceOf, GoesOnWith}
use Rattle.mr_core.proofs.Steps.{set_of, run_goes, run_accepts, kept_at_opening, fixed_to, left_out-is}
use Rattle.mr_core.proofs.FetchLaws.{committed_fetched, part_was_accepted}
use Rattle.mr_core.proofs.Places.{get-map_from}
use Rattle.mr_core.proofs.Traced.{attempt_of_job}
use Rattle.mr_core.proofs.Sets.{IsSet, sets_and_parts}
use Rattle.mr_core.proofs.Progress.{Going, run_going, going_at_opening}
use Rattle.mr_book.specs.Assembled.{in_split, records_from, fixed_set, fixed_sets, left_out_records, nothing, committed_values, assembled_outputs, assembled_certificate}
use Rattle.mr_book.specs.Faithful.{IsHandedTo, IsValueOf, value_over}
use Rattle.mr_book.specs.AssembledLaws.{sequential_value, ValuesAreSequential, IsDone, AttemptsHaveOneValue, CommittedHaveAValue, DoneSetsAreFixed, DoneIsSequential, DoneIsCertified, DoneIsGood, DoneIsAGoodResult}
use Rattle.mr_book.proofs.Emissions.{leaves_out, split-below, without}
use Rattle.mr_book.proofs.Handed.{reduce_is, map-after}
use Rattle.mr_book.proofs.Skips.{records-rise, records-all, each_fixed, few_records}

-- ---- lists

same_slices : {X : Type 0} (xs ys : List X) → length xs ≡ length ys → ((i : ℕ) (x : X) → slice_get xs i ≡ Some x → slice_get ys i ≡ Some x) → xs ≡ ys
same_slices [] [] l f = refl
same_slices [] (y ∷ ys) l f = absurd (omega arith)
same_slices (x ∷ xs) [] l f = absurd (omega arith)
same_slices (x ∷ xs) (y ∷ ys) l f =
    let head : y ≡ x = cc (f 0 x refl) in
    let rest : xs ≡ ys = same_slices xs ys (omega arith) (λ i z e. f (suc i) z e) in
    λ i. sym head i ∷ rest i

-- a list whose elements are those of their places
by_places : {X Y : Type 0} (f : X → Y) (g : ℕ → Y) (a : ℕ) (xs : List X) → ((i : ℕ) (x : X) → slice_get xs i ≡ Some x → f x ≡ g (a + i)) → map f xs ≡ map g (range_with_len a (length xs))
by_places f g a [] e = refl
by_places f g a (x ∷ xs) e =
    let zero_a : a + 0 ≡ a = omega arith in
    let head : f x ≡ g a = e 0 x refl ∙ ap g zero_a in
    let rest : map f xs ≡ map g (range_with_len (a + 1) (length xs)) = by_places f g (a + 1) xs (λ i y h. let there : a + suc i ≡ a + 1 + i = omega arith in e (suc i) y h ∙ ap g there) in
    λ i. head i ∷ rest i

some_at : {X : Type 0} (xs : List (Option X)) (i : ℕ) (o : Option X) → list_all is_some xs ≡ true → slice_get xs i ≡ Some o → (x : X) × (o ≡ Some x)
some_at [] i o e h = absurd (cc h)
some_at (None ∷ xs) i o e h = absurd (false≢true e)
some_at (Some x ∷ xs) zero o e h = (x, sym (cc h))
some_at (Some x ∷ xs) (suc i) o e h = some_at xs i o e h

get_below : {X : Type 0} (xs : List X) (i : ℕ) (x : X) → slice_get xs i ≡ Some x → i < length xs
get_below [] i x e = absurd (cc e)
get_below (y ∷ xs) zero x e = omega arith
get_below (y ∷ xs) (suc i) x e = omega (arith, get_below xs i x e)

-- ---- histories

cut_at : (h : List (Event × Reply)) (e : Event × Reply) → Has h e → (before : List (Event × Reply)) × GoesOnWith before e h
cut_at [] e has = absurd has
cut_at (x ∷ h) e (inl is) = ([], (h, ap (λ y. y ∷ h) is))
cut_at (x ∷ h) e (inr has) = let rest = cut_at h e has in (x ∷ rest.0, (rest.1.0, ap (λ ys. x ∷ ys) rest.1.1))

stands_in : (before : List (Event × Reply)) (e : Event × Reply) (h : List (Event × Reply)) → GoesOnWith before e h → Has h e
stands_in before e h g = subst (λ w. Has w e) (sym g.1) (Has-append_right before (e ∷ g.0) e (inl refl))

stood_before : (before : List (Event × Reply)) (e : Event × Reply) (h : List (Event × Reply)) → GoesOnWith before e h → (x : Event × Reply) → Has before x → Has h x
stood_before before e h g x has = subst (λ w. Has w x) (sym g.1) (Has-append_left before (e ∷ g.0) x has)

-- ---- values

pub values_are_sequential : ValuesAreSequential
values_are_sequential request files sets p split long =
    let ts : List Triple = emitted request.job request.split files [] in
    let left : List RecordName = records_from 0 sets in
    let whole : without ts left ≡ emitted request.job request.split files left = sym (leaves_out request.job request.split files left) in
    reduce_is (rules_of request).part ts (rises-names ts (names_rise request files [] split)) p sets (λ t h. omega (arith, split-below request.job request.split files split t h, long)) (rules_of request).text
    ∙ ap (λ (us : List Triple). record { output = texts_of (rules_of request) us p; groups = groups_of (rules_of request).part us p }) whole

-- ---- what a committed attempt was handed

module _ (sh : Shape) (h : List (Event × Reply)) (st : State) (run : Run sh (opening sh) h st) where
  -- the split of an accepted map attempt is fixed to the attempt's set
  set_is_fixed : (b x s : ℕ) (k : List ℕ) → Has h (MapDone b x, Accepted) → IsMapOf st b s k → slice_get (fixed_sets st) s ≡ Some k
  set_is_fixed b x s k done is =
      let fixed = fixed_to st b s k (run_accepts sh (opening sh) h st b x (kept_at_opening sh) run done) is in
      let sp = get-map_from set_of st.splits s (k, true) fixed in
      let same : fixed_set sp.0 ≡ k = ap (λ (w : List ℕ × Bool). cond (w.1) (w.0) []) (sym sp.2) in
      slice_get-map fixed_set st.splits s ∙ (ap (option_map fixed_set) sp.1 ∙ ap Some same)

  -- all that an attempt can have been handed are the fixed sets
  handed_is_fixed : (a : ℕ) (ks : List (List ℕ)) → IsHandedTo h st a ks → ks ≡ fixed_sets st
  handed_is_fixed a ks is = same_slices ks (fixed_sets st) (is.one_each ∙ sym (length-map st.splits fixed_set)) (λ s k e. let w = is.each s k e in set_is_fixed w.2 w.0 s k w.3 w.4)

  -- a committed attempt was handed them
  pub handed_fixed : length st.splits ≡ sh.maps → (a o : ℕ) → Has h (ReduceDone a o, Accepted) → IsHandedTo h st a (fixed_sets st)
  handed_fixed long a o done =
      let cut = cut_at h (ReduceDone a o, Accepted) done in
      record {
        one_each = length-map st.splits fixed_set;
        each = λ s k e.
            let x = committed_fetched sh h st run cut.0 a o cut.1 s (omega (arith, get_below (fixed_sets st) s k e, length-map st.splits fixed_set)) in
            let fetch = x.1 in
            let out = fetch.2 in
            let lift : (y : Event × Reply) → Has cut.0 y → Has h y = λ y f. stood_before cut.0 (ReduceDone a o, Accepted) h cut.1 y f in
            let fetched : Has h (Fetch a s, Region x.0) = lift (Fetch a s, Region x.0) (stands_in fetch.0 (Fetch a s, Region x.0) cut.0 fetch.1) in
            let taken : Has h (MapDone out.0 x.0, Accepted) = lift (MapDone out.0 x.0, Accepted) (stood_before fetch.0 (Fetch a s, Region x.0) cut.0 fetch.1 (MapDone out.0 x.0, Accepted) out.1) in
            let at : Attempt = out.2 in
            let same : Some at.skips ≡ Some k = sym (set_is_fixed out.0 x.0 s at.skips taken (at, out.3, out.4, refl)) ∙ e in
            (x.0, fetched, out.0, taken, (at, out.3, out.4, cc same));
      }

  one_partition : (a p q : ℕ) → IsReduceOf st a p → IsReduceOf st a q → p ≡ q
  one_partition a p q r t =
      let one : r.0 ≡ t.0 = cc (sym r.1 ∙ t.1) in
      let tasks : ReduceTask p ≡ ReduceTask q = sym r.2 ∙ (ap (λ (x : Attempt). x.task) one ∙ t.2) in
      cc tasks

  value_is : (request : RequestSpec) (files : List (List ℕ)) (a p : ℕ) (v : Reduced) → IsReduceOf st a p → IsValueOf request files h st a v → v ≡ value_over request files (fixed_sets st) p
  value_is request files a p v task is =
      is.is ∙ (ap (value_over request files is.sets) (one_partition a is.partition p is.reduce task) ∙ ap (λ ks. value_over request files ks p) (handed_is_fixed a is.sets is.handed))

pub attempts_have_one_value : AttemptsHaveOneValue
attempts_have_one_value request files sh h st a p v run task is = value_is sh h st run request files a p v task is

pub committed_have_a_value : CommittedHaveAValue
committed_have_a_value request files sh h st a o p parts attempts run done task =
    let going = (run_going sh (opening sh) h st (going_at_opening sh parts attempts) run).0 in
    record { partition = p; sets = fixed_sets st; reduce = task; handed = handed_fixed sh h st run going.sound.splits_long a o done; is = refl }

-- ---- done jobs

map-by_place : {X Y : Type 0} (f g : X → Y) (xs : List X) → ((i : ℕ) (x : X) → slice_get xs i ≡ Some x → f x ≡ g x) → map f xs ≡ map g xs
map-by_place f g [] same = refl
map-by_place f g (x ∷ xs) same = let rest = map-by_place f g xs (λ i y e. same (suc i) y e) in λ j. same 0 x refl j ∷ rest j

some_committed : (xs : List (Option ℕ)) → 1 ≤ length xs → list_all is_some xs ≡ true → (o : ℕ) × (slice_get xs 0 ≡ Some (Some o))
some_committed [] l all = absurd (omega arith)
some_committed (None ∷ xs) l all = absurd (false≢true all)
some_committed (Some o ∷ xs) l all = (o, refl)

pub done_sets_are_fixed : DoneSetsAreFixed
done_sets_are_fixed sh h st parts attempts run ends =
    let going = (run_going sh (opening sh) h st (going_at_opening sh parts attempts) run).0 in
    let first = some_committed st.committed (omega (arith, going.sound.parts_long)) (going.done ends) in
    let commit = part_was_accepted sh h st run 0 first.0 first.1 in
    let handed = handed_fixed sh h st run going.sound.splits_long commit.0 first.0 commit.1 in
    ap (records_from 0) (map-by_place fixed_set (λ (sp : Split). sp.skips) st.splits (λ i sp e.
    let there : slice_get (fixed_sets st) i ≡ Some (fixed_set sp) = slice_get-map fixed_set st.splits i ∙ ap (option_map fixed_set) e in
    let x = handed.each i (fixed_set sp) there in
    let fixed = fixed_to st x.2 i (fixed_set sp) (run_accepts sh (opening sh) h st x.2 x.0 (kept_at_opening sh) run x.3) x.4 in
    let at = get-map_from set_of st.splits i (fixed_set sp, true) fixed in
    let same : Some at.0 ≡ Some sp = sym at.1 ∙ e in
    let one : at.0 ≡ sp = cc same in
    ap (λ (w : List ℕ × Bool). w.0) at.2 ∙ ap (λ (q : Split). q.skips) one))

-- ---- the result

module _ (request : RequestSpec) (files : List (List ℕ)) (sh : Shape) (h : List (Event × Reply)) (st : State) (what : ℕ → Reduced) (done : IsDone request files sh h st what) where
  going : Going sh st
  going = (run_going sh (opening sh) h st (going_at_opening sh done.parts done.attempts) done.run).0

  Exists : ℕ → ℕ → Type 0
  Exists s r = IsTrue (is_record (named_records request.split files) (in_split s r))

  IsValue : ℕ → ℕ → Type 0
  IsValue p o = what o ≡ value_over request files (fixed_sets st) p

  found : ((s : ℕ) (sp : Split) → slice_get st.splits s ≡ Some sp → IsSet Exists s sp.skips) × ((p o : ℕ) → slice_get st.committed p ≡ Some (Some o) → IsValue p o)
  unfolding Exists IsValue
  found = sets_and_parts Exists IsValue sh h st done.run
      (λ a r s k e d. done.faithful.failures a r s k e (attempt_of_job st a s k d))
      (λ a o p k e d.
      let u = get-map_from _ st.attempts a (ReduceTask p, k) d in
      value_is sh h st done.run request files a p (what o) (u.0, u.1, ap (λ (x : Task × List ℕ). x.0) (sym u.2)) (done.faithful.values a o e))

  values_are : committed_values what st ≡ map (sequential_value request files (fixed_sets st)) (range_with_len 0 request.parts)
  unfolding IsValue
  values_are =
      let long : length (fixed_sets st) ≡ split_total request.split files = length-map st.splits fixed_set ∙ (going.sound.splits_long ∙ done.opened.maps) in
      let parts : length st.committed ≡ request.parts = going.sound.parts_long ∙ done.opened.parts in
      by_places (λ (o : Option ℕ). option_map_or what o nothing) (sequential_value request files (fixed_sets st)) 0 st.committed (λ p o e.
      let x = some_at st.committed p o (going.done done.ends) e in
      let zero_p : p ≡ 0 + p = omega arith in
      ap (λ w. option_map_or what w nothing) x.1 ∙ (found.1 p x.0 (e ∙ ap Some x.1) ∙ (values_are_sequential request files (fixed_sets st) p done.split long ∙ ap (sequential_value request files (fixed_sets st)) zero_p)))
      ∙ ap (λ n. map (sequential_value request files (fixed_sets st)) (range_with_len 0 n)) parts

  outputs_are : assembled_outputs what st ≡ map (λ p. (sequential_value request files (fixed_sets st) p).output) (range_with_len 0 request.parts)
  outputs_are = ap (map (λ (v : Reduced). v.output)) values_are ∙ map-after (λ (v : Reduced). v.output) (sequential_value request files (fixed_sets st)) (range_with_len 0 request.parts)

  groups_are : map (λ (v : Reduced). v.groups) (committed_values what st) ≡ map (λ p. (sequential_value request files (fixed_sets st) p).groups) (range_with_len 0 request.parts)
  groups_are = ap (map (λ (v : Reduced). v.groups)) values_are ∙ map-after (λ (v : Reduced). v.groups) (sequential_value request files (fixed_sets st)) (range_with_len 0 request.parts)

  each_set : EachFrom (IsSet Exists) 0 (fixed_sets st)
  each_set = each_fixed Exists 0 st.splits (λ j sp e. let zero_j : j ≡ 0 + j = omega arith in subst (λ n. IsSet Exists n sp.skips) zero_j (found.0 j sp e))

  few : length (left_out_records st) ≤ request.skips
  few = omega (arith, few_records 0 st.splits, left_out-is st, (run_goes sh (opening sh) h st (kept_at_opening sh) done.run).kept.room, done.opened.skips)

  no_fault : skip_fault request files (left_out_records st) ≡ None
  unfolding Exists
  no_fault = (good_skips request files (left_out_records st)).1 (few, records-rise Exists 0 (fixed_sets st) each_set, records-all Exists 0 (fixed_sets st) each_set)

  certified : assembled_certificate request files what st ≡ certificate_of request files (left_out_records st)
  certified = ap (λ gs. record (certificate_of request files (left_out_records st)) { groups = gs }) groups_are

  sequentially : (p : ℕ) → p < request.parts → nth_file (assembled_outputs what st) p ≡ texts_of (rules_of request) (emitted request.job request.split files (left_out_records st)) p
  sequentially p l = ap (λ outs. nth_file outs p) outputs_are ∙ get_or-map-range_with_len (λ p. (sequential_value request files (fixed_sets st) p).output) 0 request.parts p p [] l (omega arith)

  good : IsGood request files (assembled_outputs what st) (assembled_certificate request files what st)
  good =
      let some : 1 ≤ request.parts = omega (arith, done.parts, done.opened.parts) in
      let count : length (assembled_outputs what st) ≡ request.parts = ap length outputs_are ∙ length-map-range_with_len (λ p. (sequential_value request files (fixed_sets st) p).output) 0 request.parts in
      subst (IsGood request files (assembled_outputs what st)) (sym certified)
      (sequential_is_good request files (assembled_outputs what st) (left_out_records st) done.split some no_fault count sequentially)

pub done_is_sequential : DoneIsSequential
done_is_sequential request files sh h st what done p l = sequentially request files sh h st what done p l

pub done_is_certified : DoneIsCertified
done_is_certified request files sh h st what done = certified request files sh h st what done

pub done_is_good : DoneIsGood
done_is_good request files sh h st what done = good request files sh h st what done

pub done_is_a_good_result : DoneIsAGoodResult
done_is_a_good_result request files sh h st what done bytes spelled = record { certificate = assembled_certificate request files what st; spelled = spelled; good = good request files sh h st what done }
