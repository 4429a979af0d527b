-- The records left out of the result rise, and are no more than the splits' sets have.
use Rattle.std.proofs.Common.{◌≡◌, ℕ, suc, ◌+◌, ◌<◌, ◌≤◌, Some, List, [], ◌∷◌, ◌++◌, length, map, slice_get, refl, ap, sym, ◌∙◌, subst, inl, inr, arith, Bool, true, false, cond}
use Rattle.std.specs.List.{AllByRecursion, sum_by}
use Rattle.std.specs.Cmp.{nat_cmp_is}
use Rattle.std.specs.Ordering.{nat_cmp, ordering_then}
use Rattle.std.specs.declared.cmp.Ordering.{Ordering}
use Rattle.std.specs.declared.cmp.Ordering.TheVariants.{Less}
use Rattle.std.proofs.lemmas.Cmp.{nat_cmp_total, tied_itself}
use Rattle.std.proofs.lemmas.List.{length-append, length-map}
use Rattle.std.proofs.lemmas.List.Sums.{sum_by-cons}
use Rattle.mr_bytes.specs.declared.RecordName.{RecordName}
use Rattle.mr_bytes.specs.Lists.{Has, Rises}
use Rattle.mr_bytes.specs.Order.{record_order}
use Rattle.mr_bytes.proofs.ListLaws.{Has-all, all_from_Has, Has-append_cases, Has-map_from}
use Rattle.mr_core.specs.declared.entries.Split.{Split}
use Rattle.mr_core.proofs.Sets.{IsSet}
use Rattle.mr_sequential.proofs.EntryLaws.{EachFrom}
use Rattle.mr_book.specs.Assembled.{in_split, records_from, fixed_set}

Rises-append : {X : Type 0} (cmp : X → X → Ordering) (xs ys : List X) → Rises cmp xs → Rises cmp ys → ((x y : X) → Has xs x → Has ys y → cmp x y ≡ Less) → Rises cmp (xs ++ ys)
Rises-append cmp [] ys r s f = s
Rises-append cmp (x ∷ xs) ys r s f = (
  all_from_Has (λ y. cmp x y ≡ Less) (xs ++ ys) (λ y h. elim (Has-append_cases xs ys y h) [ inl a ↦ Has-all (λ y. cmp x y ≡ Less) xs y r.0 a | inr b ↦ f x y (inl refl) b ]),
  Rises-append cmp xs ys r.1 s (λ z y a b. f z y (inr a) b),
)

All-append : {X : Type 0} (P : X → Type 0) (xs ys : List X) → AllByRecursion P xs → AllByRecursion P ys → AllByRecursion P (xs ++ ys)
All-append P [] ys a b = b
All-append P (x ∷ xs) ys a b = (a.0, All-append P xs ys a.1 b)

-- ---- the records of one split

All-in_split : (P : ℕ → ℕ → Type 0) (s : ℕ) (k : List ℕ) → AllByRecursion (P s) k → AllByRecursion (λ r. P r.split r.rec) (map (in_split s) k)
All-in_split P s [] a = tt
All-in_split P s (r ∷ k) a = (a.0, All-in_split P s k a.1)

in_one : (s a b : ℕ) → nat_cmp a b ≡ Less → record_order (in_split s a) (in_split s b) ≡ Less
in_one s a b e = ap (λ o. ordering_then o (nat_cmp a b)) (tied_itself nat_cmp_total s) ∙ e

split-rises : (s : ℕ) (k : List ℕ) → Rises nat_cmp k → Rises record_order (map (in_split s) k)
split-rises s [] r = tt
split-rises s (n ∷ k) r = (
  all_from_Has (λ y. record_order (in_split s n) y ≡ Less) _ (λ y h.
      let u = Has-map_from (in_split s) k y h in
      subst (λ w. record_order (in_split s n) w ≡ Less) u.2 (in_one s n u.0 (Has-all (λ m. nat_cmp n m ≡ Less) k u.0 r.0 u.1))),
  split-rises s k r.1,
)

-- ---- of all splits

later-splits : (i : ℕ) (ks : List (List ℕ)) (s : RecordName) → Has (records_from i ks) s → i ≤ s.split
later-splits i [] s h = absurd h
later-splits i (k ∷ ks) s h =
    elim (Has-append_cases (map (in_split i) k) (records_from (suc i) ks) s h) [
      | inl a ↦ (let u = Has-map_from (in_split i) k s a in let same : i ≡ s.split = ap (λ (r : RecordName). r.split) u.2 in omega arith)
      | inr b ↦ (let l = later-splits (suc i) ks s b in omega (arith, l))
    ]

across : (s t : RecordName) → s.split < t.split → record_order s t ≡ Less
across s t l = ap (λ o. ordering_then o (nat_cmp s.rec t.rec)) (sym (nat_cmp_is s.split t.split Less l))

pub records-rise : (P : ℕ → ℕ → Type 0) (i : ℕ) (ks : List (List ℕ)) → EachFrom (IsSet P) i ks → Rises record_order (records_from i ks)
records-rise P i [] e = tt
records-rise P i (k ∷ ks) e =
    Rises-append record_order (map (in_split i) k) (records_from (suc i) ks) (split-rises i k e.0.0) (records-rise P (suc i) ks e.1)
    (λ s t a b. let u = Has-map_from (in_split i) k s a in let same : i ≡ s.split = ap (λ (r : RecordName). r.split) u.2 in across s t (omega (arith, later-splits (suc i) ks t b)))

pub records-all : (P : ℕ → ℕ → Type 0) (i : ℕ) (ks : List (List ℕ)) → EachFrom (IsSet P) i ks → AllByRecursion (λ s. P s.split s.rec) (records_from i ks)
records-all P i [] e = tt
records-all P i (k ∷ ks) e = All-append (λ (s : RecordName). P s.split s.rec) (map (in_split i) k) (records_from (suc i) ks) (All-in_split P i k e.0.1) (records-all P (suc i) ks e.1)

pub each_fixed : (P : ℕ → ℕ → Type 0) (i : ℕ) (sps : List Split) → ((j : ℕ) (sp : Split) → slice_get sps j ≡ Some sp → IsSet P (i + j) sp.skips) → EachFrom (IsSet P) i (map fixed_set sps)
each_fixed P i [] f = tt
each_fixed P i (sp ∷ sps) f = (
  by sp.fixed (let here : i + 0 ≡ i = omega arith in subst (λ n. IsSet P n sp.skips) here (f 0 sp refl)),
  each_fixed P (suc i) sps (λ j s e. let there : i + suc j ≡ suc i + j = omega arith in subst (λ n. IsSet P n s.skips) there (f (suc j) s e)),
)
  where
    by : (b : Bool) → IsSet P i sp.skips → IsSet P i (cond b sp.skips [])
    by true s = s
    by false s = (tt, tt)

pub few_records : (i : ℕ) (sps : List Split) → length (records_from i (map fixed_set sps)) ≤ sum_by (λ sp. length sp.skips) sps
few_records i [] = omega arith
few_records i (sp ∷ sps) =
    omega (arith, length-append (map (in_split i) (fixed_set sp)) (records_from (suc i) (map fixed_set sps)), length-map (fixed_set sp) (in_split i), by sp.fixed, few_records (suc i) sps, sum_by-cons (λ (w : Split). length w.skips) sp sps)
  where
    by : (b : Bool) → length (cond b sp.skips []) ≤ length sp.skips
    by true = omega arith
    by false = omega arith
