-- Regions whose names follow one another, put together by key.
use Rattle.std.proofs.Common.{◌≡◌, ◌<◌, ℕ, zero, suc, length, get_or, map, arith, List, [], ◌∷◌, ◌++◌, refl, ap, sym, ◌∙◌, subst, inl, inr, Option, Some, None}
use Rattle.std.proofs.lemmas.List.{map-append}
use Rattle.std.proofs.lemmas.Cmp.{tied_itself, nat_list_cmp_total}
use Rattle.std.specs.List.{AllByRecursion}
use Rattle.std.specs.Ordering.{ordering_reverse, ordering_then}
use Rattle.std.specs.declared.cmp.Ordering.{Ordering}
use Rattle.std.specs.declared.cmp.Ordering.TheVariants.{Less, Equal, Greater}
use Rattle.mr_bytes.specs.declared.Name.{Name}
use Rattle.mr_bytes.specs.Lists.{Distinct, Has, Rises}
use Rattle.mr_bytes.specs.Order.{key_order, name_order}
use Rattle.mr_bytes.specs.Pairs.{Triple, pair_order}
use Rattle.mr_bytes.proofs.ListLaws.{Distinct-append, Has-all, all_from_Has, Has-append_cases, Has-map, Has-map_from}
use Rattle.mr_spill.specs.Column.{names_of}
use Rattle.mr_spill.specs.Regions.{RisesUnderKeys}
use Rattle.mr_merge.specs.Merged.{NamesDiffer}
use Rattle.mr_merge.specs.Taking.{IsPast, IsUpTo}
use Rattle.mr_spill.proofs.RegionLaws.{names_total}
use Rattle.mr_spill.proofs.NameLemmas.{name-tie}

pub All-weaker : {X : Type 0} (P Q : X → Type 0) (xs : List X) → ((x : X) → P x → Q x) → AllByRecursion P xs → AllByRecursion Q xs
All-weaker P Q [] f all = tt
All-weaker P Q (x ∷ xs) f all = (f x all.0, All-weaker P Q xs f all.1)

pub All-at : {X Y : Type 0} (P : Y → Type 0) (f : X → Y) (xs : List X) (i : ℕ) (x : X) → i < length xs → x ≡ get_or xs i x → AllByRecursion P (map f xs) → P (f x)
All-at P f [] i x h e all = absurd (omega arith)
All-at P f (y ∷ xs) zero x h e all = subst (λ w. P (f w)) (sym e) all.0
All-at P f (y ∷ xs) (suc i) x h e all = All-at P f xs i x (omega (arith, h)) e all.1

-- pairs that rise, rise under their keys
pub rising-under : (ts : List Triple) → Rises pair_order ts → RisesUnderKeys ts
rising-under [] r = tt
rising-under (t ∷ ts) r = (
  all_from_Has (λ (u : Triple). u.key ≡ t.key → name_order t.name u.name ≡ Less) ts (λ u h e.
      let tied : key_order t.key u.key ≡ Equal = ap (key_order t.key) e ∙ tied_itself nat_list_cmp_total t.key in
      sym (ap (λ o. ordering_then o (name_order t.name u.name)) tied) ∙ Has-all (λ w. pair_order t w ≡ Less) ts u r.0 h),
  rising-under ts r.1,
)

under-append : (xs ys : List Triple) → RisesUnderKeys xs → RisesUnderKeys ys → ((t u : Triple) → Has xs t → Has ys u → name_order t.name u.name ≡ Less) → RisesUnderKeys (xs ++ ys)
under-append [] ys r s f = s
under-append (x ∷ xs) ys r s f = (
  all_from_Has (λ (u : Triple). u.key ≡ x.key → name_order x.name u.name ≡ Less) (xs ++ ys) (λ u h e. elim (Has-append_cases xs ys u h) [
    | inl a ↦ Has-all (λ (w : Triple). w.key ≡ x.key → name_order x.name w.name ≡ Less) xs u r.0 a e
    | inr b ↦ f x u (inl refl) b
  ]),
  under-append xs ys r.1 s (λ t u a b. f t u (inr a) b),
)

-- a name up to the last one is before each past it
pub before-past : (last : Option Name) (m n : Name) → IsUpTo last m → IsPast last n → name_order m n ≡ Less
before-past None m n h g = absurd h
before-past (Some last) m n h g = by (name_order last m) refl
  where
    by : (o : Ordering) → name_order last m ≡ o → name_order m n ≡ Less
    by Less is = absurd (h is)
    by Equal is = subst (λ l. name_order l n ≡ Less) (name-tie last m is) g
    by Greater is = names_total.trans m last n (names_total.antisymm m last ∙ ap ordering_reverse is) g

past-at : (ys : List Triple) (last : Option Name) (names : List Name) → names ≡ names_of ys → AllByRecursion (IsPast last) names → (u : Triple) → Has ys u → IsPast last u.name
past-at ys last names are past u h =
    Has-all (IsPast last) names u.name past (subst (λ (l : List Name). Has l u.name) (sym are) (Has-map (λ (w : Triple). w.name) ys u h))

pub follows : (xs ys : List Triple) (last : Option Name) → RisesUnderKeys xs → Rises pair_order ys → ((t : Triple) → Has xs t → IsUpTo last t.name)
    → (names : List Name) → names ≡ names_of ys → AllByRecursion (IsPast last) names → RisesUnderKeys (xs ++ ys)
follows xs ys last r s below names are past =
    under-append xs ys r (rising-under ys s) (λ t u a b. before-past last t.name u.name (below t a) (past-at ys last names are past u b))

-- names past all before differ from them
pub differs : (xs ys : List Triple) (last : Option Name) → NamesDiffer xs → NamesDiffer ys → ((t : Triple) → Has xs t → IsUpTo last t.name)
    → (names : List Name) → names ≡ names_of ys → AllByRecursion (IsPast last) names → NamesDiffer (xs ++ ys)
differs xs ys last d e below names are past =
    subst Distinct (sym (map-append (λ (w : Triple). w.name) xs ys))
    (Distinct-append (names_of xs) (names_of ys) d e (λ n a b.
    let t = Has-map_from (λ (w : Triple). w.name) xs n a in
    let up : IsUpTo last n = subst (IsUpTo last) t.2 (below t.0 t.1) in
    let above : IsPast last n = Has-all (IsPast last) names n past (subst (λ (l : List Name). Has l n) (sym are) b) in
    absurd (cc (before-past last n n up above, tied_itself names_total n))))

pub later-last : (xs ys : List Triple) (last end : Option Name) (names : List Name) → names ≡ names_of ys → ((n : Name) → IsUpTo last n → IsUpTo end n)
    → ((t : Triple) → Has xs t → IsUpTo last t.name) → AllByRecursion (IsUpTo end) names → (t : Triple) → Has (xs ++ ys) t → IsUpTo end t.name
later-last xs ys last end names are up below all t h = elim (Has-append_cases xs ys t h) [
  | inl a ↦ up t.name (below t a)
  | inr b ↦ Has-all (IsUpTo end) names t.name all (subst (λ (l : List Name). Has l t.name) (sym are) (Has-map (λ (w : Triple). w.name) ys t b))
]
