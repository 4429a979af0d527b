-- What the region of a partition is: it rises, it has the pairs of the partition, and it is the only such list.
use Rattle.std.proofs.Common.{◌≡◌, ◌↔◌, ℕ, Bool, List, [], ◌∷◌, filter, ◌==◌, ap, sym, ◌∙◌, subst, inl, inr}
use Rattle.std.specs.List.{AllByRecursion}
use Rattle.std.proofs.lemmas.Bool.{eqb-true, eq-eqb}
use Rattle.std.proofs.lemmas.Cmp.{nat_list_cmp_total, nat_cmp_total, then_total, on_total}
use Rattle.std.specs.Cmp.{IsTotalOrder}
use Rattle.std.specs.Ordering.{ordering_reverse, ordering_then}
use Rattle.std.specs.declared.cmp.Ordering.{Ordering}
use Rattle.std.specs.declared.cmp.Ordering.TheVariants.{Less, Equal, Greater}
use Rattle.mr_bytes.specs.declared.Name.{Name}
use Rattle.mr_bytes.specs.Lists.{Has, HasNoTies, Rises}
use Rattle.mr_bytes.specs.Order.{key_order, name_order}
use Rattle.mr_bytes.specs.Pairs.{Triple, pair_order}
use Rattle.mr_bytes.proofs.ListLaws.{Has-all, all_from_Has, Has-map, Has-filter, Has-filter_from, same_rising}
use Rattle.mr_bytes.proofs.SortLaws.{sorted-Has, sorted-Has_from, sorted-rises}
use Rattle.mr_spill.specs.Column.{names_of}
use Rattle.mr_spill.specs.Regions.{region, RegionsHave, RegionsRise, RisesUnderKeys}
use Rattle.mr_group.proofs.OrderLemmas.{key_tie, then-equal}

pub names_total : IsTotalOrder name_order
names_total =
    then_total (on_total (λ (n : Name). n.split) nat_cmp_total)
    (then_total (on_total (λ (n : Name). n.rec) nat_cmp_total) (on_total (λ (n : Name). n.place) nat_cmp_total))

pub pair_total : IsTotalOrder pair_order
pair_total = then_total (on_total (λ (t : Triple). t.key) nat_list_cmp_total) (on_total (λ (t : Triple). t.name) names_total)

abbrev pub by_name : Triple → Triple → Ordering
by_name t u = name_order t.name u.name

pub by_name_total : IsTotalOrder by_name
by_name_total = on_total (λ (t : Triple). t.name) names_total

pub rises-names : (ts : List Triple) → Rises name_order (names_of ts) → Rises by_name ts
rises-names [] r = tt
rises-names (t ∷ ts) r = (
  all_from_Has (λ u. by_name t u ≡ Less) ts (λ u h. Has-all (λ n. name_order t.name n ≡ Less) (names_of ts) u.name r.0 (Has-map (λ (w : Triple). w.name) ts u h)),
  rises-names ts r.1,
)

pub pair_tie : (t u : Triple) → pair_order t u ≡ Equal → by_name t u ≡ Equal
pair_tie t u e = by (key_order t.key u.key) e
  where
    by : (o : Ordering) → ordering_then o (by_name t u) ≡ Equal → by_name t u ≡ Equal
    by Less e = absurd (cc e)
    by Equal e = e
    by Greater e = absurd (cc e)

pub regions_rise : RegionsRise
regions_rise part ts p = sorted-rises pair_order pair_total (filter (λ t. part t.key == p) ts)

apart : (t : Triple) (ts : List Triple) (u : Triple) → AllByRecursion (λ (w : Triple). w.key ≡ t.key → name_order t.name w.name ≡ Less) ts → Has ts u → pair_order t u ≡ Equal → ⊥
apart t ts u all h e =
    let names = pair_tie t u e in
    let keys = sym (key_tie t.key u.key (then-equal (key_order t.key u.key) (name_order t.name u.name) e).0) in
    let less = Has-all (λ (w : Triple). w.key ≡ t.key → name_order t.name w.name ≡ Less) ts u all h keys in
    absurd (cc (names, less))

-- of pairs whose names rise under each key no two are equal
pub under_no_ties : (ts : List Triple) → RisesUnderKeys ts → HasNoTies pair_order ts
under_no_ties [] r x y h g e = absurd h
under_no_ties (t ∷ ts) r x y (inl a) (inl b) e = sym b ∙ a
under_no_ties (t ∷ ts) r x y (inl a) (inr b) e = absurd (apart t ts y r.0 b (subst (λ w. pair_order w y ≡ Equal) (sym a) e))
under_no_ties (t ∷ ts) r x y (inr a) (inl b) e = absurd (apart t ts x r.0 a (pair_total.antisymm t x ∙ ap ordering_reverse (subst (λ w. pair_order x w ≡ Equal) (sym b) e)))
under_no_ties (t ∷ ts) r x y (inr a) (inr b) e = under_no_ties ts r.1 x y a b e

pub names-under : (ts : List Triple) → Rises name_order (names_of ts) → RisesUnderKeys ts
names-under [] r = tt
names-under (t ∷ ts) r = (
  all_from_Has (λ (u : Triple). u.key ≡ t.key → name_order t.name u.name ≡ Less) ts (λ u h e. Has-all (λ n. name_order t.name n ≡ Less) (names_of ts) u.name r.0 (Has-map (λ (w : Triple). w.name) ts u h)),
  names-under ts r.1,
)

-- where names rise under each key, the region has just the pairs of the partition
region-has : (part : List ℕ → ℕ) (ts : List Triple) (p : ℕ) → RisesUnderKeys ts → (t : Triple) → Has (region part ts p) t ↔ (Has ts t × (part t.key ≡ p))
region-has part ts p r t = (
  λ h. let f = Has-filter_from here ts t (sorted-Has_from pair_order (filter here ts) t h) in (f.0, eqb-true (part t.key) p f.1),
  λ h. sorted-Has pair_order (filter here ts)
      (λ x y a b e. under_no_ties ts r x y (Has-filter_from here ts x a).0 (Has-filter_from here ts y b).0 e)
      t (Has-filter here ts t h.0 (eq-eqb (part t.key) p h.1)),
)
  where
    here : Triple → Bool
    here u = part u.key == p

pub regions_have : RegionsHave
regions_have part ts p r = region-has part ts p (names-under ts r)

-- and a list that rises and has just them is the region
pub gathered-only : (part : List ℕ → ℕ) (ts : List Triple) (p : ℕ) (rs : List Triple) → RisesUnderKeys ts → Rises pair_order rs
    → ((t : Triple) → Has rs t ↔ (Has ts t × (part t.key ≡ p))) → rs ≡ region part ts p
gathered-only part ts p rs r rise has =
    same_rising pair_total rs (region part ts p) rise (regions_rise part ts p)
    (λ t h. (region-has part ts p r t).1 ((has t).0 h)) (λ t h. (has t).1 ((region-has part ts p r t).0 h))
