-- However the pairs are cut into runs, the reduce value is the same.
use Rattle.std.proofs.Common.{◌≡◌, ℕ, suc, ◌<◌, List, [], ◌∷◌, ◌++◌, map, ap, sym, subst, inl, inr, ◌↔◌, Bool, ◌==◌}
use Rattle.std.specs.Prelude.{slice_index_or}
use Rattle.std.specs.List.{filter}
use Rattle.std.proofs.lemmas.Bool.{eq-eqb, eqb-true}
use Rattle.std.proofs.lemmas.Cmp.{nat_list_cmp_total}
use Rattle.std.proofs.lemmas.List.Concat.{flat_map-append}
use Rattle.mr_bytes.specs.Lists.{Has, HasNoTies, Rises, sorted}
use Rattle.mr_bytes.specs.Order.{key_order}
use Rattle.mr_bytes.specs.Pairs.{Triple, pair_order}
use Rattle.mr_bytes.proofs.ListLaws.{Has-append_cases, Has-append_left, Has-append_right, Has-map, Has-map_from, Has-flat_map, Has-flat_map_from, Has-filter, Has-filter_from, Rises-filter, same_rising}
use Rattle.mr_bytes.proofs.SortLaws.{sorted-rises, sorted-Has, sorted-Has_from, rising_tie}
use Rattle.mr_spill.specs.Regions.{region}
use Rattle.mr_spill.proofs.RegionLaws.{by_name, by_name_total, pair_total, pair_tie, rises-names}
use Rattle.mr_merge.specs.Merged.{group_of, joined, merged}
use Rattle.mr_sequential.specs.Rules.{Key}
use Rattle.mr_sequential.proofs.KeyLaws.{key_tie}
use Rattle.mr_task.specs.Values.{IsCutOf, emitted_in, is_of, map_value, reduced}
use Rattle.mr_book.specs.Faithful.{map_values}
use Rattle.mr_book.specs.AssembledLaws.{AreCutsOf, regions_for, CutsDontMatter}
use Rattle.mr_book.proofs.Handed.{from_handed}

-- merging sees only which pairs there are
merged-same : (xs ys : List Triple) → HasNoTies pair_order ys → ((t : Triple) → Has xs t ↔ Has ys t) → merged xs ≡ merged ys
merged-same xs ys one same =
    let key : Triple → Key = λ (t : Triple). t.key in
    let keys : sorted key_order (map key xs) ≡ sorted key_order (map key ys) =
    same_rising nat_list_cmp_total _ _ (sorted-rises key_order nat_list_cmp_total (map key xs)) (sorted-rises key_order nat_list_cmp_total (map key ys))
    (λ k h. let t = Has-map_from key xs k (sorted-Has_from key_order (map key xs) k h) in sorted-Has key_order (map key ys) (λ x y a b e. sym (key_tie x y e)) k (subst (Has (map key ys)) t.2 (Has-map key ys t.0 ((same t.0).0 t.1))))
    (λ k h. let t = Has-map_from key ys k (sorted-Has_from key_order (map key ys) k h) in sorted-Has key_order (map key xs) (λ x y a b e. sym (key_tie x y e)) k (subst (Has (map key xs)) t.2 (Has-map key xs t.0 ((same t.0).1 t.1)))) in
    let pairs : sorted pair_order xs ≡ sorted pair_order ys =
    same_rising pair_total _ _ (sorted-rises pair_order pair_total xs) (sorted-rises pair_order pair_total ys)
    (λ t h. sorted-Has pair_order ys one t ((same t).0 (sorted-Has_from pair_order xs t h)))
    (λ t h. sorted-Has pair_order xs (λ t u a b e. one t u ((same t).0 a) ((same u).0 b) e) t ((same t).1 (sorted-Has_from pair_order ys t h))) in
    λ i. map (group_of (pairs i)) (keys i)

module _ (part : Key → ℕ) (p : ℕ) where
  abbrev is_here : Triple → Bool
  is_here t = part t.key == p

  region-Has : (es : List Triple) → HasNoTies pair_order es → (t : Triple) → Has es t → part t.key ≡ p → Has (region part es p) t
  region-Has es one t h e =
      sorted-Has pair_order (filter is_here es) (λ x y f g o. one x y ((Has-filter_from is_here es x f).0) ((Has-filter_from is_here es y g).0) o) t
      (Has-filter is_here es t h (eq-eqb (part t.key) p e))

  region-Has_from : (es : List Triple) (t : Triple) → Has (region part es p) t → Has es t × (part t.key ≡ p)
  region-Has_from es t h = let f = Has-filter_from is_here es t (sorted-Has_from pair_order (filter is_here es) t h) in (f.0, eqb-true (part t.key) p f.1)

  -- the regions of the runs have the pairs of the whole
  runs-Has : (runs : List (List Triple)) → HasNoTies pair_order (joined runs) → (t : Triple) → Has (joined (map (λ run. region part run p) runs)) t ↔ Has (region part (joined runs) p) t
  runs-Has runs one t = (
    λ h.
        let r = Has-flat_map_from (λ (v : List Triple). v) (map (λ run. region part run p) runs) t h in
        let u = Has-map_from (λ run. region part run p) runs r.0 r.1 in
        let f = region-Has_from u.0 t (subst (λ w. Has w t) (sym u.2) r.2) in
        region-Has (joined runs) one t (Has-flat_map (λ (v : List Triple). v) runs u.0 t u.1 f.0) f.1,
    λ h.
        let f = region-Has_from (joined runs) t h in
        let u = Has-flat_map_from (λ (v : List Triple). v) runs t f.0 in
        Has-flat_map (λ (v : List Triple). v) (map (λ run. region part run p) runs) (region part u.0 p) t (Has-map (λ run. region part run p) runs u.0 u.1)
        (region-Has u.0 (λ x y a b. one x y (Has-flat_map (λ (v : List Triple). v) runs u.0 x u.1 a) (Has-flat_map (λ (v : List Triple). v) runs u.0 y u.1 b)) t u.2 f.1),
  )

  cut-Has : (n : ℕ) (es : List Triple) (regions : List (List (List Triple))) → p < n → HasNoTies pair_order es → IsCutOf part n es regions → (t : Triple)
      → Has (joined (slice_index_or regions p [])) t ↔ Has (region part es p) t
  cut-Has n es regions l one cut t =
      let r = runs-Has cut.runs (λ x y a b. one x y (subst (λ w. Has w x) cut.all a) (subst (λ w. Has w y) cut.all b)) t in (
        λ h. subst (λ (w : List Triple). Has (region part w p) t) cut.all (r.0 (subst (λ (w : List (List Triple)). Has (joined w) t) (cut.each p l) h)),
        λ h. subst (λ (w : List (List Triple)). Has (joined w) t) (sym (cut.each p l)) (r.1 (subst (λ (w : List Triple). Has (region part w p) t) (sym cut.all) h)),
      )

  module _ (ts : List Triple) (rise : Rises by_name ts) (n : ℕ) (l : p < n) where
    one_in : (i : ℕ) (k : List ℕ) → HasNoTies pair_order (emitted_in ts i k)
    one_in i k x y a b o = rising_tie by_name by_name_total (emitted_in ts i k) x y (Rises-filter by_name (is_of i k) ts rise) a b (pair_tie x y o)

    cuts-Has : (i : ℕ) (ks : List (List ℕ)) (os : List (List (List (List Triple)))) → AreCutsOf part n ts i ks os → (t : Triple)
        → Has (joined (regions_for p os)) t ↔ Has (joined (map_values part ts i ks p)) t
    cuts-Has i [] [] c t = (λ h. h, λ h. h)
    cuts-Has i [] (o ∷ os) c t = absurd c
    cuts-Has i (k ∷ ks) [] c t = absurd c
    cuts-Has i (k ∷ ks) (o ∷ os) c t =
        let own = cut-Has n (emitted_in ts i k) o l (one_in i k) c.0 t in
        let rest = cuts-Has (suc i) ks os c.1 t in
        let here : List (List Triple) = slice_index_or o p [] in
        let apart : joined (here ++ regions_for p os) ≡ joined here ++ joined (regions_for p os) = flat_map-append (λ (v : List Triple). v) here (regions_for p os) in (
          λ h. elim (Has-append_cases (joined here) (joined (regions_for p os)) t (subst (λ w. Has w t) apart h)) [
            | inl a ↦ Has-append_left (map_value part ts i k p) (joined (map_values part ts (suc i) ks p)) t (own.0 a)
            | inr b ↦ Has-append_right (map_value part ts i k p) (joined (map_values part ts (suc i) ks p)) t (rest.0 b)
          ],
          λ h. subst (λ w. Has w t) (sym apart) (elim (Has-append_cases (map_value part ts i k p) (joined (map_values part ts (suc i) ks p)) t h) [
            | inl a ↦ Has-append_left (joined here) (joined (regions_for p os)) t (own.1 a)
            | inr b ↦ Has-append_right (joined here) (joined (regions_for p os)) t (rest.1 b)
          ]),
        )

    -- in what is handed in no two pairs are equal
    one_handed : (ks : List (List ℕ)) → HasNoTies pair_order (joined (map_values part ts 0 ks p))
    one_handed ks x y a b o = rising_tie by_name by_name_total ts x y rise ((from_handed part ts rise p 0 ks x a).0) ((from_handed part ts rise p 0 ks y b).0) (pair_tie x y o)

pub cuts_dont_matter : CutsDontMatter
cuts_dont_matter part text ts sets parts p outputs rise l cuts =
    ap (reduced text)
    (merged-same (joined (regions_for p outputs)) (joined (map_values part ts 0 sets p)) (one_handed part p ts (rises-names ts rise) parts l sets)
    (cuts-Has part p ts (rises-names ts rise) parts l 0 sets outputs cuts))
