-- The reduce value over the map values of all splits is what the sequential execution has for the partition.
use Rattle.std.proofs.Common.{◌≡◌, ℕ, suc, ◌+◌, ◌<◌, ◌≤◌, List, [], ◌∷◌, length, map, refl, ap, sym, ◌∙◌, subst, inl, inr, arith, Bool, true, false, not, eqb, ◌==◌}
use Rattle.std.specs.List.{filter, flat_map}
use Rattle.std.specs.Str.{bytes_eq}
use Rattle.std.specs.Ordering.{ordering_then}
use Rattle.std.specs.declared.cmp.Ordering.TheVariants.{Less, Equal}
use Rattle.std.proofs.lemmas.Bool.{and_parts, not-true, eq-eqb, eqb-true, cases_eq}
use Rattle.std.proofs.lemmas.Cmp.{nat_list_cmp_total, tied_itself}
use Rattle.std.proofs.lemmas.List.Folds.{flat_map-map}
use Rattle.mr_bytes.specs.declared.Value.{Value}
use Rattle.mr_bytes.specs.Lists.{Has, Rises, sorted}
use Rattle.mr_bytes.specs.Order.{key_order}
use Rattle.mr_bytes.specs.Pairs.{Triple, pair_order}
use Rattle.mr_bytes.proofs.ListLaws.{Has-all, all_from_Has, Has-append_cases, Has-append_left, Has-append_right, Has-map, Has-map_from, Has-filter, Has-filter_from, Rises-filter, same_rising}
use Rattle.mr_bytes.proofs.SortLaws.{sorted-rises, sorted-Has, sorted-Has_from, rising_tie}
use Rattle.mr_spill.specs.Column.{names_of}
use Rattle.mr_spill.proofs.RegionLaws.{by_name, by_name_total, pair_total, pair_tie}
use Rattle.mr_splits.specs.Named.{is_left_out}
use Rattle.mr_merge.specs.Merged.{Group, group_of, joined, merged}
use Rattle.mr_sequential.specs.Rules.{Key, Text}
use Rattle.mr_sequential.specs.Sequential.{keys_of, triples_with, texts_of}
use Rattle.mr_sequential.specs.Certified.{groups_of}
use Rattle.mr_sequential.proofs.KeyLaws.{bytes_eq-is, key_tie, keys-unique}
use Rattle.mr_sequential.proofs.GoodLaws.{triple-keys}
use Rattle.mr_task.specs.Values.{has_number, is_of, emitted_in, map_value, group_text, reduced, reduce_value}
use Rattle.mr_book.specs.Assembled.{records_from}
use Rattle.mr_book.specs.Faithful.{map_values}
use Rattle.mr_book.proofs.Emissions.{its_record, is_kept, without}
use Rattle.mr_book.proofs.LeftOut.{first_decides, later_decide}

map-agree : {X Y : Type 0} (f g : X → Y) (xs : List X) → ((x : X) → Has xs x → f x ≡ g x) → map f xs ≡ map g xs
map-agree f g [] same = refl
map-agree f g (x ∷ xs) same = λ i. same x (inl refl) i ∷ map-agree f g xs (λ y h. same y (inr h)) i

pub map-after : {X Y Z : Type 0} (f : Y → Z) (g : X → Y) (xs : List X) → map f (map g xs) ≡ map (λ x. f (g x)) xs
map-after f g [] = refl
map-after f g (x ∷ xs) = ap (λ zs. f (g x) ∷ zs) (map-after f g xs)

-- pairs of one key that rise by key and name rise by name
rises_in_key : (k : Key) (xs : List Triple) → Rises pair_order xs → ((t : Triple) → Has xs t → t.key ≡ k) → Rises by_name xs
rises_in_key k [] r same = tt
rises_in_key k (x ∷ xs) r same = (
  all_from_Has (λ y. by_name x y ≡ Less) xs (λ y h.
      let keys : x.key ≡ y.key = same x (inl refl) ∙ sym (same y (inr h)) in
      let tied : key_order x.key y.key ≡ Equal = ap (λ k. key_order x.key k) (sym keys) ∙ tied_itself nat_list_cmp_total x.key in
      sym (ap (λ o. ordering_then o (by_name x y)) tied) ∙ Has-all (λ z. pair_order x z ≡ Less) xs y r.0 h),
  rises_in_key k xs r.1 (λ t h. same t (inr h)),
)

module _ (part : Key → ℕ) (ts : List Triple) (rise : Rises by_name ts) (p : ℕ) where
  pub in_value : (s : ℕ) (k : List ℕ) (t : Triple) → Has ts t → t.name.split ≡ s → has_number k t.name.rec ≡ false → part t.key ≡ p → Has (map_value part ts s k p) t
  in_value s k t h e n d =
      let own : eqb t.name.split s ≡ true = eq-eqb t.name.split s e in
      let kept : is_of s k t ≡ true = rw (own, n) refl in
      sorted-Has pair_order (filter (λ (u : Triple). part u.key == p) (emitted_in ts s k))
      (λ x y f g o. rising_tie by_name by_name_total (emitted_in ts s k) x y (Rises-filter by_name (is_of s k) ts rise) ((Has-filter_from _ _ x f).0) ((Has-filter_from _ _ y g).0) (pair_tie x y o))
      t (Has-filter (λ (u : Triple). part u.key == p) (emitted_in ts s k) t (Has-filter (is_of s k) ts t h kept) (eq-eqb (part t.key) p d))

  pub from_value : (s : ℕ) (k : List ℕ) (t : Triple) → Has (map_value part ts s k p) t → Has ts t × (t.name.split ≡ s) × (has_number k t.name.rec ≡ false) × (part t.key ≡ p)
  from_value s k t h =
      let f = Has-filter_from (λ (u : Triple). part u.key == p) (emitted_in ts s k) t (sorted-Has_from pair_order (filter (λ (u : Triple). part u.key == p) (emitted_in ts s k)) t h) in
      let g = Has-filter_from (is_of s k) ts t f.0 in
      let b = and_parts (t.name.split == s) (not (has_number k t.name.rec)) g.1 in
      (g.0, eqb-true t.name.split s b.0, not-true _ b.1, eqb-true (part t.key) p f.1)

  -- what is handed in, the first split being i
  abbrev handed : ℕ → List (List ℕ) → List Triple
  handed i ks = joined (map_values part ts i ks p)

  in_handed : (i : ℕ) (ks : List (List ℕ)) (t : Triple) → Has ts t → i ≤ t.name.split → t.name.split < i + length ks → is_left_out (records_from i ks) (its_record t.name) ≡ false → part t.key ≡ p → Has (handed i ks) t
  in_handed i [] t h l m n d = absurd (omega arith)
  in_handed i (k ∷ ks) t h l m n d =
      elim (cases_eq t.name.split i) [
        | inl same ↦ Has-append_left (map_value part ts i k p) (handed (suc i) ks) t (in_value i k t h same (sym (first_decides i (its_record t.name) k ks same) ∙ n) d)
        | inr other ↦ Has-append_right (map_value part ts i k p) (handed (suc i) ks) t (in_handed (suc i) ks t h (omega arith) (omega arith) (sym (later_decide i (its_record t.name) k ks (omega arith)) ∙ n) d)
      ]

  pub from_handed : (i : ℕ) (ks : List (List ℕ)) (t : Triple) → Has (handed i ks) t → Has ts t × (i ≤ t.name.split) × (is_left_out (records_from i ks) (its_record t.name) ≡ false) × (part t.key ≡ p)
  from_handed i [] t h = absurd h
  from_handed i (k ∷ ks) t h =
      elim (Has-append_cases (map_value part ts i k p) (handed (suc i) ks) t h) [
        | inl a ↦ (let w = from_value i k t a in (w.0, omega (arith, w.1), first_decides i (its_record t.name) k ks w.1 ∙ w.2, w.3))
        | inr b ↦ (let w = from_handed (suc i) ks t b in (w.0, omega (arith, w.1), later_decide i (its_record t.name) k ks (omega (arith, w.1)) ∙ w.2, w.3))
      ]

  module _ (ks : List (List ℕ)) (below : (t : Triple) → Has ts t → t.name.split < length ks) where
    es : List Triple
    es = without ts (records_from 0 ks)

    in_es : (t : Triple) → Has (handed 0 ks) t → Has es t × (part t.key ≡ p)
    unfolding es
    in_es t h =
        let f = from_handed 0 ks t h in
        let kept : is_kept (records_from 0 ks) t ≡ true = rw (f.2) refl in
        (Has-filter (is_kept (records_from 0 ks)) ts t f.0 kept, f.3)

    from_es : (t : Triple) → Has es t → part t.key ≡ p → Has (handed 0 ks) t
    unfolding es
    from_es t h d =
        let f = Has-filter_from (is_kept (records_from 0 ks)) ts t h in
        in_handed 0 ks t f.0 (omega arith) (omega (arith, below t f.0)) (not-true _ f.1) d

    es-rise : Rises by_name es
    unfolding es
    es-rise = Rises-filter by_name (is_kept (records_from 0 ks)) ts rise

    keys_are : sorted key_order (map (λ (t : Triple). t.key) (handed 0 ks)) ≡ keys_of part (map (λ (t : Triple). t.key) es) p
    keys_are =
        let keys : List Key = map (λ (t : Triple). t.key) (handed 0 ks) in
        keys-unique part p (map (λ (t : Triple). t.key) es) (sorted key_order keys) (sorted-rises key_order nat_list_cmp_total keys)
        (λ k. (
          λ h.
              let t = Has-map_from (λ (t : Triple). t.key) (handed 0 ks) k (sorted-Has_from key_order keys k h) in
              let e = in_es t.0 t.1 in
              (subst (Has (map (λ (t : Triple). t.key) es)) t.2 (Has-map (λ (t : Triple). t.key) es t.0 e.0), subst (λ (j : Key). part j ≡ p) t.2 e.1),
          λ h.
              let t = Has-map_from (λ (t : Triple). t.key) es k h.0 in
              sorted-Has key_order keys (λ x y a b o. sym (key_tie x y o)) k
              (subst (Has keys) t.2 (Has-map (λ (t : Triple). t.key) (handed 0 ks) t.0 (from_es t.0 t.1 (ap part t.2 ∙ h.1)))),
        ))

    -- of a key of the partition, all its pairs are handed in
    group_is : (k : Key) → part k ≡ p → filter (λ (t : Triple). bytes_eq t.key k) (sorted pair_order (handed 0 ks)) ≡ triples_with es k
    group_is k d =
        let has_key : Triple → Bool = λ (t : Triple). bytes_eq t.key k in
        let ps : List Triple = sorted pair_order (handed 0 ks) in
        same_rising by_name_total (filter has_key ps) (triples_with es k)
        (rises_in_key k (filter has_key ps) (Rises-filter pair_order has_key ps (sorted-rises pair_order pair_total (handed 0 ks))) (λ t h. bytes_eq-is t.key k (Has-filter_from has_key ps t h).1))
        (Rises-filter by_name has_key es es-rise)
        (λ t h. let f = Has-filter_from has_key ps t h in Has-filter has_key es t (in_es t (sorted-Has_from pair_order (handed 0 ks) t f.0)).0 f.1)
        (λ t h.
        let f = Has-filter_from has_key es t h in
        Has-filter has_key ps t
        (sorted-Has pair_order (handed 0 ks) (λ x y a b o. rising_tie by_name by_name_total es x y es-rise (in_es x a).0 (in_es y b).0 (pair_tie x y o)) t
        (from_es t f.0 (ap part (bytes_eq-is t.key k f.1) ∙ d))) f.1)

    groups_are : merged (handed 0 ks) ≡ map (λ (k : Key). record { key = k; pairs = triples_with es k }) (keys_of part (map (λ (t : Triple). t.key) es) p)
    groups_are =
        ap (map (group_of (sorted pair_order (handed 0 ks)))) keys_are
        ∙ map-agree (group_of (sorted pair_order (handed 0 ks))) (λ (k : Key). record { key = k; pairs = triples_with es k }) (keys_of part (map (λ (t : Triple). t.key) es) p)
        (λ k h. ap (λ (us : List Triple). record { key = k; pairs = us }) (group_is k ((triple-keys part p es k h).3)))

    pub reduce_is : (text : Key → List Value → Text)
        → reduce_value text (map_values part ts 0 ks p)
        ≡ record { output = texts_of (record { part = part; text = text }) (without ts (records_from 0 ks)) p; groups = groups_of part (without ts (records_from 0 ks)) p }
    unfolding es
    reduce_is text =
        let keys : List Key = keys_of part (map (λ (t : Triple). t.key) es) p in
        let group : Key → Group = λ (k : Key). record { key = k; pairs = triples_with es k } in
        let outputs : flat_map (group_text text) (map group keys) ≡ texts_of (record { part = part; text = text }) es p = flat_map-map (group_text text) group keys in
        let names : map (λ (g : Group). names_of g.pairs) (map group keys) ≡ groups_of part es p = map-after (λ (g : Group). names_of g.pairs) group keys in
        ap (reduced text) groups_are ∙ (λ j. record { output = outputs j; groups = names j })
