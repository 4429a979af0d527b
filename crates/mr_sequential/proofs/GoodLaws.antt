-- A good result is that of the sequential execution.
use Rattle.std.proofs.Common.{◌≡◌, ℕ, ◌<◌, ◌≤◌, Some, List, [], ◌∷◌, length, map, refl, ap, sym, ◌∙◌, subst, inl, inr, arith, true, IsSome}
use Rattle.std.proofs.lemmas.Cmp.{nat_list_cmp_total, on_total}
use Rattle.std.proofs.lemmas.List.Folds.{flat_map-map}
use Rattle.std.specs.List.{flat_map}
use Rattle.std.specs.Option.{option_map_or}
use Rattle.std.specs.Cmp.{IsTotalOrder}
use Rattle.std.specs.Str.{bytes_eq}
use Rattle.mr_bytes.specs.declared.Name.{Name}
use Rattle.mr_bytes.specs.declared.Value.{Value}
use Rattle.mr_bytes.specs.Lists.{Has, Rises}
use Rattle.mr_bytes.specs.Order.{name_order}
use Rattle.mr_input.specs.Files.{nth_file}
use Rattle.mr_reduce.specs.Text.{text_of}
use Rattle.mr_bytes.specs.Pairs.{Triple}
use Rattle.mr_sequential.specs.Emitted.{emitted}
use Rattle.mr_sequential.specs.Rules.{part}
use Rattle.mr_sequential.specs.Sequential.{keys_of, triples_with, values_of, texts_of}
use Rattle.mr_sequential.specs.Good.{named, key_under, key_of, text_under, AreGoodGroups, IsGoodGroup, groups_at, entries_of, AreGood}
use Rattle.mr_sequential.specs.GoodLaws.{GoodPartsAreSequential, GoodIsSequential}
use Rattle.mr_bytes.proofs.ListLaws.{Has-all, Has-map, Has-map_from, Has-flat_map_from, Distinct-rises, same_rising, Has-filter, Has-filter_from, Rises-filter}
use Rattle.mr_sequential.proofs.KeyLaws.{bytes_eq-is, bytes_eq-same, keys_rise}
use Rattle.mr_sequential.proofs.NameLaws.{names_rise}
use Rattle.mr_sequential.proofs.NamedLaws.{triples_under, some_is, named-Has, named-of, Has-filter_map, Has-filter_map_from, triple_order, rises_by_name, triples-rise}
use Rattle.mr_sequential.proofs.EntryLaws.{names_total, key_in_group, part_in_group, entry_is_name, from_places, entries_are_distinct, none_is_left_out}
use Rattle.mr_group.proofs.ListLemmas.{Has-Contains, same_image}
use Rattle.std.proofs.lemmas.List.{get_or_default}

triples_total : IsTotalOrder triple_order
triples_total = on_total (λ (t : Triple). t.name) names_total

-- joined texts agree where each does
pub flat_map-agree : {X A : Type 0} (f g : X → List A) (xs : List X) → ((x : X) → Has xs x → f x ≡ g x) → flat_map f xs ≡ flat_map g xs
flat_map-agree f g [] same = refl
flat_map-agree f g (x ∷ xs) same = cc (same x (inl refl), flat_map-agree f g xs (λ y h. same y (inr h)))

first_of : (ns : List Name) → 1 ≤ length ns → (n : Name) × Has ns n
first_of [] h = absurd (omega arith)
first_of (n ∷ ns) h = (n, inl refl)

-- the key of a triple of a partition is one of its keys, and each of its keys is that of a triple
pub keys-triple : (part : List ℕ → ℕ) (p : ℕ) (ts : List Triple) (t : Triple) → Has ts t → part t.key ≡ p → Has (keys_of part (map (λ u. u.key) ts) p) t.key
keys-triple part p ts t h e = ((keys_rise part (map (λ (u : Triple). u.key) ts) p).1 t.key).1 (Has-map (λ (u : Triple). u.key) ts t h, e)

pub triple-keys : (part : List ℕ → ℕ) (p : ℕ) (ts : List Triple) (k : List ℕ) → Has (keys_of part (map (λ u. u.key) ts) p) k
    → (t : Triple) × Has ts t × (t.key ≡ k) × (part k ≡ p)
triple-keys part p ts k h =
    let r = ((keys_rise part (map (λ (u : Triple). u.key) ts) p).1 k).0 h in
    let t = Has-map_from (λ (u : Triple). u.key) ts k r.0 in
    (t.0, t.1, t.2, r.1)

-- the key under a triple's name is its key
pub key_of_triple : (ts : List Triple) → Rises name_order (map (λ (t : Triple). t.name) ts) → (t : Triple) → Has ts t → key_under ts t.name ≡ t.key
key_of_triple ts rise t h = ap (λ o. option_map_or (λ (u : Triple). u.key) o []) (named-of ts t (Distinct-rises names_total _ rise) h)

module _ (part : List ℕ → ℕ) (text : List ℕ → List Value → List ℕ) (ts : List Triple) (parts : List (List (List Name))) (outputs : List (List ℕ)) (rise : Rises name_order (map (λ (t : Triple). t.name) ts)) (good : AreGood (record { part = part; text = text }) ts parts outputs) where
  -- an entry of a good group names a triple
  entry_named : (p : ℕ) (g : List Name) (n : Name) → IsGoodGroup part ts p g → Has g n → (t : Triple) × (named ts n ≡ Some t)
  entry_named p g n ok h = some_is (named ts n) (Has-all (λ m. IsSome (named ts m)) g n ok.entries h)

  -- where an entry stands: its partition, and its group in it
  record StandsIn (n : Name) (q : ℕ) (g : List Name) : Type 0 where
    below : q < length parts
    here : Has (groups_at parts q) g
    entry : Has g n

  stands : (n : Name) → Has (entries_of parts) n → (q : ℕ) × (g : List Name) × StandsIn n q g
  stands n h =
      let in_part = Has-flat_map_from (λ (gs : List (List Name)). flat_map (λ g. g) gs) parts n h in
      let in_group = Has-flat_map_from (λ (g : List Name). g) in_part.0 n in_part.2 in
      let at = Has-Contains parts in_part.0 in_part.1 in
      (at.0, in_group.0, record { below = at.1; here = subst (λ gs. Has gs in_group.0) (sym (get_or_default parts at.0 [] in_part.0 at.1 ∙ at.2)) in_group.1; entry = in_group.2 })

  group_ok : (n : Name) (q : ℕ) (g : List Name) → StandsIn n q g → IsGoodGroup part ts q g
  group_ok n q g s = Has-all (IsGoodGroup part ts q) (groups_at parts q) g (good.each q s.below).groups.each s.here

  -- no triple is left out
  triple_stands : (t : Triple) → Has ts t → (q : ℕ) × (g : List Name) × StandsIn t.name q g
  triple_stands t h =
      let groups : (p : ℕ) → p < length parts → AreGoodGroups part ts p (groups_at parts p) = λ p l. (good.each p l).groups in
      stands t.name
      (none_is_left_out ts (entries_of parts) (entries_are_distinct part ts parts groups) (entry_is_name part ts 0 parts (from_places part ts parts groups))
      good.none_left_out t.name
      (Has-map (λ (u : Triple). u.name) ts t h))

  -- it stands in the partition and in the group of its key
  stands_right : (t : Triple) (h : Has ts t) (q : ℕ) (g : List Name) → StandsIn t.name q g → (part t.key ≡ q) × (key_of ts g ≡ t.key)
  stands_right t h q g s =
      let k = key_of_triple ts rise t h in (
        ap part (sym k) ∙ part_in_group part ts q g t.name (group_ok t.name q g s) s.entry,
        sym (key_in_group part ts q g t.name (group_ok t.name q g s) s.entry) ∙ k,
      )

  module _ (p : ℕ) (lt : p < length parts) where
    -- the keys of the groups are those of the partition
    pub keys_are : map (key_of ts) (groups_at parts p) ≡ keys_of part (map (λ (u : Triple). u.key) ts) p
    keys_are = same_rising nat_list_cmp_total _ _ (good.each p lt).groups.keys_rise (keys_rise part (map (λ (u : Triple). u.key) ts) p).0
        (λ k h.
        let g = Has-map_from (key_of ts) (groups_at parts p) k h in
        let ok = Has-all (IsGoodGroup part ts p) (groups_at parts p) g.0 (good.each p lt).groups.each g.1 in
        let n = first_of g.0 ok.some_entry in
        let t = entry_named p g.0 n.0 ok n.1 in
        let r = named-Has ts n.0 t.0 t.1 in
        let k1 : key_under ts n.0 ≡ t.0.key = ap (λ o. option_map_or (λ (u : Triple). u.key) o []) t.1 in
        let k2 : t.0.key ≡ key_of ts g.0 = sym k1 ∙ key_in_group part ts p g.0 n.0 ok n.1 in
        subst (Has (keys_of part (map (λ (u : Triple). u.key) ts) p)) (k2 ∙ g.2) (keys-triple part p ts t.0 r.0 (ap part k2 ∙ ok.partition)))
        (λ k h.
        let t = triple-keys part p ts k h in
        let s = triple_stands t.0 t.1 in
        let r = stands_right t.0 t.1 s.0 s.1 s.2 in
        let q : s.0 ≡ p = sym (r.0) ∙ (ap part t.2 ∙ t.3) in
        subst (Has (map (key_of ts) (groups_at parts p))) (r.1 ∙ t.2)
        (Has-map (key_of ts) (groups_at parts p) s.1 (subst (λ w. Has (groups_at parts w) s.1) q s.2.here)))

    -- a group names just the triples of its key
    pub triples_are : (g : List Name) → Has (groups_at parts p) g → triples_under ts g ≡ triples_with ts (key_of ts g)
    triples_are g h =
        let ok = Has-all (IsGoodGroup part ts p) (groups_at parts p) g (good.each p lt).groups.each h in
        same_rising triples_total _ _ (triples-rise ts g ok.names_rise) (Rises-filter triple_order _ ts (rises_by_name ts rise))
        (λ t a.
        let n = Has-filter_map_from (named ts) g t a in
        let r = named-Has ts n.0 t n.2 in
        let k1 : key_under ts n.0 ≡ t.key = ap (λ o. option_map_or (λ (u : Triple). u.key) o []) n.2 in
        let k2 : t.key ≡ key_of ts g = sym k1 ∙ key_in_group part ts p g n.0 ok n.1 in
        Has-filter (λ (u : Triple). bytes_eq u.key (key_of ts g)) ts t r.0
        (subst (λ w. bytes_eq w (key_of ts g) ≡ true) (sym k2) (bytes_eq-same (key_of ts g))))
        (λ t a.
        let r = Has-filter_from (λ (u : Triple). bytes_eq u.key (key_of ts g)) ts t a in
        let k : t.key ≡ key_of ts g = bytes_eq-is t.key (key_of ts g) r.1 in
        let s = triple_stands t r.0 in
        let w = stands_right t r.0 s.0 s.1 s.2 in
        let q : s.0 ≡ p = sym (w.0) ∙ (ap part k ∙ ok.partition) in
        let same : s.1 ≡ g = same_image (key_of ts) (groups_at parts p) s.1 g (Distinct-rises nat_list_cmp_total _ (good.each p lt).groups.keys_rise)
        (subst (λ v. Has (groups_at parts v) s.1) q s.2.here) h (w.1 ∙ k) in
        Has-filter_map (named ts) g t.name t (subst (λ v. Has v t.name) same s.2.entry) (named-of ts t (Distinct-rises names_total _ rise) r.0))

    pub is_sequential : nth_file outputs p ≡ texts_of (record { part = part; text = text }) ts p
    is_sequential =
        (good.each p lt).output_is
        ∙ (flat_map-agree (text_under text ts) (λ g. text (key_of ts g) (values_of ts (key_of ts g))) (groups_at parts p)
        (λ g h. ap (λ (us : List Triple). text (key_of ts g) (map (λ (u : Triple). u.value) us)) (triples_are g h))
        ∙ (sym (flat_map-map (λ k. text k (values_of ts k)) (key_of ts) (groups_at parts p)) ∙ ap (flat_map (λ k. text k (values_of ts k))) keys_are))

pub good_parts_are_sequential : GoodPartsAreSequential
good_parts_are_sequential rules ts parts outputs rise good p lt = is_sequential rules.part rules.text ts parts outputs rise good p lt

pub good_is_sequential : GoodIsSequential
good_is_sequential request files outputs c some good p lt =
    is_sequential (part request) (text_of request.job) (emitted request.job request.split files c.skips) c.groups outputs (names_rise request files c.skips some) good.result p
    (omega (arith, lt, good.one_each))
