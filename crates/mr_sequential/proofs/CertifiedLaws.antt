-- The sequential execution's own result is good.
use Rattle.std.proofs.Common.{◌≡◌, ℕ, zero, suc, ◌+◌, ◌<◌, ◌≤◌, Some, List, [], ◌∷◌, length, map, refl, ap, sym, ◌∙◌, subst, inl, inr, arith, IsSome}
use Rattle.std.proofs.lemmas.List.{length-map}
use Rattle.std.proofs.lemmas.List.Folds.{flat_map-map}
use Rattle.std.proofs.lemmas.List.FromFn.{length-map-range_with_len, get_or-map-range_with_len}
use Rattle.std.specs.List.{AllByRecursion, flat_map, cons_option, range_with_len}
use Rattle.std.specs.Str.{bytes_eq}
use Rattle.std.specs.declared.cmp.Ordering.TheVariants.{Less}
use Rattle.mr_bytes.specs.declared.Name.{Name}
use Rattle.mr_bytes.specs.declared.Value.{Value}
use Rattle.mr_bytes.specs.Lists.{Has, Rises, Distinct}
use Rattle.mr_bytes.specs.Order.{key_order, name_order}
use Rattle.mr_input.specs.Files.{nth_file}
use Rattle.mr_reduce.specs.Text.{text_of}
use Rattle.mr_bytes.specs.Pairs.{Triple}
use Rattle.mr_partition.proofs.HostLemmas.{below}
use Rattle.mr_sequential.specs.Emitted.{emitted}
use Rattle.mr_sequential.specs.Rules.{part}
use Rattle.mr_sequential.specs.Sequential.{keys_of, triples_with, values_of, texts_of}
use Rattle.mr_sequential.specs.Good.{named, key_under, key_of, values_under, text_under, IsGoodGroup, AreGoodGroups, IsGoodPart, groups_at, entries_of, AreGood}
use Rattle.mr_sequential.specs.Certified.{names_with, groups_of}
use Rattle.mr_sequential.specs.GoodLaws.{SequentialIsGood}
use Rattle.mr_bytes.proofs.ListLaws.{Has-all, all_from_Has, Has-map, Has-map_from, Has-flat_map, Has-flat_map_from, Distinct-rises, no_longer, Has-filter, Has-filter_from, Rises-filter}
use Rattle.mr_sequential.proofs.KeyLaws.{bytes_eq-is, bytes_eq-same, keys_rise}
use Rattle.mr_sequential.proofs.NameLaws.{names_rise}
use Rattle.mr_sequential.proofs.NamedLaws.{triples_under, named-of, triple_order, rises_by_name}
use Rattle.mr_sequential.proofs.SkipLaws.{good_skips}
use Rattle.mr_sequential.proofs.EntryLaws.{names_total, EachFrom, distinct_entries}
use Rattle.mr_sequential.proofs.GoodLaws.{flat_map-agree, keys-triple, triple-keys, key_of_triple}
use Rattle.mr_group.proofs.ListLemmas.{Has-range}

names_from : (ts : List Triple) → Rises triple_order ts → Rises name_order (map (λ (t : Triple). t.name) ts)
names_from [] r = tt
names_from (t ∷ ts) r = (
  all_from_Has (λ n. name_order t.name n ≡ Less) _ (λ n h.
      let u = Has-map_from (λ (w : Triple). w.name) ts n h in
      subst (λ m. name_order t.name m ≡ Less) u.2 (Has-all (λ v. triple_order t v ≡ Less) ts u.0 r.0 u.1)),
  names_from ts r.1,
)

-- the triples under the names of some are these
pub back : (ts : List Triple) → Rises name_order (map (λ (t : Triple). t.name) ts) → (us : List Triple) → ((u : Triple) → Has us u → Has ts u)
    → triples_under ts (map (λ (t : Triple). t.name) us) ≡ us
back ts rise [] f = refl
back ts rise (u ∷ us) f =
    ap (λ o. cons_option o (triples_under ts (map (λ (t : Triple). t.name) us))) (named-of ts u (Distinct-rises names_total _ rise) (f u (inl refl)))
    ∙ ap (λ vs. u ∷ vs) (back ts rise us (λ v h. f v (inr h)))

module _ (part : List ℕ → ℕ) (text : List ℕ → List Value → List ℕ) (ts : List Triple) (rise : Rises name_order (map (λ (t : Triple). t.name) ts)) where
  keys_at : ℕ → List (List ℕ)
  keys_at p = keys_of part (map (λ (u : Triple). u.key) ts) p

  named_back : (t : Triple) → Has ts t → named ts t.name ≡ Some t
  named_back t h = named-of ts t (Distinct-rises names_total _ rise) h

  -- an entry of a group names a triple of its key
  entry_of : (k : List ℕ) (n : Name) → Has (names_with ts k) n → (t : Triple) × Has ts t × (t.key ≡ k) × (t.name ≡ n)
  entry_of k n h =
      let u = Has-map_from (λ (t : Triple). t.name) (triples_with ts k) n h in
      let f = Has-filter_from (λ (t : Triple). bytes_eq t.key k) ts u.0 u.1 in
      (u.0, f.0, bytes_eq-is u.0.key k f.1, u.2)

  in_group : (t : Triple) → Has ts t → Has (names_with ts t.key) t.name
  in_group t h =
      Has-map (λ (u : Triple). u.name) (triples_with ts t.key) t (Has-filter (λ (u : Triple). bytes_eq u.key t.key) ts t h (bytes_eq-same t.key))

  entry_key : (k : List ℕ) (n : Name) → Has (names_with ts k) n → key_under ts n ≡ k
  entry_key k n h = let t = entry_of k n h in ap (key_under ts) (sym t.3) ∙ (key_of_triple ts rise t.0 t.1 ∙ t.2)

  group_key : (k : List ℕ) (ns : List Name) (n : Name) → ((m : Name) → Has ns m → key_under ts m ≡ k) → Has ns n → key_of ts ns ≡ k
  group_key k [] n f h = absurd h
  group_key k (m ∷ ns) n f h = f m (inl refl)

  some_in : (ns : List Name) (n : Name) → Has ns n → 1 ≤ length ns
  some_in [] n h = absurd h
  some_in (m ∷ ns) n h = omega arith

  module _ (p : ℕ) where
    -- each key has an entry
    some_name : (k : List ℕ) → Has (keys_at p) k → (n : Name) × Has (names_with ts k) n
    unfolding keys_at
    some_name k h = let t = triple-keys part p ts k h in (t.0.name, subst (λ j. Has (names_with ts j) t.0.name) t.2 (in_group t.0 t.1))

    key_here : (k : List ℕ) → Has (keys_at p) k → key_of ts (names_with ts k) ≡ k
    key_here k h = let n = some_name k h in group_key k (names_with ts k) n.0 (entry_key k) n.1

    good_one : (k : List ℕ) → Has (keys_at p) k → IsGoodGroup part ts p (names_with ts k)
    unfolding keys_at
    good_one k h = record {
      some_entry = let n = some_name k h in some_in (names_with ts k) n.0 n.1;
      entries = all_from_Has (λ n. IsSome (named ts n)) (names_with ts k)
          (λ n g. let u = entry_of k n g in subst (λ m. IsSome (named ts m)) u.3 (subst IsSome (sym (named_back u.0 u.1)) refl));
      names_rise = names_from (triples_with ts k) (Rises-filter triple_order _ ts (rises_by_name ts rise));
      one_key = all_from_Has (λ n. key_under ts n ≡ key_of ts (names_with ts k)) (names_with ts k) (λ n g. entry_key k n g ∙ sym (key_here k h));
      partition = ap part (key_here k h) ∙ (triple-keys part p ts k h).3;
    }

    groups_good : (ks : List (List ℕ)) → ((k : List ℕ) → Has ks k → Has (keys_at p) k) → AllByRecursion (IsGoodGroup part ts p) (map (names_with ts) ks)
    groups_good [] f = tt
    groups_good (k ∷ ks) f = (good_one k (f k (inl refl)), groups_good ks (λ j h. f j (inr h)))

    keys_back : (ks : List (List ℕ)) → ((k : List ℕ) → Has ks k → Has (keys_at p) k) → map (key_of ts) (map (names_with ts) ks) ≡ ks
    keys_back [] f = refl
    keys_back (k ∷ ks) f =
        let here = key_here k (f k (inl refl)) in let rest = keys_back ks (λ j h. f j (inr h)) in λ i. here i ∷ rest i

    same_text : (k : List ℕ) → Has (keys_at p) k → text k (values_of ts k) ≡ text_under text ts (names_with ts k)
    same_text k h =
        let values : values_under ts (names_with ts k) ≡ values_of ts k =
        ap (map (λ (t : Triple). t.value)) (back ts rise (triples_with ts k) (λ u g. (Has-filter_from (λ (t : Triple). bytes_eq t.key k) ts u g).0)) in
        sym (ap (λ j. text j (values_under ts (names_with ts k))) (key_here k h) ∙ ap (text k) values)

    good_groups_here : AreGoodGroups part ts p (groups_of part ts p)
    unfolding keys_at
    good_groups_here = record {
      each = groups_good (keys_at p) (λ k h. h);
      keys_rise = subst (Rises key_order) (sym (keys_back (keys_at p) (λ k h. h))) (keys_rise part (map (λ (u : Triple). u.key) ts) p).0;
    }

    good_part_here : (output : List ℕ) → output ≡ texts_of (record { part = part; text = text }) ts p → IsGoodPart (record { part = part; text = text }) ts p (groups_of part ts p) output
    unfolding keys_at
    good_part_here output is = record {
      groups = good_groups_here;
      output_is = is
          ∙ (flat_map-agree (λ k. text k (values_of ts k)) (λ k. text_under text ts (names_with ts k)) (keys_at p) same_text
          ∙ sym (flat_map-map (text_under text ts) (names_with ts) (keys_at p)));
    }

  -- the groups of so many partitions
  parts_of : ℕ → List (List (List Name))
  parts_of n = map (groups_of part ts) (range_with_len 0 n)

  each_good : (a n : ℕ) → EachFrom (AreGoodGroups part ts) a (map (groups_of part ts) (range_with_len a n))
  each_good a zero = tt
  each_good a (suc n) =
      let same : a + 1 ≡ suc a = omega arith in
      (good_groups_here a, subst (λ b. EachFrom (AreGoodGroups part ts) b (map (groups_of part ts) (range_with_len (a + 1) n))) same (each_good (a + 1) n))

  names : List Name
  names = map (λ (t : Triple). t.name) ts

  name_of : (m : Name) (t : Triple) → Has ts t → t.name ≡ m → Has names m
  unfolding names
  name_of m t h e = subst (Has (map (λ (u : Triple). u.name) ts)) e (Has-map (λ (u : Triple). u.name) ts t h)

  -- the entries of the groups are just the names of all triples
  only_names : (n : ℕ) (m : Name) → Has (entries_of (parts_of n)) m → Has names m
  unfolding keys_at parts_of
  only_names n m h =
      let gs = Has-flat_map_from (λ (gs : List (List Name)). flat_map (λ g. g) gs) (parts_of n) m h in
      let p = Has-map_from (groups_of part ts) (range_with_len 0 n) gs.0 gs.1 in
      let g = Has-flat_map_from (λ (g : List Name). g) gs.0 m gs.2 in
      let k = Has-map_from (names_with ts) (keys_at p.0) g.0 (subst (λ w. Has w g.0) (sym p.2) g.1) in
      let entry : Has (names_with ts k.0) m = subst (λ w. Has w m) (sym k.2) g.2 in
      let t = entry_of k.0 m entry in
      name_of m t.0 t.1 t.3

  all_names : (n : ℕ) → ((t : Triple) → Has ts t → part t.key < n) → (m : Name) → Has names m → Has (entries_of (parts_of n)) m
  unfolding names keys_at parts_of
  all_names n fits m h =
      let t = Has-map_from (λ (u : Triple). u.name) ts m h in
      let p : ℕ = part t.0.key in
      let there : Has (parts_of n) (groups_of part ts p) =
      Has-map (groups_of part ts) (range_with_len 0 n) p (Has-range n p (fits t.0 t.1)) in
      let group_there : Has (groups_of part ts p) (names_with ts t.0.key) =
      Has-map (names_with ts) (keys_at p) t.0.key (keys-triple part p ts t.0 t.1 refl) in
      let entry : Has (names_with ts t.0.key) m = subst (Has (names_with ts t.0.key)) t.2 (in_group t.0 t.1) in
      Has-flat_map (λ (gs : List (List Name)). flat_map (λ g. g) gs) (parts_of n) (groups_of part ts p) m there
      (Has-flat_map (λ (g : List Name). g) (groups_of part ts p) (names_with ts t.0.key) m group_there entry)

  -- the groups of all partitions, with the texts as outputs, are good
  pub parts_are_good : (n : ℕ) (outputs : List (List ℕ)) → ((t : Triple) → Has ts t → part t.key < n) → length outputs ≡ n
      → ((p : ℕ) → p < n → nth_file outputs p ≡ texts_of (record { part = part; text = text }) ts p) → AreGood (record { part = part; text = text }) ts (map (groups_of part ts) (range_with_len 0 n)) outputs
  unfolding names parts_of
  parts_are_good n outputs fits count same = record {
    one_each = count ∙ sym (length-map-range_with_len (groups_of part ts) 0 n);
    each = λ p l.
        let less : p < n = omega (arith, l, length-map-range_with_len (groups_of part ts) 0 n) in
        let there : groups_at (parts_of n) p ≡ groups_of part ts p = get_or-map-range_with_len (groups_of part ts) 0 n p p [] less (omega arith) in
        subst (λ gs. IsGoodPart (record { part = part; text = text }) ts p gs (nth_file outputs p)) (sym there) (good_part_here p (nth_file outputs p) (same p less));
    none_left_out =
        let distinct : Distinct (entries_of (parts_of n)) = distinct_entries part ts 0 (parts_of n) (each_good 0 n) in
        let up : length (entries_of (parts_of n)) ≤ length names = no_longer (entries_of (parts_of n)) names distinct (only_names n) in
        let down : length names ≤ length (entries_of (parts_of n)) =
        no_longer names (entries_of (parts_of n)) (Distinct-rises names_total _ rise) (all_names n fits) in
        omega (arith, up, down, length-map ts (λ (t : Triple). t.name));
  }

pub sequential_is_good : SequentialIsGood
sequential_is_good request files outputs skips split some none count same =
    let facts = (good_skips request files skips).0 none in
    record {
      job = refl;
      flags = refl;
      literal = refl;
      parts = refl;
      split_size = refl;
      lengths = refl;
      skips_rise = facts.1;
      skips_exist = facts.2;
      skips_few = facts.0;
      one_each = length-map-range_with_len (groups_of (part request) (emitted request.job request.split files skips)) 0 request.parts;
      result = parts_are_good (part request) (text_of request.job) (emitted request.job request.split files skips) (names_rise request files skips split) request.parts outputs
          (λ t h. below request.by t.key request.parts some) count same;
    }
