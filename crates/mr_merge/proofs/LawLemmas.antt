-- What merged groups are.
use Rattle.std.proofs.Common.{◌≡◌, ◌↔◌, ℕ, List, [], ◌∷◌, map, filter, refl, ap, sym, ◌∙◌, subst, inl, inr, IsPermutation, Option, Some}
use Rattle.std.specs.Prelude.{MatchOption}
use Rattle.std.proofs.lemmas.Cmp.{nat_list_cmp_total, tied_itself}
use Rattle.std.specs.Str.{bytes_eq}
use Rattle.std.specs.Cmp.Lexicographic.{bytes_decides}
use Rattle.std.specs.Ordering.{ordering_then}
use Rattle.std.specs.declared.cmp.Ordering.{Ordering}
use Rattle.std.specs.declared.cmp.Ordering.TheVariants.{Less, Equal}
use Rattle.mr_bytes.specs.Lists.{Distinct, Has, HasNoTies, Rises, sorted}
use Rattle.mr_bytes.specs.Order.{key_order, name_order}
use Rattle.mr_bytes.specs.Pairs.{Triple, pair_order}
use Rattle.mr_bytes.proofs.ListLaws.{Has-all, all_from_Has, Has-filter, Has-filter_from, Has-map, Has-map_from, Rises-filter}
use Rattle.mr_bytes.proofs.SortLaws.{sorted-Has, sorted-Has_from, sorted-rises}
use Rattle.mr_spill.specs.Column.{names_of}
use Rattle.mr_spill.proofs.NameLemmas.{name-tie}
use Rattle.mr_spill.proofs.RegionLaws.{pair_tie, pair_total}
use Rattle.mr_group.proofs.ListLemmas.{Has-permutation, same_image}
use Rattle.std.proofs.lemmas.List.Sorted.{IsPermutation-sym}
use Rattle.mr_merge.specs.Laws.{GroupsHave, GroupsRise, MergedHas, MergedIsOne}
use Rattle.mr_merge.specs.Merged.{Group, group_of, merged}
use Rattle.mr_merge.proofs.GroupLemmas.{keys-no-ties, sorted-same}

-- where names differ no two pairs stand at one place
pub distinct-no-ties : (ts : List Triple) → Distinct (names_of ts) → HasNoTies pair_order ts
distinct-no-ties ts d t u h g e = sym (same_image (λ (w : Triple). w.name) ts t u d h g (name-tie t.name u.name (pair_tie t u e)))

group-keys : (ts : List Triple) (ks : List (List ℕ)) → map (λ (g : Group). g.key) (map (group_of ts) ks) ≡ ks
group-keys ts [] = refl
group-keys ts (k ∷ ks) = ap (λ l. k ∷ l) (group-keys ts ks)

pub groups_rise : GroupsRise
groups_rise pairs =
    let ks : List (List ℕ) = map (λ (t : Triple). t.key) pairs in
    subst (Rises key_order) (sym (group-keys (sorted pair_order pairs) (sorted key_order ks))) (sorted-rises key_order nat_list_cmp_total ks)

-- pairs of one key that rise, rise by name
one-key-rises : (k : List ℕ) (ts : List Triple) → ((t : Triple) → Has ts t → t.key ≡ k) → Rises pair_order ts → Rises name_order (names_of ts)
one-key-rises k [] same r = tt
one-key-rises k (t ∷ ts) same r = (
  all_from_Has (λ n. name_order t.name n ≡ Less) (names_of ts) (λ n h. let m = Has-map_from (λ (u : Triple). u.name) ts n h in
      subst (λ w. name_order t.name w ≡ Less) m.2 (less m.0 m.1)),
  one-key-rises k ts (λ u h. same u (inr h)) r.1,
)
  where
    less : (u : Triple) → Has ts u → name_order t.name u.name ≡ Less
    less u h =
        let tie = subst (λ j. key_order t.key j ≡ Equal) (same t (inl refl) ∙ sym (same u (inr h))) (tied_itself nat_list_cmp_total t.key) in
        sym (ap (λ (o : Ordering). ordering_then o (name_order t.name u.name)) tie) ∙ Has-all (λ w. pair_order t w ≡ Less) ts u r.0 h

pub groups_have : GroupsHave
groups_have pairs g d h =
    let ts : List Triple = sorted pair_order pairs in
    let k = Has-map_from (group_of ts) (sorted key_order (map (λ (t : Triple). t.key) pairs)) g h in
    subst (λ (w : Group). Rises name_order (names_of w.pairs) × ((t : Triple) → Has w.pairs t ↔ (Has pairs t × (t.key ≡ w.key)))) k.2 (
      one-key-rises k.0 (filter (λ (t : Triple). bytes_eq t.key k.0) ts)
          (λ t a. (bytes_decides t.key k.0).0 ((Has-filter_from (λ (u : Triple). bytes_eq u.key k.0) ts t a).1))
          (Rises-filter pair_order (λ (t : Triple). bytes_eq t.key k.0) ts (sorted-rises pair_order pair_total pairs)),
      λ t. (
        λ a. let f = Has-filter_from (λ (u : Triple). bytes_eq u.key k.0) ts t a in (sorted-Has_from pair_order pairs t f.0, (bytes_decides t.key k.0).0 f.1),
        λ b. Has-filter (λ (u : Triple). bytes_eq u.key k.0) ts t (sorted-Has pair_order pairs (distinct-no-ties pairs d) t b.0) ((bytes_decides t.key k.0).1 b.1),
      ),
    )

pub merged_has : MergedHas
merged_has pairs t d h =
    let ts : List Triple = sorted pair_order pairs in
    let ks : List (List ℕ) = map (λ (u : Triple). u.key) pairs in
    let there : Has ts t = sorted-Has pair_order pairs (distinct-no-ties pairs d) t h in
    let key : Has (sorted key_order ks) t.key = sorted-Has key_order ks (keys-no-ties ks) t.key (Has-map (λ (u : Triple). u.key) pairs t h) in
    (group_of ts t.key, Has-map (group_of ts) (sorted key_order ks) t.key key, Has-filter (λ (u : Triple). bytes_eq u.key t.key) ts t there ((bytes_decides t.key t.key).1 refl))

has-key : (ps qs : List Triple) → ((t : Triple) → Has ps t → Has qs t) → (k : List ℕ) → Has (map (λ (t : Triple). t.key) ps) k → Has (map (λ (t : Triple). t.key) qs) k
has-key ps qs f k h =
    let m = Has-map_from (λ (t : Triple). t.key) ps k h in
    subst (Has (map (λ (t : Triple). t.key) qs)) m.2 (Has-map (λ (t : Triple). t.key) qs m.0 (f m.0 m.1))

-- the groups are told by which pairs there are
pub merged-same : MergedIsOne
merged-same ps qs one same =
    let pairs : sorted pair_order ps ≡ sorted pair_order qs = sorted-same pair_order pair_total ps qs one same in
    let keys : sorted key_order (map (λ (t : Triple). t.key) ps) ≡ sorted key_order (map (λ (t : Triple). t.key) qs) =
    sorted-same key_order nat_list_cmp_total (map (λ (t : Triple). t.key) ps) (map (λ (t : Triple). t.key) qs) (keys-no-ties (map (λ (t : Triple). t.key) ps))
    (λ k. (has-key ps qs (λ t. (same t).0) k, has-key qs ps (λ t. (same t).1) k)) in
    λ i. map (group_of (pairs i)) (keys i)

-- pairs whose names differ give the same groups in whatever order
pub merged-permuted : (ps qs : List Triple) → Distinct (names_of ps) → IsPermutation ps qs → merged ps ≡ merged qs
merged-permuted ps qs d p =
    merged-same ps qs (distinct-no-ties ps d) (λ t. (Has-permutation ps qs t p, Has-permutation qs ps t (IsPermutation-sym ps qs p)))

-- the pairs by name, where there is such a list
pub by-name-some : (ts : List Triple) (o : Option (List Triple)) (us : List Triple) → o ≡ Some us
    → MatchOption o (Distinct (names_of ts) → ⊥) (λ ns. Rises name_order (names_of ns) × IsPermutation ts ns) → Rises name_order (names_of us) × IsPermutation ts us
by-name-some ts o us is m =
    subst (λ (w : Option (List Triple)). MatchOption w (Distinct (names_of ts) → ⊥) (λ ns. Rises name_order (names_of ns) × IsPermutation ts ns)) is m
