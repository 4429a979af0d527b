-- Grouped pairs are merged.
use Rattle.std.proofs.Common.{◌≡◌, ◌↔◌, ℕ, Bool, List, map, sym, ◌∙◌}
use Rattle.std.proofs.lemmas.Cmp.{nat_list_cmp_total}
use Rattle.std.specs.Cmp.{IsTotalOrder}
use Rattle.std.specs.Str.{bytes_eq}
use Rattle.std.specs.declared.cmp.Ordering.{Ordering}
use Rattle.mr_bytes.specs.Lists.{Has, HasNoTies, sorted}
use Rattle.mr_bytes.specs.Order.{key_order}
use Rattle.mr_bytes.specs.Pairs.{Triple, pair_order}
use Rattle.mr_bytes.proofs.ListLaws.{Has-filter, Has-filter_from, Rises-filter, same_rising}
use Rattle.mr_bytes.proofs.SortLaws.{sorted-Has, sorted-Has_from, sorted-rises}
use Rattle.mr_group.proofs.OrderLemmas.{key_tie}
use Rattle.mr_spill.specs.Groups.{AreGrouped, Group, under}
use Rattle.mr_spill.specs.Regions.{RisesUnderKeys}
use Rattle.mr_spill.proofs.RegionLaws.{pair_total, under_no_ties}
use Rattle.mr_spill.proofs.RowLemmas.{under-rises}
use Rattle.mr_merge.specs.Merged.{merged}

pub keys-no-ties : (ks : List (List ℕ)) → HasNoTies key_order ks
keys-no-ties ks j k h g e = sym (key_tie j k e)

-- sorted lists are told by their elements
pub sorted-same : {X : Type 0} (cmp : X → X → Ordering) → IsTotalOrder cmp → (xs ys : List X) → HasNoTies cmp xs → ((x : X) → Has xs x ↔ Has ys x)
    → sorted cmp xs ≡ sorted cmp ys
sorted-same cmp o xs ys one same =
    same_rising o (sorted cmp xs) (sorted cmp ys) (sorted-rises cmp o xs) (sorted-rises cmp o ys)
    (λ x h. sorted-Has cmp ys (λ y z a b e. one y z ((same y).1 a) ((same z).1 b) e) x ((same x).0 (sorted-Has_from cmp xs x h)))
    (λ x h. sorted-Has cmp xs one x ((same x).1 (sorted-Has_from cmp ys x h)))

-- the pairs of a key, of pairs whose names rise under each, are those of the sorted pairs
under-sorted : (ts : List Triple) → RisesUnderKeys ts → (k : List ℕ) → under ts k ≡ under (sorted pair_order ts) k
under-sorted ts rise k =
    same_rising pair_total (under ts k) (under us k) (under-rises ts k rise) (Rises-filter pair_order is us (sorted-rises pair_order pair_total ts))
    (λ t h. let f = Has-filter_from is ts t h in Has-filter is us t (sorted-Has pair_order ts (under_no_ties ts rise) t f.0) f.1)
    (λ t h. let f = Has-filter_from is us t h in Has-filter is ts t (sorted-Has_from pair_order ts t f.0) f.1)
  where
    us : List Triple
    us = sorted pair_order ts

    is : Triple → Bool
    is t = bytes_eq t.key k

pub grouped-merged : (ts : List Triple) (gs : List Group) → RisesUnderKeys ts → AreGrouped ts gs → gs ≡ merged ts
grouped-merged ts gs rise g =
    let all : List (List ℕ) = map (λ (t : Triple). t.key) ts in
    let keys : g.keys ≡ sorted key_order all =
    same_rising nat_list_cmp_total g.keys (sorted key_order all) g.rise (sorted-rises key_order nat_list_cmp_total all)
    (λ k h. sorted-Has key_order all (keys-no-ties all) k ((g.own k).0 h))
    (λ k h. (g.own k).1 (sorted-Has_from key_order all k h)) in
    g.are ∙ (λ i. map (λ (k : List ℕ). record { key = k; pairs = under-sorted ts rise k i }) (keys i))
