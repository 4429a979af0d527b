-- All entries of a good result are distinct.
use Rattle.std.proofs.Common.{◌≡◌, ℕ, zero, suc, ◌+◌, ◌<◌, ◌≤◌, List, [], ◌∷◌, length, map, get_or, ap, sym, ◌∙◌, subst, inl, inr, arith, IsSome}
use Rattle.std.proofs.lemmas.Cmp.{nat_list_cmp_total, nat_cmp_total, on_total, then_total}
use Rattle.std.proofs.lemmas.List.{length-map}
use Rattle.std.specs.List.{AllByRecursion, flat_map}
use Rattle.std.specs.Cmp.{IsTotalOrder}
use Rattle.std.specs.declared.cmp.Ordering.TheVariants.{Less}
use Rattle.mr_bytes.specs.declared.Name.{Name}
use Rattle.mr_bytes.specs.Lists.{Has, Rises, Distinct}
use Rattle.mr_bytes.specs.Order.{key_order, name_order}
use Rattle.mr_bytes.specs.Pairs.{Triple}
use Rattle.mr_sequential.specs.Good.{named, key_under, key_of, IsGoodGroup, AreGoodGroups, groups_at, entries_of}
use Rattle.mr_sequential.specs.GoodLaws.{EntriesAreDistinct, NoMoreEntries, NoneIsLeftOut}
use Rattle.mr_bytes.proofs.ListLaws.{Has-all, Has-map, Has-flat_map_from, Distinct-rises, Distinct-append, Has-append_cases, not_before_itself, no_longer}
use Rattle.mr_sequential.proofs.NamedLaws.{some_is, named-Has}
use Rattle.mr_bytes.proofs.ListLaws as lists

pub names_total : IsTotalOrder name_order
names_total =
    then_total (on_total (λ (n : Name). n.split) nat_cmp_total)
    (then_total (on_total (λ (n : Name). n.rec) nat_cmp_total) (on_total (λ (n : Name). n.place) nat_cmp_total))

-- P holds of each element at its place, the first one's being p
abbrev pub EachFrom : {X : Type 0} → (ℕ → X → Type 0) → ℕ → List X → Type 0
EachFrom P p [] = Unit {0}
EachFrom P p (x ∷ xs) = P p x × EachFrom P (suc p) xs

pub each_from : {X : Type 0} (P : ℕ → X → Type 0) (d : X) (p : ℕ) (xs : List X) → ((q : ℕ) → q < length xs → P (p + q) (get_or xs q d)) → EachFrom P p xs
each_from P d p [] f = tt
each_from P d p (x ∷ xs) f =
    let here : p + 0 ≡ p = omega arith in (
      subst (λ n. P n x) here (f 0 (omega arith)),
      each_from P d (suc p) xs (λ q l. let there : p + suc q ≡ suc p + q = omega arith in subst (λ n. P n (get_or xs q d)) there (f (suc q) (omega arith))),
    )

pub from_each : {X : Type 0} (P : ℕ → X → Type 0) (d : X) (p : ℕ) (xs : List X) → EachFrom P p xs → (q : ℕ) → q < length xs → P (p + q) (get_or xs q d)
from_each P d p [] each q l = absurd (omega arith)
from_each P d p (x ∷ xs) each zero l = let here : p ≡ p + 0 = omega arith in subst (λ n. P n x) here each.0
from_each P d p (x ∷ xs) each (suc q) l =
    let there : suc p + q ≡ p + suc q = omega arith in subst (λ n. P n (get_or xs q d)) there (from_each P d (suc p) xs each.1 q (omega arith))

module _ (part : List ℕ → ℕ) (ts : List Triple) where
  pub key_in_group : (p : ℕ) (g : List Name) (n : Name) → IsGoodGroup part ts p g → Has g n → key_under ts n ≡ key_of ts g
  key_in_group p g n good h = Has-all (λ m. key_under ts m ≡ key_of ts g) g n good.one_key h

  pub part_in_group : (p : ℕ) (g : List Name) (n : Name) → IsGoodGroup part ts p g → Has g n → part (key_under ts n) ≡ p
  part_in_group p g n good h = ap part (key_in_group p g n good h) ∙ good.partition

  part_in_groups : (p : ℕ) (gs : List (List Name)) (n : Name) → AllByRecursion (IsGoodGroup part ts p) gs → Has (flat_map (λ g. g) gs) n
      → part (key_under ts n) ≡ p
  part_in_groups p [] n good h = absurd h
  part_in_groups p (g ∷ gs) n good h =
      elim (Has-append_cases g (flat_map (λ x. x) gs) n h) [ inl a ↦ part_in_group p g n good.0 a | inr b ↦ part_in_groups p gs n good.1 b ]

  -- later groups have later keys
  key_after : (p : ℕ) (k : List ℕ) (gs : List (List Name)) (n : Name) → AllByRecursion (IsGoodGroup part ts p) gs
      → AllByRecursion (λ j. key_order k j ≡ Less) (map (key_of ts) gs) → Has (flat_map (λ g. g) gs) n → key_order k (key_under ts n) ≡ Less
  key_after p k [] n good after h = absurd h
  key_after p k (g ∷ gs) n good after h =
      elim (Has-append_cases g (flat_map (λ x. x) gs) n h) [
        | inl a ↦ subst (λ j. key_order k j ≡ Less) (sym (key_in_group p g n good.0 a)) after.0
        | inr b ↦ key_after p k gs n good.1 after.1 b
      ]

  distinct_in_part : (p : ℕ) (gs : List (List Name)) → AllByRecursion (IsGoodGroup part ts p) gs → Rises key_order (map (key_of ts) gs)
      → Distinct (flat_map (λ g. g) gs)
  distinct_in_part p [] good rise = tt
  distinct_in_part p (g ∷ gs) good rise =
      Distinct-append g (flat_map (λ x. x) gs) (Distinct-rises names_total g good.0.names_rise) (distinct_in_part p gs good.1 rise.1)
      (λ n a b.
      not_before_itself nat_list_cmp_total (key_of ts g) (key_under ts n) (key_after p (key_of ts g) gs n good.1 rise.0 b) (sym (key_in_group p g n good.0 a)))

  -- later partitions have later numbers
  part_after : (p : ℕ) (parts : List (List (List Name))) (n : Name) → EachFrom (AreGoodGroups part ts) p parts → Has (entries_of parts) n → p ≤ part (key_under ts n)
  part_after p [] n good h = absurd h
  part_after p (gs ∷ parts) n good h =
      elim (Has-append_cases (flat_map (λ g. g) gs) (entries_of parts) n h) [
        | inl a ↦ (let e : part (key_under ts n) ≡ p = part_in_groups p gs n good.0.each a in omega arith)
        | inr b ↦ (let le : suc p ≤ part (key_under ts n) = part_after (suc p) parts n good.1 b in omega arith)
      ]

  pub distinct_entries : (p : ℕ) (parts : List (List (List Name))) → EachFrom (AreGoodGroups part ts) p parts → Distinct (entries_of parts)
  distinct_entries p [] good = tt
  distinct_entries p (gs ∷ parts) good =
      Distinct-append (flat_map (λ g. g) gs) (entries_of parts) (distinct_in_part p gs good.0.each good.0.keys_rise) (distinct_entries (suc p) parts good.1)
      (λ n a b.
      let e : part (key_under ts n) ≡ p = part_in_groups p gs n good.0.each a in
      let le : suc p ≤ part (key_under ts n) = part_after (suc p) parts n good.1 b in
      omega arith)

  -- each entry names a triple's name
  pub entry_is_name : (p : ℕ) (parts : List (List (List Name))) → EachFrom (AreGoodGroups part ts) p parts → (n : Name) → Has (entries_of parts) n
      → Has (map (λ (t : Triple). t.name) ts) n
  entry_is_name p [] good n h = absurd h
  entry_is_name p (gs ∷ parts) good n h =
      elim (Has-append_cases (flat_map (λ g. g) gs) (entries_of parts) n h) [
        | inl a ↦
            (let g = Has-flat_map_from (λ (m : List Name). m) gs n a in
            let group = Has-all (IsGoodGroup part ts p) gs g.0 good.0.each g.1 in
            let t = some_is (named ts n) (Has-all (λ m. IsSome (named ts m)) g.0 n group.entries g.2) in
            let r = named-Has ts n t.0 t.1 in
            subst (Has (map (λ (u : Triple). u.name) ts)) r.1 (Has-map (λ (u : Triple). u.name) ts t.0 r.0))
        | inr b ↦ entry_is_name (suc p) parts good.1 n b
      ]

  -- from what holds by place
  pub from_places : (parts : List (List (List Name))) → ((p : ℕ) → p < length parts → AreGoodGroups part ts p (groups_at parts p)) → EachFrom (AreGoodGroups part ts) 0 parts
  from_places parts good = each_from (AreGoodGroups part ts) [] 0 parts (λ q l. let same : q ≡ 0 + q = omega arith in subst (λ n. AreGoodGroups part ts n (get_or parts q [])) same (good q l))

pub entries_are_distinct : EntriesAreDistinct
entries_are_distinct part ts parts good = distinct_entries part ts 0 parts (from_places part ts parts good)

pub no_more_entries : NoMoreEntries
no_more_entries part ts parts good =
    let each = from_places part ts parts good in
    let le = no_longer (entries_of parts) (map (λ (t : Triple). t.name) ts) (distinct_entries part ts 0 parts each) (entry_is_name part ts 0 parts each) in
    omega (arith, le, length-map ts (λ (t : Triple). t.name))

pub none_is_left_out : NoneIsLeftOut
none_is_left_out ts entries distinct names same n h =
    lists.none_left_out entries (map (λ (t : Triple). t.name) ts) distinct names (omega (arith, same, length-map ts (λ (t : Triple). t.name))) n h
