-- The keys of a partition are the rising list of exactly its keys.
use Rattle.std.proofs.Common.{◌≡◌, ℕ, List, [], ◌∷◌, map, filter, refl, ap, sym, subst, ◌⊎◌, true, false, cond, ◌==◌}
use Rattle.std.proofs.lemmas.Bool.{eqb-true, eq-eqb}
use Rattle.std.proofs.lemmas.Cmp.{nat_list_cmp_total}
use Rattle.std.specs.Cmp.Lexicographic.{bytes_decides}
use Rattle.std.specs.Str.{bytes_eq}
use Rattle.mr_bytes.specs.Lists.{Has, Rises, sorted}
use Rattle.mr_bytes.specs.Order.{key_order}
use Rattle.mr_bytes.specs.Pairs.{Triple}
use Rattle.mr_bytes.proofs.ListLaws.{Has-filter, Has-filter_from, same_rising}
use Rattle.mr_bytes.proofs.SortLaws.{placed-cases, placed-new, placed-old, placed-rises, sorted_has, sorted_rises}
use Rattle.mr_sequential.specs.Sequential.{with_key, keys_of}
use Rattle.mr_sequential.specs.Emitted.{emitted}
use Rattle.mr_sequential.specs.Rules.{rules_of}
use Rattle.mr_sequential.specs.Laws.{HasJust, KeysRise, KeysAreUnique, OutputsAreInKeyOrder}
pub use Rattle.mr_group.proofs.OrderLemmas.{key_tie}

pub bytes_eq-is : (j k : List ℕ) → bytes_eq j k ≡ true → j ≡ k
bytes_eq-is j k e = (bytes_decides j k).0 e

pub bytes_eq-same : (k : List ℕ) → bytes_eq k k ≡ true
bytes_eq-same k = (bytes_decides k k).1 refl

-- ---- a key among rising keys

pub with_key-cases : (k : List ℕ) (xs : List (List ℕ)) (x : List ℕ) → Has (with_key k xs) x → (k ≡ x) ⊎ Has xs x
with_key-cases k xs x h = placed-cases key_order k xs x h

pub with_key-new : (k : List ℕ) (xs : List (List ℕ)) → Has (with_key k xs) k
with_key-new k xs = placed-new key_order k xs (λ y h e. sym (key_tie k y e))

pub with_key-old : (k : List ℕ) (xs : List (List ℕ)) (x : List ℕ) → Has xs x → Has (with_key k xs) x
with_key-old k xs x h = placed-old key_order k xs x h

pub with_key-rises : (k : List ℕ) (xs : List (List ℕ)) → Rises key_order xs → Rises key_order (with_key k xs)
with_key-rises k xs r = placed-rises key_order nat_list_cmp_total k xs r

-- ---- the keys of a partition

keys-sorted : (part : List ℕ → ℕ) (p : ℕ) (ks : List (List ℕ)) → keys_of part ks p ≡ sorted key_order (filter (λ k. part k == p) ks)
keys-sorted part p [] = refl
keys-sorted part p (k ∷ ks) =
    let rest : List (List ℕ) = filter (λ q. part q == p) ks in
    elim (part k == p) as (λ b. cond b (with_key k (keys_of part ks p)) (keys_of part ks p) ≡ sorted key_order (cond b (k ∷ rest) rest)) [
      | true ↦ ap (with_key k) (keys-sorted part p ks)
      | false ↦ keys-sorted part p ks
    ]

pub keys_rise : KeysRise
keys_rise part all p =
    let here : List (List ℕ) = filter (λ k. part k == p) all in
    let is : keys_of part all p ≡ sorted key_order here = keys-sorted part p all in (
      subst (Rises key_order) (sym is) (sorted_rises key_order here nat_list_cmp_total),
      λ q. (let has = sorted_has key_order here (λ x y h g e. sym (key_tie x y e)) q in (
        λ h. (let r = Has-filter_from (λ k. part k == p) all q (has.0 (subst (λ (l : List (List ℕ)). Has l q) is h)) in (r.0, eqb-true (part q) p r.1)),
        λ h. subst (λ (l : List (List ℕ)). Has l q) (sym is) (has.1 (Has-filter (λ k. part k == p) all q h.0 (eq-eqb (part q) p h.1))),
      )),
    )

pub keys-unique : (part : List ℕ → ℕ) (p : ℕ) (ks keys : List (List ℕ)) → Rises key_order keys → HasJust part ks p keys → keys ≡ keys_of part ks p
keys-unique part p ks keys r just =
    let law = keys_rise part ks p in
    same_rising nat_list_cmp_total keys (keys_of part ks p) r law.0 (λ q h. (law.1 q).1 ((just q).0 h)) (λ q h. (just q).1 ((law.1 q).0 h))

pub outputs_are_in_key_order : OutputsAreInKeyOrder
outputs_are_in_key_order request files skips p =
    let part : List ℕ → ℕ = (rules_of request).part in
    let all : List (List ℕ) = map (λ (t : Triple). t.key) (emitted request.job request.split files skips) in
    let law = keys_rise part all p in
    record { keys = keys_of part all p; rise = law.0; just = law.1; joined = refl }

pub keys_are_unique : KeysAreUnique
keys_are_unique part all p keys r just = keys-unique part p all keys r just
