-- Taking the least group out of lists that are merged.
use Rattle.std.proofs.Common.{◌≡◌, ℕ, ◌++◌, List, [], ◌∷◌, refl, ap, sym, ◌∙◌, subst, inl, inr, Bool, true, false, cond, map}
use Rattle.std.proofs.lemmas.List.{append_assoc}
use Rattle.std.proofs.lemmas.Cmp.{nat_list_cmp_total}
use Rattle.std.specs.List.{AllByRecursion}
use Rattle.std.specs.Ordering.{match_ordering}
use Rattle.std.specs.Str.{bytes_eq}
use Rattle.std.specs.declared.cmp.Ordering.TheVariants.{Less}
use Rattle.mr_bytes.specs.declared.Value.{Value}
use Rattle.mr_bytes.specs.Lists.{Has, Rises}
use Rattle.mr_bytes.specs.Order.{key_order}
use Rattle.mr_sequential.specs.Sequential.{with_key}
use Rattle.mr_sequential.proofs.KeyLaws.{bytes_eq-is, with_key-cases, with_key-new, with_key-old, with_key-rises}
use Rattle.mr_bytes.proofs.ListLaws.{same_rising}
use Rattle.mr_shards.specs.Merged.{Group, joined, with_group, merged}
use Rattle.mr_shards.specs.Portions.{merged_groups}
use Rattle.mr_shards.proofs.MergedLaws.{keys, values_if, values_at, told, told-all, told-same, with_group-values, with_group-keys, merged-rise}

pub merged_groups-rise : (gss : List (List Group)) → Rises key_order (keys (merged_groups gss))
merged_groups-rise [] = tt
merged_groups-rise (gs ∷ gss) = merged-rise gs (merged_groups gss) (merged_groups-rise gss)

pub with_group-rise : (g : Group) (gs : List Group) → Rises key_order (keys gs) → Rises key_order (keys (with_group g gs))
with_group-rise g gs r = subst (Rises key_order) (sym (with_group-keys g gs)) (with_key-rises g.key (keys gs) r)

-- groups with rising keys are one where the keys are, and the values of each
same_groups : (gs hs : List Group) → Rises key_order (keys gs) → Rises key_order (keys hs) → keys gs ≡ keys hs → ((k : List ℕ) → values_at gs k ≡ values_at hs k) → gs ≡ hs
same_groups gs hs r s ks vs = told-all gs r ∙ ap (map (told (values_at gs))) ks ∙ told-same (values_at gs) (values_at hs) (keys hs) (λ k h. vs k) ∙ sym (told-all hs s)

with_key-swap : (a b : List ℕ) (ks : List (List ℕ)) → Rises key_order ks → with_key a (with_key b ks) ≡ with_key b (with_key a ks)
with_key-swap a b ks r =
    same_rising nat_list_cmp_total (with_key a (with_key b ks)) (with_key b (with_key a ks))
    (with_key-rises a (with_key b ks) (with_key-rises b ks r)) (with_key-rises b (with_key a ks) (with_key-rises a ks r)) (over a b) (over b a)
  where
    over : (c d x : List ℕ) → Has (with_key c (with_key d ks)) x → Has (with_key d (with_key c ks)) x
    over c d x h =
        elim (with_key-cases c (with_key d ks) x h) [
          | inl e ↦ with_key-old d (with_key c ks) x (subst (λ (q : List ℕ). Has (with_key c ks) q) e (with_key-new c ks))
          | inr more ↦ elim (with_key-cases d ks x more) [
            | inl e ↦ subst (λ (q : List ℕ). Has (with_key d (with_key c ks)) q) e (with_key-new d (with_key c ks))
            | inr old ↦ with_key-old d (with_key c ks) x (with_key-old c ks x old)
          ]
        ]

with_key-twice : (a : List ℕ) (ks : List (List ℕ)) → Rises key_order ks → with_key a (with_key a ks) ≡ with_key a ks
with_key-twice a ks r =
    same_rising nat_list_cmp_total (with_key a (with_key a ks)) (with_key a ks) (with_key-rises a (with_key a ks) (with_key-rises a ks r)) (with_key-rises a ks r)
    (λ x h. elim (with_key-cases a (with_key a ks) x h) [
      | inl e ↦ subst (λ (q : List ℕ). Has (with_key a ks) q) e (with_key-new a ks)
      | inr more ↦ more
    ])
    (λ x h. with_key-old a (with_key a ks) x h)

cond-append : (b : Bool) (xs ys zs : List Value) → cond b xs [] ++ (cond b ys [] ++ zs) ≡ cond b (xs ++ ys) [] ++ zs
cond-append true xs ys zs = sym (append_assoc xs ys zs)
cond-append false xs ys zs = refl

swap-cond : (a b : Bool) (xs ys zs : List Value) → (a ≡ true → b ≡ true → ⊥) → cond a xs [] ++ (cond b ys [] ++ zs) ≡ cond b ys [] ++ (cond a xs [] ++ zs)
swap-cond true true xs ys zs ne = absurd (ne refl refl)
swap-cond true false xs ys zs ne = refl
swap-cond false true xs ys zs ne = refl
swap-cond false false xs ys zs ne = refl

two-values : (g h : Group) (gs : List Group) (k : List ℕ) → values_at (with_group g (with_group h gs)) k ≡ values_if k g ++ (values_if k h ++ values_at gs k)
two-values g h gs k = with_group-values g (with_group h gs) k ∙ ap (λ l. values_if k g ++ l) (with_group-values h gs k)

two-keys : (g h : Group) (gs : List Group) → keys (with_group g (with_group h gs)) ≡ with_key g.key (with_key h.key (keys gs))
two-keys g h gs = with_group-keys g (with_group h gs) ∙ ap (with_key g.key) (with_group-keys h gs)

-- groups of different keys may come in either order
pub with_group-swap : (g h : Group) (gs : List Group) → (g.key ≡ h.key → ⊥) → Rises key_order (keys gs) → with_group g (with_group h gs) ≡ with_group h (with_group g gs)
with_group-swap g h gs ne r =
    same_groups (with_group g (with_group h gs)) (with_group h (with_group g gs))
    (with_group-rise g (with_group h gs) (with_group-rise h gs r)) (with_group-rise h (with_group g gs) (with_group-rise g gs r))
    (two-keys g h gs ∙ with_key-swap g.key h.key (keys gs) r ∙ sym (two-keys h g gs))
    (λ k. two-values g h gs k
    ∙ swap-cond (bytes_eq g.key k) (bytes_eq h.key k) g.values h.values (values_at gs k) (λ a b. ne (bytes_eq-is g.key k a ∙ sym (bytes_eq-is h.key k b)))
    ∙ sym (two-values h g gs k))

-- two groups of one key go in parts one
pub with_group-joined : (g h : Group) (gs : List Group) → g.key ≡ h.key → Rises key_order (keys gs) → with_group g (with_group h gs) ≡ with_group (joined g h) gs
with_group-joined g h gs e r =
    same_groups (with_group g (with_group h gs)) (with_group (joined g h) gs)
    (with_group-rise g (with_group h gs) (with_group-rise h gs r)) (with_group-rise (joined g h) gs r)
    (two-keys g h gs ∙ ap (λ k. with_key g.key (with_key k (keys gs))) (sym e) ∙ with_key-twice g.key (keys gs) r ∙ sym (with_group-keys (joined g h) gs))
    (λ k. two-values g h gs k ∙ ap (λ q. values_if k g ++ (cond (bytes_eq q k) h.values [] ++ values_at gs k)) (sym e)
    ∙ cond-append (bytes_eq g.key k) g.values h.values (values_at gs k) ∙ sym (with_group-values (joined g h) gs k))

-- a group goes through groups of other keys
pub through : (hs : List Group) (g : Group) (gs : List Group) → AllByRecursion (λ h. h.key ≡ g.key → ⊥) hs → Rises key_order (keys gs) → merged hs (with_group g gs) ≡ with_group g (merged hs gs)
through [] g gs ne r = refl
through (h ∷ hs) g gs ne r = ap (with_group h) (through hs g gs ne.1 r) ∙ with_group-swap h g (merged hs gs) ne.0 (merged-rise hs gs r)

-- a group before all others stands in front
pub in_front : (g : Group) (gs : List Group) → AllByRecursion (λ k. key_order g.key k ≡ Less) (keys gs) → with_group g gs ≡ g ∷ gs
in_front g [] all = refl
in_front g (h ∷ hs) all = ap (λ o. match_ordering o (g ∷ h ∷ hs) (joined g h ∷ hs) (h ∷ with_group g hs)) all.0
