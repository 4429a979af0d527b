-- What stands in a list, and a number placed in a list that rises.
use Rattle.std.proofs.Common.{◌≡◌, ℕ, List, [], ◌∷◌, refl, ap, ◌∙◌, subst, inl, inr, ◌⊎◌}
use Rattle.std.specs.List.{AllByRecursion}
use Rattle.std.specs.Ordering.{ordering_reverse, nat_cmp}
use Rattle.std.proofs.lemmas.Cmp.{nat_cmp_total}
use Rattle.std.specs.declared.cmp.Ordering.{Ordering}
use Rattle.std.specs.declared.cmp.Ordering.TheVariants.{Less, Equal, Greater}
use Rattle.mr_bytes.specs.Lists.{Has, Rises}
use Rattle.mr_core.specs.Master.{by_order, with_number}

pub Has-all : {X : Type 0} (P : X → Type 0) (xs : List X) (x : X) → AllByRecursion P xs → Has xs x → P x
Has-all P [] x all h = absurd h
Has-all P (y ∷ ys) x all (inl e) = subst P e all.0
Has-all P (y ∷ ys) x all (inr h) = Has-all P ys x all.1 h

pub all_from_Has : {X : Type 0} (P : X → Type 0) (xs : List X) → ((x : X) → Has xs x → P x) → AllByRecursion P xs
all_from_Has P [] f = tt
all_from_Has P (x ∷ xs) f = (f x (inl refl), all_from_Has P xs (λ y h. f y (inr h)))

pub placed-cases : (x : ℕ) (ys : List ℕ) (z : ℕ) → Has (with_number x ys) z → (x ≡ z) ⊎ Has ys z
placed-cases x [] z (inl e) = inl e
placed-cases x [] z (inr h) = absurd h
placed-cases x (y ∷ ys) z h = by (nat_cmp x y) h (placed-cases x ys z)
  where
    by : (o : Ordering) → Has (by_order o (x ∷ y ∷ ys) (y ∷ ys) (y ∷ with_number x ys)) z → (Has (with_number x ys) z → (x ≡ z) ⊎ Has ys z) → (x ≡ z) ⊎ ((y ≡ z) ⊎ Has ys z)
    by Less h rest = h
    by Equal h rest = inr h
    by Greater (inl e) rest = inr (inl e)
    by Greater (inr h) rest = elim (rest h) [ inl a ↦ inl a | inr b ↦ inr (inr b) ]

pub placed-rises : (x : ℕ) (ys : List ℕ) → Rises nat_cmp ys → Rises nat_cmp (with_number x ys)
placed-rises x [] r = (tt, tt)
placed-rises x (y ∷ ys) r = by (nat_cmp x y) refl (placed-rises x ys r.1)
  where
    by : (c : Ordering) → nat_cmp x y ≡ c → Rises nat_cmp (with_number x ys) → Rises nat_cmp (by_order c (x ∷ y ∷ ys) (y ∷ ys) (y ∷ with_number x ys))
    by Less is rest = ((is, all_from_Has (λ z. nat_cmp x z ≡ Less) ys (λ z h. nat_cmp_total.trans x y z is (Has-all (λ w. nat_cmp y w ≡ Less) ys z r.0 h))), r)
    by Equal is rest = r
    by Greater is rest = (all_from_Has (λ z. nat_cmp y z ≡ Less) (with_number x ys) (λ z h. elim (placed-cases x ys z h) [ inl e ↦ subst (λ w. nat_cmp y w ≡ Less) e (nat_cmp_total.antisymm y x ∙ ap ordering_reverse is) | inr g ↦ Has-all (λ w. nat_cmp y w ≡ Less) ys z r.0 g ]), rest)
