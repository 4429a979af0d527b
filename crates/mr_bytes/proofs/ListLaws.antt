-- Lists that rise, lists without repeats, and what stands in a list.
use Rattle.std.proofs.Common.{◌≡◌, suc, ◌≤◌, Bool, true, false, cond, List, [], ◌∷◌, ◌++◌, length, map, filter, refl, ap, sym, ◌∙◌, subst, inl, inr, ◌⊎◌, arith}
use Rattle.std.specs.List.{AllByRecursion, flat_map}
use Rattle.std.specs.Cmp.{IsTotalOrder}
use Rattle.std.proofs.lemmas.Cmp.{tied_itself}
use Rattle.std.specs.declared.cmp.Ordering.{Ordering}
use Rattle.std.specs.declared.cmp.Ordering.TheVariants.{Less}
use Rattle.mr_bytes.specs.Lists.{Has, Rises, Distinct}

-- ---- what stands in a list

pub Has-all : {X : Type 0} (P : X → Type 0) (xs : List X) (x : X) → AllByRecursion P xs → Has xs x → P x
Has-all P [] x all h = absurd h
Has-all P (y ∷ ys) x all (inl e) = subst P e all.0
Has-all P (y ∷ ys) x all (inr h) = Has-all P ys x all.1 h

pub all_from_Has : {X : Type 0} (P : X → Type 0) (xs : List X) → ((x : X) → Has xs x → P x) → AllByRecursion P xs
all_from_Has P [] f = tt
all_from_Has P (x ∷ xs) f = (f x (inl refl), all_from_Has P xs (λ y h. f y (inr h)))

pub Has-append_left : {X : Type 0} (xs ys : List X) (x : X) → Has xs x → Has (xs ++ ys) x
Has-append_left [] ys x h = absurd h
Has-append_left (y ∷ xs) ys x (inl e) = inl e
Has-append_left (y ∷ xs) ys x (inr h) = inr (Has-append_left xs ys x h)

pub Has-append_right : {X : Type 0} (xs ys : List X) (x : X) → Has ys x → Has (xs ++ ys) x
Has-append_right [] ys x h = h
Has-append_right (y ∷ xs) ys x h = inr (Has-append_right xs ys x h)

pub Has-append_cases : {X : Type 0} (xs ys : List X) (x : X) → Has (xs ++ ys) x → Has xs x ⊎ Has ys x
Has-append_cases [] ys x h = inr h
Has-append_cases (y ∷ xs) ys x (inl e) = inl (inl e)
Has-append_cases (y ∷ xs) ys x (inr h) = elim (Has-append_cases xs ys x h) [ inl a ↦ inl (inr a) | inr b ↦ inr b ]

pub Has-map : {X Y : Type 0} (f : X → Y) (xs : List X) (x : X) → Has xs x → Has (map f xs) (f x)
Has-map f [] x h = absurd h
Has-map f (y ∷ xs) x (inl e) = inl (ap f e)
Has-map f (y ∷ xs) x (inr h) = inr (Has-map f xs x h)

pub Has-map_from : {X Y : Type 0} (f : X → Y) (xs : List X) (y : Y) → Has (map f xs) y → (x : X) × Has xs x × (f x ≡ y)
Has-map_from f [] y h = absurd h
Has-map_from f (x ∷ xs) y (inl e) = (x, inl refl, e)
Has-map_from f (x ∷ xs) y (inr h) = let r = Has-map_from f xs y h in (r.0, inr (r.1), r.2)

pub Has-flat_map : {X Y : Type 0} (f : X → List Y) (xs : List X) (x : X) (y : Y) → Has xs x → Has (f x) y → Has (flat_map f xs) y
Has-flat_map f [] x y h g = absurd h
Has-flat_map f (z ∷ xs) x y (inl e) g = Has-append_left (f z) (flat_map f xs) y (subst (λ w. Has (f w) y) (sym e) g)
Has-flat_map f (z ∷ xs) x y (inr h) g = Has-append_right (f z) (flat_map f xs) y (Has-flat_map f xs x y h g)

pub Has-flat_map_from : {X Y : Type 0} (f : X → List Y) (xs : List X) (y : Y) → Has (flat_map f xs) y → (x : X) × Has xs x × Has (f x) y
Has-flat_map_from f [] y h = absurd h
Has-flat_map_from f (x ∷ xs) y h =
    elim (Has-append_cases (f x) (flat_map f xs) y h) [
      | inl a ↦ (x, inl refl, a)
      | inr b ↦ (let r = Has-flat_map_from f xs y b in (r.0, inr (r.1), r.2))
    ]

pub Has-filter : {X : Type 0} (p : X → Bool) (xs : List X) (x : X) → Has xs x → p x ≡ true → Has (filter p xs) x
Has-filter p [] x h e = absurd h
Has-filter p (z ∷ xs) x (inl d) e = rw (ap p d ∙ e) (inl d)
Has-filter {X} p (z ∷ xs) x (inr h) e = by (p z) (Has-filter p xs x h e)
  where
    by : (b : Bool) → Has (filter p xs) x → Has (cond b (z ∷ filter p xs) (filter p xs)) x
    by true g = inr g
    by false g = g

pub Has-filter_from : {X : Type 0} (p : X → Bool) (xs : List X) (x : X) → Has (filter p xs) x → Has xs x × (p x ≡ true)
Has-filter_from p [] x h = absurd h
Has-filter_from {X} p (z ∷ xs) x h = by (p z) refl h (Has-filter_from p xs x)
  where
    by : (b : Bool) → p z ≡ b → Has (cond b (z ∷ filter p xs) (filter p xs)) x → (Has (filter p xs) x → Has xs x × (p x ≡ true))
        → ((z ≡ x) ⊎ Has xs x) × (p x ≡ true)
    by true is (inl e) rest = (inl e, ap p (sym e) ∙ is)
    by true is (inr g) rest = (inr ((rest g).0), (rest g).1)
    by false is g rest = (inr ((rest g).0), (rest g).1)

-- ---- lists that rise

module _ {X : Type 0} {cmp : X → X → Ordering} (o : IsTotalOrder cmp) where
  pub not_before_itself : (x y : X) → cmp x y ≡ Less → x ≡ y → ⊥
  not_before_itself x y l e = cc (tied_itself o x, l, e)

  pub not_both_before : (x y : X) → cmp x y ≡ Less → cmp y x ≡ Less → ⊥
  not_both_before x y l m = not_before_itself x x (o.trans x y x l m) refl

  pub Distinct-rises : (xs : List X) → Rises cmp xs → Distinct xs
  Distinct-rises [] r = tt
  Distinct-rises (x ∷ xs) r = (λ h. not_before_itself x x (Has-all (λ y. cmp x y ≡ Less) xs x r.0 h) refl, Distinct-rises xs r.1)

  -- two lists that rise and have the same elements are one
  pub same_rising : (xs ys : List X) → Rises cmp xs → Rises cmp ys → ((x : X) → Has xs x → Has ys x) → ((x : X) → Has ys x → Has xs x) → xs ≡ ys
  same_rising [] [] r s f g = refl
  same_rising [] (y ∷ ys) r s f g = absurd (g y (inl refl))
  same_rising (x ∷ xs) [] r s f g = absurd (f x (inl refl))
  same_rising (x ∷ xs) (y ∷ ys) r s f g =
      let head : x ≡ y = heads (f x (inl refl)) (g y (inl refl)) in
      let rest : xs ≡ ys = same_rising xs ys r.1 s.1
      (λ z h. later ys z (not_before_itself y z (subst (λ w. cmp w z ≡ Less) head (Has-all (λ w. cmp x w ≡ Less) xs z r.0 h))) (f z (inr h)))
      (λ z h. later' xs z (not_before_itself x z (subst (λ w. cmp w z ≡ Less) (sym head) (Has-all (λ w. cmp y w ≡ Less) ys z s.0 h))) (g z (inr h))) in
      cc (head, rest)
    where
      heads : (y ≡ x) ⊎ Has ys x → (x ≡ y) ⊎ Has xs y → x ≡ y
      heads (inl e) b = sym e
      heads (inr a) (inl e) = e
      heads (inr a) (inr b) = absurd (not_both_before x y (Has-all (λ w. cmp x w ≡ Less) xs y r.0 b) (Has-all (λ w. cmp y w ≡ Less) ys x s.0 a))

      later : (zs : List X) (z : X) → (y ≡ z → ⊥) → (y ≡ z) ⊎ Has zs z → Has zs z
      later zs z ne (inl e) = absurd (ne e)
      later zs z ne (inr h) = h

      later' : (zs : List X) (z : X) → (x ≡ z → ⊥) → (x ≡ z) ⊎ Has zs z → Has zs z
      later' zs z ne (inl e) = absurd (ne e)
      later' zs z ne (inr h) = h

pub Rises-filter : {X : Type 0} (cmp : X → X → Ordering) (p : X → Bool) (xs : List X) → Rises cmp xs → Rises cmp (filter p xs)
Rises-filter cmp p [] r = tt
Rises-filter {X} cmp p (x ∷ xs) r =
    by (p x)
    (all_from_Has (λ y. cmp x y ≡ Less) (filter p xs) (λ y h. Has-all (λ w. cmp x w ≡ Less) xs y r.0 ((Has-filter_from p xs y h).0)))
    (Rises-filter cmp p xs r.1)
  where
    by : (b : Bool) → AllByRecursion (λ y. cmp x y ≡ Less) (filter p xs) → Rises cmp (filter p xs) → Rises cmp (cond b (x ∷ filter p xs) (filter p xs))
    by true a s = (a, s)
    by false a s = s

-- ---- lists without repeats

pub Distinct-append : {X : Type 0} (xs ys : List X) → Distinct xs → Distinct ys → ((x : X) → Has xs x → Has ys x → ⊥) → Distinct (xs ++ ys)
Distinct-append [] ys d e apart = e
Distinct-append (x ∷ xs) ys d e apart =
    (λ h. elim (Has-append_cases xs ys x h) [ inl a ↦ d.0 a | inr b ↦ apart x (inl refl) b ], Distinct-append xs ys d.1 e (λ z a b. apart z (inr a) b))

-- the list without that element
pub without : {X : Type 0} (ys : List X) (x : X) → Has ys x → List X
without [] x h = []
without (y ∷ ys) x (inl e) = ys
without (y ∷ ys) x (inr h) = y ∷ without ys x h

pub length-without : {X : Type 0} (ys : List X) (x : X) (h : Has ys x) → suc (length (without ys x h)) ≡ length ys
unfolding without
length-without [] x h = absurd h
length-without (y ∷ ys) x (inl e) = refl
length-without (y ∷ ys) x (inr h) = ap suc (length-without ys x h)

pub in_without : {X : Type 0} (ys : List X) (x : X) (h : Has ys x) (z : X) → Has ys z → (x ≡ z) ⊎ Has (without ys x h) z
unfolding without
in_without [] x h z g = absurd g
in_without (y ∷ ys) x (inl e) z (inl d) = inl (sym e ∙ d)
in_without (y ∷ ys) x (inl e) z (inr g) = inr g
in_without (y ∷ ys) x (inr h) z (inl d) = inr (inl d)
in_without (y ∷ ys) x (inr h) z (inr g) = elim (in_without ys x h z g) [ inl a ↦ inl a | inr b ↦ inr (inr b) ]

-- elements without repeats that stand in a list no longer than they are: all of it
pub none_left_out : {X : Type 0} (xs ys : List X) → Distinct xs → ((x : X) → Has xs x → Has ys x) → length ys ≤ length xs → (y : X) → Has ys y → Has xs y
none_left_out [] [] d f le y h = h
none_left_out [] (z ∷ ys) d f le y h = absurd (omega arith)
none_left_out (x ∷ xs) ys d f le y h =
    elim (in_without ys x (f x (inl refl)) y h) [
      | inl e ↦ inl e
      | inr g ↦ inr (none_left_out xs (without ys x (f x (inl refl))) d.1
          (λ z a. elim (in_without ys x (f x (inl refl)) z (f z (inr a))) [ inl e ↦ absurd (d.0 (subst (Has xs) (sym e) a)) | inr b ↦ b ])
          (omega (arith, length-without ys x (f x (inl refl)))) y g)
    ]

-- distinct elements of a list are no more than it has
pub no_longer : {X : Type 0} (xs ys : List X) → Distinct xs → ((x : X) → Has xs x → Has ys x) → length xs ≤ length ys
no_longer [] ys d f = omega arith
no_longer (x ∷ xs) ys d f =
    let h = f x (inl refl) in
    let rest : length xs ≤ length (without ys x h) =
    no_longer xs (without ys x h) d.1
    (λ z a. elim (in_without ys x h z (f z (inr a))) [ inl e ↦ absurd (d.0 (subst (Has xs) (sym e) a)) | inr b ↦ b ]) in
    omega (arith, rest, length-without ys x h)
