-- A list changed at one place, and written through.
use Rattle.std.proofs.Common.{◌≡◌, ℕ, zero, suc, ◌<◌, ◌≤◌, ◌+◌, Some, None, Option, Bool, true, false, List, [], ◌∷◌, ◌++◌, length, slice_get, slice_index_or, map, take, drop, refl, ap, sym, ◌∙◌, subst, arith}
use Rattle.std.specs.Prelude.{slice_set}
use Rattle.mr_core.specs.Index.{IsLonger}
use Rattle.mr_core.specs.Master.{Attempt, update_at, only_live}

pub set_is_update : {X : Type 0} (xs : List X) (i : ℕ) (x : X) → slice_set xs i x ≡ update_at (λ y. x) i xs
set_is_update [] i x = refl
set_is_update (y ∷ ys) zero x = refl
set_is_update (y ∷ ys) (suc i) x = ap (λ zs. y ∷ zs) (set_is_update ys i x)

pub update_past : {X : Type 0} (f : X → X) (xs : List X) (i : ℕ) → length xs ≤ i → update_at f i xs ≡ xs
update_past f [] i h = refl
update_past f (y ∷ ys) zero h = absurd (omega arith)
update_past f (y ∷ ys) (suc i) h = ap (λ zs. y ∷ zs) (update_past f ys i (omega arith))

-- where the new element is that of the old one
pub update_is_set : {X : Type 0} (f : X → X) (xs : List X) (i : ℕ) (d x : X) → i < length xs → x ≡ f (slice_index_or xs i d) → slice_set xs i x ≡ update_at f i xs
update_is_set f [] i d x h e = absurd (omega arith)
update_is_set f (y ∷ ys) zero d x h e = ap (λ z. z ∷ ys) e
update_is_set f (y ∷ ys) (suc i) d x h e = ap (λ zs. y ∷ zs) (update_is_set f ys i d x (omega arith) e)

-- one more element of a list that is changed from the front
pub map_one_more : {X : Type 0} (f : X → X) (xs ys : List X) (i : ℕ) (d x : X) → i < length xs → ys ≡ map f (take i xs) ++ drop i xs → x ≡ f (slice_index_or ys i d)
    → slice_set ys i x ≡ map f (take (i + 1) xs) ++ drop (i + 1) xs
map_one_more {X = X} f xs ys i d x h is e =
    let next : i + 1 ≡ suc i = omega arith in
    subst (λ (n : ℕ). slice_set ys i x ≡ map f (take n xs) ++ drop n xs) (sym next)
    (subst (λ (w : List X). x ≡ f (slice_index_or w i d) → slice_set w i x ≡ map f (take (suc i) xs) ++ drop (suc i) xs) (sym is) (go f xs i d x h) e)
  where
    go : {X : Type 0} (f : X → X) (xs : List X) (i : ℕ) (d x : X) → i < length xs → x ≡ f (slice_index_or (map f (take i xs) ++ drop i xs) i d) → slice_set (map f (take i xs) ++ drop i xs) i x ≡ map f (take (suc i) xs) ++ drop (suc i) xs
    go f [] i d x h e = absurd (omega arith)
    go f (y ∷ ys) zero d x h e = ap (λ z. z ∷ ys) e
    go f (y ∷ ys) (suc i) d x h e = ap (λ zs. f y ∷ zs) (go f ys i d x (omega arith) e)

pub map_none_yet : {X : Type 0} (f : X → X) (xs : List X) → xs ≡ map f (take 0 xs) ++ drop 0 xs
map_none_yet f xs = refl

pub map_all : {X : Type 0} (f : X → X) (xs ys : List X) (i : ℕ) → length xs ≤ i → ys ≡ map f (take i xs) ++ drop i xs → ys ≡ map f xs
map_all f xs ys i h is = is ∙ all f xs i h
  where
    all : {X : Type 0} (f : X → X) (xs : List X) (i : ℕ) → length xs ≤ i → map f (take i xs) ++ drop i xs ≡ map f xs
    all f [] zero h = refl
    all f [] (suc i) h = refl
    all f (x ∷ xs) zero h = absurd (omega arith)
    all f (x ∷ xs) (suc i) h = ap (λ zs. f x ∷ zs) (all f xs i (omega arith))

-- the element at a place, in two ways
pub get_at : {X : Type 0} (xs : List X) (i : ℕ) (x d : X) → slice_get xs i ≡ Some x → (i < length xs) × (slice_index_or xs i d ≡ x)
get_at [] i x d e = absurd (cc e)
get_at (y ∷ ys) zero x d e = let same : y ≡ x = cc e in (omega arith, same)
get_at (y ∷ ys) (suc i) x d e = let r = get_at ys i x d e in (omega (arith, r.0), r.1)

pub live_there : (x : Option Attempt) (at : Attempt) → only_live x ≡ Some at → x ≡ Some at
live_there None at e = absurd (cc e)
live_there (Some a) at e = by a.live refl e
  where
    by : (b : Bool) → a.live ≡ b → (let c : Option Attempt = Rattle.std.proofs.Common.cond b (Some a) None in c) ≡ Some at → Some a ≡ Some at
    by true l e = e
    by false l e = absurd (cc e)

pub set_same : {X : Type 0} (xs : List X) (i : ℕ) (d x : X) → i < length xs → x ≡ slice_index_or xs i d → slice_set xs i x ≡ xs
set_same [] i d x h e = refl
set_same (y ∷ ys) zero d x h e = ap (λ z. z ∷ ys) e
set_same (y ∷ ys) (suc i) d x h e = ap (λ zs. y ∷ zs) (set_same ys i d x (omega arith) e)

-- ---- a list made longer at its place

pub longer_set : (xs : List (List ℕ)) (i n : ℕ) (l : List ℕ) → IsLonger (Some l) (slice_get xs i) n → slice_set xs i l ≡ update_at (λ f. f ++ n ∷ []) i xs
longer_set [] i n l h = refl
longer_set (x ∷ xs) zero n l h = let same : x ≡ h.0 = cc h.1 in ap (λ (z : List ℕ). z ∷ xs) (h.2 ∙ ap (λ (k : List ℕ). k ++ n ∷ []) (sym same))
longer_set (x ∷ xs) (suc i) n l h = ap (λ zs. x ∷ zs) (longer_set xs i n l h)

pub longer_none : (xs : List (List ℕ)) (i n : ℕ) → slice_get xs i ≡ None → xs ≡ update_at (λ f. f ++ n ∷ []) i xs
longer_none [] i n h = refl
longer_none (x ∷ xs) zero n h = absurd (cc h)
longer_none (x ∷ xs) (suc i) n h = ap (λ zs. x ∷ zs) (longer_none xs i n h)

pub longer_past : (xs : List (List ℕ)) (i n : ℕ) → length xs ≤ i → xs ≡ update_at (λ f. f ++ n ∷ []) i xs
longer_past xs i n h = sym (update_past (λ f. f ++ n ∷ []) xs i h)
