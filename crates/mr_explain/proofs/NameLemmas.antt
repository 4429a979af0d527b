-- Records that a list names.
use Rattle.std.proofs.Common.{◌≡◌, Bool, true, false, cond, ◌||◌, List, [], ◌∷◌, All, None, Some, refl, sym, subst}
use Rattle.std.proofs.lemmas.Bool.{false≢true}
use Rattle.std.proofs.lemmas.List.Elements.{All-head, All-tail}
use Rattle.std.specs.List.{find, list_any}

pub none-found : {X : Type 0} (p : X → Bool) (xs : List X) → list_any p xs ≡ false → find p xs ≡ None
none-found p [] e = refl
none-found {X} p (x ∷ xs) e = by (p x) e (none-found p xs)
  where
    by : (t : Bool) → (t || list_any p xs) ≡ false → (list_any p xs ≡ false → find p xs ≡ None) → cond t (Some x) (find p xs) ≡ None
    by true h later = absurd (false≢true (sym h))
    by false h later = later h

one : {X : Type 0} (a b : X) → Some a ≡ Some b → a ≡ b
one a b h = cc

pub found-holds : {X : Type 0} (p : X → Bool) (P : X → Type 0) (xs : List X) (x : X) → find p xs ≡ Some x → All P xs → P x
found-holds {X} p P [] x e all = absurd (let no : Some x ≡ None = sym e in cc)
found-holds {X} p P (y ∷ ys) x e all = by (p y) e (λ later. found-holds p P ys x later (All-tail P y ys all))
  where
    by : (t : Bool) → cond t (Some y) (find p ys) ≡ Some x → (find p ys ≡ Some x → P x) → P x
    by true h later = subst P (one y x h) (All-head P y ys all)
    by false h later = later h
