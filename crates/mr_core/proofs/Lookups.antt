-- What `get` of a slice says of the list that the slice holds.
use Rattle.std.proofs.Common.{◌≡◌, ℕ, ◌<◌, ◌≤◌, Bool, true, false, not, ◌&&◌, Option, Some, None, List, length, get_or, slice_get, is_some, is_none, refl, ap, sym, ◌∙◌}
use Rattle.std.proofs.lemmas.Option.{slice_get-get_or, slice_get_past, same_Some}

-- a list that is the one of the slice has there what was found
pub found : {X : Type 0} (xs ys : List X) (i : ℕ) (x : X) → xs ≡ ys → i < length xs → x ≡ get_or xs i x → slice_get ys i ≡ Some x
found xs ys i x e l g = ap (λ zs. slice_get zs i) (sym e) ∙ slice_get-get_or xs i x l ∙ ap Some (sym g)

-- and nothing where nothing was found
pub missed : {X : Type 0} (xs ys : List X) (i : ℕ) → xs ≡ ys → length xs ≤ i → slice_get ys i ≡ None
missed xs ys i e l = ap (λ zs. slice_get zs i) (sym e) ∙ slice_get_past xs i l

pub no_two : {X : Type 0} (o : Option X) (x y : X) → o ≡ Some x → o ≡ Some y → x ≡ y
no_two o x y a b = same_Some x y (sym a ∙ b)

pub and_false : (b : Bool) → (b && false) ≡ false
and_false true = refl
and_false false = refl

pub none_is : {X : Type 0} (o : Option X) (b : Bool) → is_some o ≡ not b → is_none o ≡ b
none_is None true e = refl
none_is None false e = absurd (cc e)
none_is (Some x) true e = absurd (cc e)
none_is (Some x) false e = refl
