-- A list that grew by one item.
use Rattle.std.proofs.Common.{◌≡◌, ◌++◌, ◌∙◌, Bool, true, cond, List, [], ◌∷◌, ap, sym}

pub pushed : {X : Type 0} (old new : List X) (x : X) (is_ok : Bool) → new ≡ cond is_ok (old ++ x ∷ []) old → true ≡ is_ok → new ≡ old ++ x ∷ []
pushed old new x is_ok items ok = items ∙ ap (λ b. cond b (old ++ x ∷ []) old) (sym ok)
