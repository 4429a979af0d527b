-- An option that was chosen by a test.
use Rattle.std.proofs.Common.{◌≡◌, Option, Some, None, refl, Bool, true, false, cond}

-- it passed, and what was found is its own
pub chosen : {A : Type 0} (b : Bool) (x y : A) → cond b (Some x) None ≡ Some y → (b ≡ true) × (x ≡ y)
chosen true x y e = (refl, cc e)
chosen false x y e = absurd (cc e)

-- it didn't, and what was found is the other's
pub not_chosen : {A : Type 0} (b : Bool) (o : Option A) (y : A) → cond b None o ≡ Some y → (b ≡ false) × (o ≡ Some y)
not_chosen true o y e = absurd (cc e)
not_chosen false o y e = (refl, e)
