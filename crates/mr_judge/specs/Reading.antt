-- Of no public promise: outputs that readers give, one after another.
use Rattle.std.specs.Prelude.{◌≡◌, ℕ, zero, suc, ◌-◌, Bool, List, [], ◌∷◌, ◌++◌, drop, Option, Some, if◌then◌else◌}
use Rattle.mr_input.specs.Files.{nth_file}
use Rattle.mr_certform.specs.Streaming.{Agrees}
use Rattle.mr_judge.specs.From.{AgreeAll}

-- how many outputs were opened; which bytes of the open one were read and aren't passed; whether its reader told its end;
-- and what each reader is still to give, where that is known
pub record Reading : Type 0 where
  pub opened : ℕ
  pub held : List ℕ
  pub exhausted : Bool
  pub known : List (Option (List ℕ))

-- what the reader with this number is still to give; behind the last there is none
abbrev pub known_at : List (Option (List ℕ)) → ℕ → Option (List ℕ)
known_at [] p = Some []
known_at (k ∷ ks) zero = k
known_at (k ∷ ks) (suc p) = known_at ks p

-- what the reader of the open one is still to give
abbrev pub coming : Reading → Option (List ℕ)
coming r = if r.exhausted then Some [] else known_at r.known (r.opened - 1)

-- this may be left of the open one; before one is open it is the first of those to come
abbrev pub IsLeft : ℕ → Reading → List ℕ → List (List ℕ) → Type 0
IsLeft zero r rest later = rest ≡ nth_file later 0
IsLeft (suc n) r rest later = (more : List ℕ) × (rest ≡ r.held ++ more) × Agrees (coming r) more

-- this may be left of the open one, and these outputs come behind it
abbrev pub IsToCome : Reading → List ℕ → List (List ℕ) → Type 0
IsToCome r rest later = IsLeft r.opened r rest later × AgreeAll (drop r.opened r.known) later
