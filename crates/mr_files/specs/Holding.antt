-- What stands under names.
use Rattle.std.specs.Prelude.{◌≡◌, ◌≢◌, ◌⊎◌, ◌↔◌, ℕ, ◌≤◌, List, [], ◌∷◌, length, take, drop, Option, IfSome, ⊤}

-- where the bytes are known, they are these
abbrev pub Agrees : Option (List ℕ) → List ℕ → Type 0
Agrees known bytes = IfSome known (λ xs. xs ≡ bytes)

-- and so of several, one for one
abbrev pub AllAgree : List (Option (List ℕ)) → List (List ℕ) → Type 0
AllAgree [] [] = ⊤
AllAgree (k ∷ ks) (b ∷ bs) = Agrees k b × AllAgree ks bs
AllAgree _ _ = ⊥

-- which bytes stand under which name
abbrev pub Stored : Type 1
Stored = List ℕ → List ℕ → Type 0

-- the names whose files a kind of call can't be had of
abbrev pub Faulty : Type 1
Faulty = List ℕ → Type 0

-- these bytes stand under these names, in order, one for one
abbrev pub Holding : Stored → List (List ℕ) → List (List ℕ) → Type 0
Holding holds [] [] = ⊤
Holding holds (n ∷ ns) (b ∷ bs) = holds n b × Holding holds ns bs
Holding holds _ _ = ⊥

-- what stands under any other name stands there as before
abbrev pub ChangesOnly : Stored → Stored → List ℕ → Type 0
ChangesOnly old new name = (n b : List ℕ) → n ≢ name → old n b ↔ new n b

-- these are the bytes from that one on of what stands under the name: none, where it is no longer than that
abbrev pub HoldsFrom : Stored → List ℕ → ℕ → List ℕ → Type 0
HoldsFrom holds name at bytes = (file : List ℕ) × holds name file × (bytes ≡ drop at file)

-- nothing stands under the name that didn't stand there
abbrev pub Shrinks : Stored → Stored → List ℕ → Type 0
Shrinks old new name = (b : List ℕ) → new name b → old name b

-- what stands under the name is what stood there, or a beginning of the bytes
abbrev pub Begins : Stored → Stored → List ℕ → List ℕ → Type 0
Begins old new name bytes = (b : List ℕ) → new name b → old name b ⊎ ((k : ℕ) × (k ≤ length bytes) × (b ≡ take k bytes))

-- none of these is the name
abbrev pub Differs : List ℕ → List (List ℕ) → Type 0
Differs n [] = ⊤
Differs n (m ∷ ms) = (n ≢ m) × Differs n ms

-- what stands under any name but these stands there as before
abbrev pub ChangesAmong : Stored → Stored → List (List ℕ) → Type 0
ChangesAmong old new names = (n b : List ℕ) → Differs n names → old n b ↔ new n b
