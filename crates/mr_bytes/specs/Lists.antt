-- Words on lists that the definitions of several crates share.
use Rattle.std.specs.Prelude.{◌≡◌, ◌↔◌, List, [], ◌∷◌, ◌⊎◌}
use Rattle.std.specs.List.{AllByRecursion}
use Rattle.std.specs.declared.cmp.Ordering.{Ordering}
use Rattle.std.specs.declared.cmp.Ordering.TheVariants.{Less, Equal}
use Rattle.std.specs.Ordering.{match_ordering}
use Rattle.std.specs.Cmp.{IsTotalOrder}

-- x is one of the list
abbrev pub Has : {X : Type 0} → List X → X → Type 0
Has [] x = ⊥
Has (y ∷ ys) x = (y ≡ x) ⊎ Has ys x

-- each is before all those after it
abbrev pub Rises : {X : Type 0} → (X → X → Ordering) → List X → Type 0
Rises cmp [] = Unit {0}
Rises cmp (x ∷ xs) = AllByRecursion (λ y. cmp x y ≡ Less) xs × Rises cmp xs

-- no element stands in the list twice
abbrev pub Distinct : {X : Type 0} → List X → Type 0
Distinct [] = Unit {0}
Distinct (x ∷ xs) = (Has xs x → ⊥) × Distinct xs

-- an element put at its place among rising ones, where none is equal to it
abbrev pub placed : {X : Type 0} → (X → X → Ordering) → X → List X → List X
placed cmp x [] = x ∷ []
placed cmp x (y ∷ ys) = match_ordering (cmp x y) (x ∷ y ∷ ys) (y ∷ ys) (y ∷ placed cmp x ys)

-- the elements, rising; of those that are equal, one
abbrev pub sorted : {X : Type 0} → (X → X → Ordering) → List X → List X
sorted cmp [] = []
sorted cmp (x ∷ xs) = placed cmp x (sorted cmp xs)

-- elements of the list that are equal are one
abbrev pub HasNoTies : {X : Type 0} → (X → X → Ordering) → List X → Type 0
HasNoTies {X} cmp xs = (x y : X) → Has xs x → Has xs y → cmp x y ≡ Equal → y ≡ x

-- two lists that rise and have the same elements are one
abbrev pub RisingIsOne : Type 0 → Type 0
RisingIsOne X = (cmp : X → X → Ordering) (xs ys : List X) → IsTotalOrder cmp → Rises cmp xs → Rises cmp ys
    → ((x : X) → Has xs x ↔ Has ys x) → xs ≡ ys

-- the sorted list rises
abbrev pub SortedRises : Type 0 → Type 0
SortedRises X = (cmp : X → X → Ordering) (xs : List X) → IsTotalOrder cmp → Rises cmp (sorted cmp xs)

-- where there are no ties, it has just the elements of the list
abbrev pub SortedHas : Type 0 → Type 0
SortedHas X = (cmp : X → X → Ordering) (xs : List X) → HasNoTies cmp xs → (x : X) → Has (sorted cmp xs) x ↔ Has xs x
