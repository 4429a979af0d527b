-- A list cut by counts.
use Rattle.std.proofs.Common.{◌≡◌, ℕ, List, [], ◌∷◌, ◌++◌, length, take, drop, map, refl, ap, ◌∙◌, arith}
use Rattle.std.specs.List.{flat_map}
use Rattle.std.proofs.lemmas.List.{length-take, length-drop, take-append-drop}
use Rattle.mr_certform.specs.Flat.{total, chunks}

more_left : {X : Type 0} (c : ℕ) (cs : List ℕ) (xs : List X) → total (c ∷ cs) ≡ length xs → total cs ≡ length (drop c xs)
more_left c cs xs e = omega (arith, e, length-drop c xs)

pub pieces_sized : {X : Type 0} (cs : List ℕ) (xs : List X) → total cs ≡ length xs → map length (chunks cs xs) ≡ cs
pieces_sized [] xs e = refl
pieces_sized (c ∷ cs) xs e =
    let size : length (take c xs) ≡ c = omega (arith, e, length-take c xs) in
    ap (λ w. w ∷ map length (chunks cs (drop c xs))) size ∙ ap (λ w. c ∷ w) (pieces_sized cs (drop c xs) (more_left c cs xs e))

pub pieces_joined : {X : Type 0} (cs : List ℕ) (xs : List X) → total cs ≡ length xs → flat_map (λ (piece : List X). piece) (chunks cs xs) ≡ xs
pieces_joined [] [] e = refl
pieces_joined [] (x ∷ xs) e = absurd (cc e)
pieces_joined (c ∷ cs) xs e = ap (λ w. take c xs ++ w) (pieces_joined cs (drop c xs) (more_left c cs xs e)) ∙ take-append-drop c xs
