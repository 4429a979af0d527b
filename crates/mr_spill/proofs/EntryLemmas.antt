-- Values with their names: one more, and the first of them.
use Rattle.std.proofs.Common.{◌≡◌, ℕ, zero, suc, ◌++◌, List, [], ◌∷◌, length, map, take, refl, ap, arith}
use Rattle.std.specs.List.{zip}
use Rattle.std.proofs.lemmas.Slice.Zip.{length-zip}

pub zip-push : {X Y : Type 0} (xs : List X) (ys : List Y) (x : X) (y : Y) → length xs ≡ length ys → zip (xs ++ x ∷ []) (ys ++ y ∷ []) ≡ zip xs ys ++ (x, y) ∷ []
zip-push [] [] x y h = refl
zip-push [] (w ∷ ys) x y h = absurd (omega (arith, h))
zip-push (v ∷ xs) [] x y h = absurd (omega (arith, h))
zip-push (v ∷ xs) (w ∷ ys) x y h = ap (λ l. (v, w) ∷ l) (zip-push xs ys x y (omega (arith, h)))

pub zip-length : {X Y : Type 0} (xs : List X) (ys : List Y) → length xs ≡ length ys → length (zip xs ys) ≡ length ys
zip-length xs ys h = omega (arith, length-zip xs ys, h)

pub zip-take : {X Y : Type 0} (n : ℕ) (xs : List X) (ys : List Y) → zip (take n xs) (take n ys) ≡ take n (zip xs ys)
zip-take zero xs ys = refl
zip-take (suc n) [] ys = refl
zip-take (suc n) (x ∷ xs) [] = refl
zip-take (suc n) (x ∷ xs) (y ∷ ys) = ap (λ l. (x, y) ∷ l) (zip-take n xs ys)

pub zip-seconds : {X Y : Type 0} (xs : List X) (ys : List Y) → length xs ≡ length ys → map (λ (e : X × Y). e.1) (zip xs ys) ≡ ys
zip-seconds [] [] h = refl
zip-seconds [] (y ∷ ys) h = absurd (omega (arith, h))
zip-seconds (x ∷ xs) [] h = refl
zip-seconds (x ∷ xs) (y ∷ ys) h = ap (λ l. y ∷ l) (zip-seconds xs ys (omega (arith, h)))
