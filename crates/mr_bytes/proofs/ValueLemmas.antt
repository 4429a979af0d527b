-- Values of which the first so many are One, and then come places.
use Rattle.std.proofs.Common.{◌≡◌, ℕ, zero, suc, ◌+◌, ◌-◌, ◌<◌, ◌≤◌, List, [], ◌∷◌, ◌++◌, length, get_or, take, drop, map, refl, ap, sym, ◌∙◌, arith, replicate, subst}
use Rattle.std.proofs.lemmas.List.{take-append-le, take-replicate, append-nil, length-replicate, length-map, length-append}
use Rattle.std.proofs.Math.Seq.{take-append-add}
use Rattle.mr_bytes.specs.declared.Value.{Value}
use Rattle.mr_bytes.specs.declared.Value.TheVariants.{One, At}
use Rattle.mr_bytes.specs.declared.columns.Place.{Place}
use Rattle.mr_bytes.specs.Values.{column, at, AreOnes, BeginsOtherwise}

-- a list that doesn't begin with One, behind so many of them: where all are One it is empty
pub none-stored : (ones : ℕ) (behind : List Value) → BeginsOtherwise behind → AreOnes (replicate ones One ++ behind) → behind ≡ []
none-stored zero [] h e = refl
none-stored zero (One ∷ behind) h e = absurd h
none-stored zero (At file offset ∷ behind) h e = absurd (let no : At file offset ≡ One = ap (λ (l : List Value). get_or l 0 One) e in cc)
none-stored (suc ones) behind h e = none-stored ones behind h (ap (λ (l : List Value). drop 1 l) e)

-- as many values as places
pub place-count : (places : List Place) → length (map at places) ≡ length places
place-count places = length-map places at

take-places : (k : ℕ) (places : List Place) → map at (take k places) ≡ take k (map at places)
take-places zero places = refl
take-places (suc k) [] = refl
take-places (suc k) (p ∷ places) = ap (λ (l : List Value). at p ∷ l) (take-places k places)

-- the first values, where all of them are among the ones
pub take-ones : (count ones : ℕ) (places : List Place) (rest : List Value) → count ≤ ones → column count [] [] ≡ take count (column ones places rest)
take-ones count ones places rest h =
    append-nil (replicate count One) ∙ sym (take-replicate count ones One h)
    ∙ sym (take-append-le count (replicate ones One) (map at places ++ rest) (omega (arith, h, length-replicate ones One)))

-- the first values, where all of the ones are among them
behind-ones : (count ones : ℕ) (behind fewer : List Value) → ones < count → fewer ≡ take (count - ones) behind
    → replicate ones One ++ fewer ≡ take count (replicate ones One ++ behind)
behind-ones count ones behind fewer h e =
    let split : length (replicate ones One) + (count - ones) ≡ count = omega (arith, h, length-replicate ones One) in
    ap (λ (l : List Value). replicate ones One ++ l) e ∙ sym (take-append-add (replicate ones One) behind (count - ones))
    ∙ ap (λ (n : ℕ). take n (replicate ones One ++ behind)) split

-- the first values, where they end among the places
pub take-near : (count ones : ℕ) (places fewer : List Place) (rest : List Value) → ones < count → count - ones ≤ length places → fewer ≡ take (count - ones) places
    → column ones fewer [] ≡ take count (column ones places rest)
take-near count ones places fewer rest h within e =
    behind-ones count ones (map at places ++ rest) (map at fewer ++ []) h
    (append-nil (map at fewer) ∙ ap (map at) e ∙ take-places (count - ones) places
    ∙ sym (take-append-le (count - ones) (map at places) rest (omega (arith, within, place-count places))))

-- the first values, where they end behind the places
pub take-rest : (count ones : ℕ) (places : List Place) (rest fewer : List Value) → ones < count → length places < count - ones → fewer ≡ take (count - ones - length places) rest
    → column ones places fewer ≡ take count (column ones places rest)
take-rest count ones places rest fewer h past e =
    let split : length (map at places) + (count - ones - length places) ≡ count - ones = omega (arith, past, place-count places) in
    behind-ones count ones (map at places ++ rest) (map at places ++ fewer) h
    (ap (λ (l : List Value). map at places ++ l) e ∙ sym (take-append-add (map at places) rest (count - ones - length places))
    ∙ ap (λ (n : ℕ). take n (map at places ++ rest)) split)

first-otherwise : (n : ℕ) (rest : List Value) → BeginsOtherwise rest → BeginsOtherwise (take n rest)
first-otherwise zero rest is = record {}
first-otherwise (suc n) [] is = record {}
first-otherwise (suc n) (One ∷ rest) is = absurd is
first-otherwise (suc n) (At file offset ∷ rest) is = record {}

-- fewer values behind the places begin as all did
pub still-otherwise : (n : ℕ) (places : List Place) (rest fewer : List Value) → fewer ≡ take n rest → BeginsOtherwise (map at places ++ rest)
    → BeginsOtherwise (map at places ++ fewer)
still-otherwise n [] rest fewer e is = subst BeginsOtherwise (sym e) (first-otherwise n rest is)
still-otherwise n (p ∷ places) rest fewer e is = record {}

-- where all are One no place is stored
pub no-places : (ones : ℕ) (places : List Place) (rest : List Value) → BeginsOtherwise (map at places ++ rest) → AreOnes (column ones places rest)
    → length places + length rest ≡ 0
no-places ones places rest h e =
    let none : length (map at places ++ rest) ≡ 0 = ap length (none-stored ones (map at places ++ rest) h e) in
    omega (arith, none, length-append (map at places) rest, place-count places)
