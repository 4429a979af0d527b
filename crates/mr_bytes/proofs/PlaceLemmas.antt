-- Places of which the first are in one file.
use Rattle.std.proofs.Common.{◌≡◌, ℕ, zero, suc, ◌+◌, ◌-◌, ◌<◌, ◌≤◌, List, [], ◌∷◌, ◌++◌, length, take, refl, ap, sym, ◌∙◌, arith}
use Rattle.std.proofs.lemmas.List.{take-append-le, append-nil, length-map}
use Rattle.std.proofs.Math.Seq.{take-append-add}
use Rattle.mr_bytes.specs.declared.columns.Place.{Place}
use Rattle.mr_bytes.specs.Places.{in_file}

abbrev place : ℕ → ℕ → Place
place file offset = record { file = file; offset = offset }

-- as many places as offsets
in-file-count : (file : ℕ) (offsets : List ℕ) → length (in_file file offsets) ≡ length offsets
in-file-count file offsets = length-map offsets (place file)

take-in-file : (file k : ℕ) (offsets : List ℕ) → in_file file (take k offsets) ≡ take k (in_file file offsets)
take-in-file file zero offsets = refl
take-in-file file (suc k) [] = refl
take-in-file file (suc k) (o ∷ offsets) = ap (λ (l : List Place). place file o ∷ l) (take-in-file file k offsets)

-- the first places, where they end among those of the first file
pub take-offsets : (count file : ℕ) (offsets fewer : List ℕ) (others : List Place) → count ≤ length offsets → fewer ≡ take count offsets
    → in_file file fewer ++ [] ≡ take count (in_file file offsets ++ others)
take-offsets count file offsets fewer others h e =
    append-nil (in_file file fewer) ∙ ap (in_file file) e ∙ take-in-file file count offsets
    ∙ sym (take-append-le count (in_file file offsets) others (omega (arith, h, in-file-count file offsets)))

-- the first places, where they end behind those
pub take-others : (count file : ℕ) (offsets : List ℕ) (others fewer : List Place) → length offsets < count → fewer ≡ take (count - length offsets) others
    → in_file file offsets ++ fewer ≡ take count (in_file file offsets ++ others)
take-others count file offsets others fewer h e =
    let split : length (in_file file offsets) + (count - length offsets) ≡ count = omega (arith, h, in-file-count file offsets) in
    ap (λ (l : List Place). in_file file offsets ++ l) e ∙ sym (take-append-add (in_file file offsets) others (count - length offsets))
    ∙ ap (λ (n : ℕ). take n (in_file file offsets ++ others)) split
