-- Numbers of keys, with one more.
use Rattle.std.proofs.Common.{◌≡◌, ℕ, ◌<◌, ◌≤◌, ◌⊎◌, inl, inr, List, [], ◌∷◌, ◌++◌, length, map, refl, sym, ◌∙◌, ap, arith, All, length-append}
use Rattle.std.proofs.lemmas.Bool.{cases_lt}
use Rattle.std.proofs.lemmas.List.{map-append}
use Rattle.std.proofs.lemmas.List.Elements.{All-head, All-tail, All-push}
use Rattle.mr_bytes.proofs.ListLaws.{Has-append_left, Has-append_right}
use Rattle.mr_group.specs.Column.{AreNumbers, keyed}
use Rattle.mr_group.specs.Interner.{IsKeyAt, key_at}
use Rattle.mr_group.proofs.KeyLemmas.{Grew, grew-stay, grew-count, grew-last}

-- the same numbers stand for the same keys where those stay
keys-stay : (ks ls : List (List ℕ)) (n : ℕ) (is : List ℕ) → All (λ i. i < n) is → ((j : ℕ) → j < n → key_at ls j ≡ key_at ks j)
    → map (key_at ls) is ≡ map (key_at ks) is
keys-stay ks ls n [] all same = refl
keys-stay ks ls n (i ∷ is) all same =
    ap (λ (k : List ℕ). k ∷ map (key_at ls) is) (same i (All-head (λ j. j < n) i is all))
    ∙ ap (λ l. key_at ks i ∷ l) (keys-stay ks ls n is (All-tail (λ j. j < n) i is all) same)

weaker : (n m : ℕ) (is : List ℕ) → n ≤ m → All (λ j. j < n) is → All (λ j. j < m) is
weaker n m is h all = λ k d less. omega (arith, all k d less, h)

-- the keys of pairs, with that of one more
pub keyed-more : (ks ls : List (List ℕ)) (is : List ℕ) (key : List ℕ) (n : ℕ) → AreNumbers ks is → Grew ks ls key → IsKeyAt ls n key
    → keyed ls (is ++ n ∷ []) ≡ keyed ks is ++ key ∷ []
keyed-more ks ls is key n old grew found =
    map-append (key_at ls) is (n ∷ [])
    ∙ ap (λ (l : List (List ℕ)). l ++ key_at ls n ∷ []) (keys-stay ks ls (length ks) is old.inside (grew-stay ks ls key grew))
    ∙ ap (λ (k : List ℕ). keyed ks is ++ k ∷ []) found.1

pub numbers-more : (ks ls : List (List ℕ)) (is : List ℕ) (key : List ℕ) (n : ℕ) → AreNumbers ks is → Grew ks ls key → (ls ≡ ks) ⊎ (n ≡ length ks)
    → IsKeyAt ls n key → AreNumbers ls (is ++ n ∷ [])
numbers-more ks ls is key n old grew last found =
    let counts = grew-count ks ls key grew in
    record {
      inside = All-push (λ j. j < length ls) is n (weaker (length ks) (length ls) is counts.0 old.inside) found.0;
      used = λ i h. elim (cases_lt i (length ks)) [
        | inl there ↦ Has-append_left is (n ∷ []) i (old.used i there)
        | inr new ↦ Has-append_right is (n ∷ []) i (inl (sym (grew-last ks ls key n grew last i h new)))
      ];
      few = omega (arith, counts.1, old.few, length-append is (n ∷ []));
    }

-- a number that was there once more
pub numbers-again : (ks : List (List ℕ)) (is : List ℕ) (n : ℕ) → AreNumbers ks is → n < length ks → AreNumbers ks (is ++ n ∷ [])
numbers-again ks is n old within = record {
  inside = All-push (λ j. j < length ks) is n old.inside within;
  used = λ i h. Has-append_left is (n ∷ []) i (old.used i h);
  few = omega (arith, old.few, length-append is (n ∷ []));
}
