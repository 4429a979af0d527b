-- Bits that are set one by one, and numbers that find theirs unset.
use Rattle.std.proofs.Common.{◌≡◌, ℕ, ◌+◌, ◌*◌, ◌/◌, ◌%◌, ◌^◌, ◌<◌, Bool, true, false, eqb, ◌⊎◌, List, [], ◌∷◌, ◌++◌, length, get_or, take, refl, ap, sym, ◌∙◌, subst, arith, inl, inr, slice_set, slice_index_or, bit_and, bit_or, w64}
use Rattle.std.specs.Int.{bit_at}
use Rattle.std.proofs.lemmas.Bool.{eqb-true, eq-eqb, false≢true}
use Rattle.std.proofs.lemmas.List.{get_or-set_same, get_or-set_other, take_more}
use Rattle.std.proofs.lemmas.Nat.Bits.{and_pow, bit_at_or, bit_at_set_same, bit_at-lt}
use Rattle.std.proofs.lemmas.Nat.{pow_below, pow_pos}
use Rattle.mr_bytes.specs.Lists.{Distinct, Has}
use Rattle.mr_bytes.proofs.ListLaws.{Distinct-append, Has-append_cases}
use Rattle.mr_merge.specs.Distinct.{IsSet, bit_of}
use Rattle.mr_merge.specs.declared.distinct.Grid.{Grid}

-- the words with the bit set
abbrev pub with_bit : List ℕ → ℕ → List ℕ
with_bit words bit = slice_set words (bit / 64) (bit_or (slice_index_or words (bit / 64) 0) (1 * 2 ^ (bit % 64) % 18446744073709551616))

pub set-it : (words : List ℕ) (bit : ℕ) → bit / 64 < length words → bit % 64 < 64 → IsSet (with_bit words bit) bit
set-it words bit h k =
    subst (λ (w : ℕ). bit_at w (bit % 64) ≡ 1) (sym (get_or-set_same words (bit / 64) (bit_or (get_or words (bit / 64) 0) (1 * 2 ^ (bit % 64) % 18446744073709551616)) 0 h))
    (bit_at_set_same w64 (get_or words (bit / 64) 0) (bit % 64) k)

or-keeps : (a b i : ℕ) → bit_at a i ≡ 1 → bit_at (bit_or a b) i ≡ 1
or-keeps a b i h =
    let e = bit_at_or a b i in
    let l = bit_at-lt b i in
    grind (arith, e, l, h)

pub set-keeps : (words : List ℕ) (bit other : ℕ) → bit / 64 < length words → IsSet words other → IsSet (with_bit words bit) other
set-keeps words bit other h s = by (eqb (other / 64) (bit / 64)) refl
  where
    mask : ℕ
    mask = 1 * 2 ^ (bit % 64) % 18446744073709551616

    word : ℕ
    word = bit_or (get_or words (bit / 64) 0) mask

    by : (b : Bool) → eqb (other / 64) (bit / 64) ≡ b → bit_at (get_or (slice_set words (bit / 64) word) (other / 64) 0) (other % 64) ≡ 1
    by true e =
        let same : other / 64 ≡ bit / 64 = eqb-true (other / 64) (bit / 64) e in
        subst (λ (w : ℕ). bit_at w (other % 64) ≡ 1) (sym (ap (λ (i : ℕ). get_or (slice_set words (bit / 64) word) i 0) same ∙ get_or-set_same words (bit / 64) word 0 h))
        (or-keeps (get_or words (bit / 64) 0) mask (other % 64) (subst (λ (i : ℕ). bit_at (get_or words i 0) (other % 64) ≡ 1) same s))
    by false e =
        subst (λ (w : ℕ). bit_at w (other % 64) ≡ 1) (sym (get_or-set_other words (bit / 64) (other / 64) word 0 (λ d. false≢true (sym e ∙ eq-eqb (other / 64) (bit / 64) d)))) s

mask-is : (k : ℕ) → k < 64 → 1 * 2 ^ k % 18446744073709551616 ≡ 2 ^ k
mask-is k h = let below : 2 ^ k < 2 ^ 64 = pow_below k 64 h in omega (arith, below)

pub set-fresh : (words : List ℕ) (bit : ℕ) → bit % 64 < 64 → bit_and (slice_index_or words (bit / 64) 0) (1 * 2 ^ (bit % 64) % 18446744073709551616) ≡ 0 → IsSet words bit → ⊥
set-fresh words bit k e s =
    let word = get_or words (bit / 64) 0 in
    let is : bit_at word (bit % 64) * 2 ^ (bit % 64) ≡ 0 = sym (and_pow word (bit % 64)) ∙ ap (bit_and word) (sym (mask-is (bit % 64) k)) ∙ e in
    let one : 1 * 2 ^ (bit % 64) ≡ 0 = ap (λ (n : ℕ). n * 2 ^ (bit % 64)) (sym s) ∙ is in
    let more : 0 < 2 ^ (bit % 64) = pow_pos (bit % 64) in
    omega (arith, one, more)

-- those in front differ, and each one's bit is set
pub record AreSet (names : List ℕ) (grid : Grid) (words : List ℕ) (i : ℕ) : Type 0 where
  pub differ : Distinct (take i names)
  pub set : (n : ℕ) → Has (take i names) n → IsSet words (bit_of grid n)

pub set-more : (names : List ℕ) (grid : Grid) (words new : List ℕ) (i : ℕ) → i < length names → AreSet names grid words i
    → IsSet new (bit_of grid (get_or names i 0)) → (IsSet words (bit_of grid (get_or names i 0)) → ⊥) → ((b : ℕ) → IsSet words b → IsSet new b)
    → AreSet names grid new (i + 1)
set-more names grid words new i h a set fresh keeps =
    let more : take (i + 1) names ≡ take i names ++ get_or names i 0 ∷ [] = take_more names i 0 h in
    record {
      differ = subst Distinct (sym more) (Distinct-append (take i names) (get_or names i 0 ∷ []) a.differ ((λ x. x), tt) (λ n there here. apart n there here));
      set = λ n there. by n (Has-append_cases (take i names) (get_or names i 0 ∷ []) n (subst (λ (l : List ℕ). Has l n) more there));
    }
  where
    apart : (n : ℕ) → Has (take i names) n → Has (get_or names i 0 ∷ []) n → ⊥
    apart n there (inl e) = fresh (subst (λ (m : ℕ). IsSet words (bit_of grid m)) (sym e) (a.set n there))
    apart n there (inr none) = none

    by : (n : ℕ) → Has (take i names) n ⊎ Has (get_or names i 0 ∷ []) n → IsSet new (bit_of grid n)
    by n (inl there) = keeps (bit_of grid n) (a.set n there)
    by n (inr (inl e)) = subst (λ (m : ℕ). IsSet new (bit_of grid m)) e set
    by n (inr (inr none)) = absurd none
