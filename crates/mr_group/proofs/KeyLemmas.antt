-- What a front has of its key, and keys to which one more may have come.
use Rattle.std.proofs.Common.{◌≡◌, ℕ, ◌+◌, ◌-◌, ◌<◌, ◌≤◌, ◌⊎◌, inl, inr, List, [], ◌∷◌, ◌++◌, length, take, drop, ◌∙◌, ap, arith, length-append}
use Rattle.std.proofs.lemmas.List.{get_or_append_left, take-append-drop, take-take}
use Rattle.mr_group.specs.Interner.{key_at}

-- eight bytes at either end, or four, are a key that they cover
pub both-ends : (w : ℕ) (key first last : List ℕ) → w ≤ length key → length key ≤ w + w → first ≡ take w key → last ≡ drop (length key - w) key
    → take (length key - w) first ++ last ≡ key
both-ends w key first last enough few first_is last_is =
    ap (λ l. take (length key - w) l ++ last) first_is
    ∙ ap (λ l. l ++ last) (take-take (length key - w) w key (omega (arith, few)))
    ∙ ap (λ l. take (length key - w) key ++ l) last_is
    ∙ take-append-drop (length key - w) key

-- ---- keys to which one more may have come

abbrev pub Grew : List (List ℕ) → List (List ℕ) → List ℕ → Type 0
Grew ks ls key = (ls ≡ ks) ⊎ (ls ≡ ks ++ key ∷ [])

pub grew-stay : (ks ls : List (List ℕ)) (key : List ℕ) → Grew ks ls key → (j : ℕ) → j < length ks → key_at ls j ≡ key_at ks j
grew-stay ks ls key (inl e) j h = ap (λ l. key_at l j) e
grew-stay ks ls key (inr e) j h = ap (λ l. key_at l j) e ∙ get_or_append_left ks (key ∷ []) [] j h

pub grew-count : (ks ls : List (List ℕ)) (key : List ℕ) → Grew ks ls key → (length ks ≤ length ls) × (length ls ≤ length ks + 1)
grew-count ks ls key (inl e) = (omega (arith, ap length e), omega (arith, ap length e))
grew-count ks ls key (inr e) = (omega (arith, ap length e, length-append ks (key ∷ [])), omega (arith, ap length e, length-append ks (key ∷ [])))

-- the number of a key that is new is the last
pub grew-last : (ks ls : List (List ℕ)) (key : List ℕ) (n : ℕ) → Grew ks ls key → (ls ≡ ks) ⊎ (n ≡ length ks) → (j : ℕ) → j < length ls → length ks ≤ j → j ≡ n
grew-last ks ls key n (inl e) next j h k = absurd (omega (arith, h, k, ap length e))
grew-last ks ls key n (inr e) (inl f) j h k = absurd (omega (arith, h, k, ap length f))
grew-last ks ls key n (inr e) (inr f) j h k = omega (arith, f, h, k, ap length e, length-append ks (key ∷ []))
