-- What a read leaves in a buffer.
use Rattle.std.proofs.Common.{◌≡◌, ℕ, zero, suc, ◌+◌, ◌-◌, ◌≤◌, List, [], ◌∷◌, ◌++◌, length, take, drop, refl, ap, sym, ◌∙◌, arith, inl, inr}
use Rattle.std.proofs.lemmas.Bool.{cases_lt}
use Rattle.std.proofs.lemmas.List.{get_or-take, get_or_past, length-drop, length-take, take-append-le}
use Rattle.std.proofs.Math.Seq.{take-append_seam, take-add}
use Rattle.std.specs.List.{copy_within}
use Rattle.mr_store.specs.Devices.{AreBytes}

-- the bytes between two places
between : (from to : ℕ) (b : List ℕ) → from ≤ to → to ≤ length b → take (to - from) (drop from b) ≡ drop from (take to b)
between zero to b h k = let e : to - 0 ≡ to = omega arith in ap (λ w. take w b) e
between (suc from) zero b h k = absurd (omega arith)
between (suc from) (suc to) [] h k = absurd (omega arith)
between (suc from) (suc to) (x ∷ b) h k =
    let e : suc to - suc from ≡ to - from = omega arith in
    ap (λ w. take w (drop from b)) e ∙ between from to b (omega (arith, h)) (omega (arith, k))

pub moved : (b copied front more : List ℕ) (from to : ℕ) → from ≤ to → to ≤ length b → copied ≡ copy_within b from to 0 → front ≡ take (to - from) copied → length front ≡ to - from
    → take (to - from) (front ++ more) ≡ drop from (take to b)
moved b copied front more from to h k c f long =
    let n = to - from in
    let piece : List ℕ = take (to - from) (drop from b) in
    let size : length (take (to - from) (drop from b)) ≡ to - from = omega (arith, length-take (to - from) (drop from b), length-drop from b, h, k) in
    let whole : copied ≡ take (to - from) (drop from b) ++ drop (0 + (to - from)) b = c in
    let ahead : take (to - from) copied ≡ take (to - from) (drop from b) =
    ap (take (to - from)) whole ∙ (ap (λ w. take w (take (to - from) (drop from b) ++ drop (0 + (to - from)) b)) (sym size) ∙ take-append_seam (take (to - from) (drop from b)) (drop (0 + (to - from)) b)) in
    ap (λ w. take w (front ++ more)) (sym long) ∙ (take-append_seam front more ∙ (f ∙ (ahead ∙ between from to b h k)))

take_less : (k n : ℕ) (b : List ℕ) → k ≤ n → take k (take n b) ≡ take k b
take_less zero n b h = refl
take_less (suc k) zero b h = absurd (omega arith)
take_less (suc k) (suc n) [] h = refl
take_less (suc k) (suc n) (x ∷ b) h = ap (λ w. x ∷ w) (take_less k n b (omega (arith, h)))

-- what stands in the buffer behind a read
pub grown : (b more was : List ℕ) (len k n : ℕ) → k + n ≤ length b → k + n ≤ len → take k b ≡ was → take (k + n) (take len (b ++ more)) ≡ was ++ take n (drop k b)
grown b more was len k n fits long front =
    take_less (k + n) len (b ++ more) long ∙ (take-append-le (k + n) b more fits ∙ (take-add k n b ∙ ap (λ w. w ++ take n (drop k b)) front))

pub given : (b : List ℕ) (k n : ℕ) → k + n ≤ length b → length (take n (drop k b)) ≡ n
given b k n fits = omega (arith, length-take n (drop k b), length-drop k b, fits)

pub bytes_taken : (n : ℕ) (bytes : List ℕ) → AreBytes bytes → AreBytes (take n bytes)
bytes_taken n bytes h i =
    elim (cases_lt i n) [
      | inl lt ↦ rw (get_or-take n bytes i 0 lt) (h i)
      | inr le ↦ rw (get_or_past (take n bytes) i 0 (omega (arith, length-take n bytes))) (omega arith)
    ]
