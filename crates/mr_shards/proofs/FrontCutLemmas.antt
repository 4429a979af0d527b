-- The first bytes of a key, cut from eight.
use Rattle.std.proofs.Common.{◌≡◌, ℕ, zero, suc, ◌*◌, ◌-◌, ◌/◌, ◌%◌, ◌<◌, ◌≤◌, ◌^◌, List, [], ◌∷◌, length, take, refl, sym, ap, subst, ◌∙◌, arith}
use Rattle.mr_group.specs.FirstBytes.{AreBytes, first_bytes}

-- the bits of the bytes behind so many are cleared
abbrev cleared : ℕ → ℕ → ℕ
cleared count eight = eight / 2 ^ (64 - 8 * count) * 2 ^ (64 - 8 * count) % 18446744073709551616

cut-eight : (count a b c d e f g h : ℕ) (rest : List ℕ) → 0 < count → count < 8 → AreBytes (a ∷ b ∷ c ∷ d ∷ e ∷ f ∷ g ∷ h ∷ [])
    → cleared count (first_bytes 8 (a ∷ b ∷ c ∷ d ∷ e ∷ f ∷ g ∷ h ∷ [])) ≡ first_bytes 8 (take count (a ∷ b ∷ c ∷ d ∷ e ∷ f ∷ g ∷ h ∷ rest))
cut-eight zero a b c d e f g h rest some few bytes = absurd (omega (arith, some))
cut-eight (suc zero) a b c d e f g h rest some few bytes = omega (arith, bytes 0, bytes 1, bytes 2, bytes 3, bytes 4, bytes 5, bytes 6, bytes 7)
cut-eight (suc (suc zero)) a b c d e f g h rest some few bytes = omega (arith, bytes 0, bytes 1, bytes 2, bytes 3, bytes 4, bytes 5, bytes 6, bytes 7)
cut-eight (suc (suc (suc zero))) a b c d e f g h rest some few bytes = omega (arith, bytes 0, bytes 1, bytes 2, bytes 3, bytes 4, bytes 5, bytes 6, bytes 7)
cut-eight (suc (suc (suc (suc zero)))) a b c d e f g h rest some few bytes = omega (arith, bytes 0, bytes 1, bytes 2, bytes 3, bytes 4, bytes 5, bytes 6, bytes 7)
cut-eight (suc (suc (suc (suc (suc zero))))) a b c d e f g h rest some few bytes = omega (arith, bytes 0, bytes 1, bytes 2, bytes 3, bytes 4, bytes 5, bytes 6, bytes 7)
cut-eight (suc (suc (suc (suc (suc (suc zero)))))) a b c d e f g h rest some few bytes = omega (arith, bytes 0, bytes 1, bytes 2, bytes 3, bytes 4, bytes 5, bytes 6, bytes 7)
cut-eight (suc (suc (suc (suc (suc (suc (suc zero))))))) a b c d e f g h rest some few bytes = omega (arith, bytes 0, bytes 1, bytes 2, bytes 3, bytes 4, bytes 5, bytes 6, bytes 7)
cut-eight (suc (suc (suc (suc (suc (suc (suc (suc n)))))))) a b c d e f g h rest some few bytes = absurd (omega (arith, few))

first-of : (n : ℕ) (xs : List ℕ) → suc n ≤ length xs → (x : ℕ) × (ys : List ℕ) × (xs ≡ x ∷ ys) × (n ≤ length ys)
first-of n [] long = absurd (omega (arith, long))
first-of n (x ∷ xs) long = (x, xs, refl, omega (arith, long))

pub front-cut : (count : ℕ) (line : List ℕ) → 0 < count → count < 8 → 8 ≤ length line → AreBytes (take 8 line) → cleared count (first_bytes 8 (take 8 line)) ≡ first_bytes 8 (take count line)
front-cut count line some few long bytes =
    let a = first-of 7 line long in
    let b = first-of 6 a.1 a.3 in
    let c = first-of 5 b.1 b.3 in
    let d = first-of 4 c.1 c.3 in
    let e = first-of 3 d.1 d.3 in
    let f = first-of 2 e.1 e.3 in
    let g = first-of 1 f.1 f.3 in
    let h = first-of 0 g.1 g.3 in
    let is : line ≡ a.0 ∷ b.0 ∷ c.0 ∷ d.0 ∷ e.0 ∷ f.0 ∷ g.0 ∷ h.0 ∷ h.1 =
    a.2 ∙ ap (λ l. a.0 ∷ l) (b.2 ∙ ap (λ l. b.0 ∷ l) (c.2 ∙ ap (λ l. c.0 ∷ l) (d.2 ∙ ap (λ l. d.0 ∷ l) (e.2 ∙ ap (λ l. e.0 ∷ l) (f.2 ∙ ap (λ l. f.0 ∷ l) (g.2 ∙ ap (λ l. g.0 ∷ l) h.2)))))) in
    subst (λ l. cleared count (first_bytes 8 (take 8 l)) ≡ first_bytes 8 (take count l)) (sym is)
    (cut-eight count a.0 b.0 c.0 d.0 e.0 f.0 g.0 h.0 h.1 some few (subst (λ l. AreBytes (take 8 l)) is bytes))
