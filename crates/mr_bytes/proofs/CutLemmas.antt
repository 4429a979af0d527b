-- Bytes cut at the first one that is a mark.
use Rattle.std.proofs.Common.{◌≡◌, ℕ, zero, suc, ◌+◌, ◌-◌, ◌<◌, ◌≤◌, cond, eqb, Some, None, List, [], ◌∷◌, ◌++◌, length, get_or, take, drop, refl, ap, sym, ◌∙◌, arith, eq-eqb}
use Rattle.std.proofs.lemmas.Bool.{ne_eqb}
use Rattle.std.proofs.lemmas.List.{length-drop, take_all}
use Rattle.memchr.specs.Find.{Nowhere, Passes, is_byte}
use Rattle.mr_bytes.specs.Cut.{Lacks, with_front, cut}

cut-nil : (mark : ℕ) → cut mark [] ≡ None
unfolding cut
cut-nil mark = refl

cut-cons : (mark b : ℕ) (bs : List ℕ) → cut mark (b ∷ bs) ≡ cond (eqb b mark) (Some ([], bs)) (with_front b (cut mark bs))
unfolding cut
cut-cons mark b bs = refl

pub cut-here : (mark b : ℕ) (bs : List ℕ) → b ≡ mark → cut mark (b ∷ bs) ≡ Some ([], bs)
cut-here mark b bs e = cut-cons mark b bs ∙ ap (λ t. cond t (Some ([], bs)) (with_front b (cut mark bs))) (eq-eqb b mark e)

pub cut-there : (mark b : ℕ) (bs : List ℕ) → (b ≡ mark → ⊥) → cut mark (b ∷ bs) ≡ with_front b (cut mark bs)
cut-there mark b bs e = cut-cons mark b bs ∙ ap (λ t. cond t (Some ([], bs)) (with_front b (cut mark bs))) (ne_eqb b mark e)

-- bytes without a mark, and a mark behind them
pub cut-parts : (mark : ℕ) (front rest : List ℕ) → Lacks mark front → cut mark (front ++ mark ∷ rest) ≡ Some (front, rest)
cut-parts mark [] rest h = cut-here mark mark rest refl
cut-parts mark (b ∷ bs) rest h = cut-there mark b (bs ++ mark ∷ rest) h.0 ∙ ap (with_front b) (cut-parts mark bs rest h.1)

pub cut-lacks : (mark : ℕ) (bytes : List ℕ) → Lacks mark bytes → cut mark bytes ≡ None
cut-lacks mark [] h = cut-nil mark
cut-lacks mark (b ∷ bs) h = cut-there mark b bs h.0 ∙ ap (with_front b) (cut-lacks mark bs h.1)

lacks-front : (mark at : ℕ) (bytes : List ℕ) → at ≤ length bytes → ((k : ℕ) → k < at → get_or bytes k 0 ≡ mark → ⊥) → Lacks mark (take at bytes)
lacks-front mark zero bytes h clear = tt
lacks-front mark (suc at) [] h clear = tt
lacks-front mark (suc at) (b ∷ bs) h clear = (clear 0 (omega arith), lacks-front mark at bs (omega arith) (λ k l. clear (suc k) (omega arith)))

lacks-all : (mark : ℕ) (bytes : List ℕ) → ((k : ℕ) → k < length bytes → get_or bytes k 0 ≡ mark → ⊥) → Lacks mark bytes
lacks-all mark [] clear = tt
lacks-all mark (b ∷ bs) clear = (clear 0 (omega arith), lacks-all mark bs (λ k l. clear (suc k) (omega arith)))

parted : (at mark : ℕ) (bytes : List ℕ) → at < length bytes → get_or bytes at 0 ≡ mark → bytes ≡ take at bytes ++ mark ∷ drop (at + 1) bytes
parted at mark [] h e = absurd (omega arith)
parted zero mark (b ∷ bs) h e = ap (λ (v : ℕ). v ∷ bs) e
parted (suc at) mark (b ∷ bs) h e =
    let next : suc at + 1 ≡ suc (at + 1) = omega arith in
    let inside : at < length bs = omega arith in
    ap (λ (v : List ℕ). b ∷ v) (parted at mark bs inside e) ∙ ap (λ (n : ℕ). b ∷ take at bs ++ mark ∷ drop n (b ∷ bs)) (sym next)

-- what stands behind the first mark
abbrev pub behind : ℕ → List ℕ → List ℕ
behind at bytes = take (length bytes - (at + 1)) (drop (at + 1) bytes)

-- the first mark stands at `at`
pub found-parts : (mark at : ℕ) (bytes : List ℕ) → at < length bytes → Nowhere (Passes (is_byte mark) bytes) 0 at → get_or bytes at 0 ≡ mark
    → (bytes ≡ take at bytes ++ mark ∷ behind at bytes) × Lacks mark (take at bytes)
found-parts mark at bytes inside none e =
    let whole : behind at bytes ≡ drop (at + 1) bytes = take_all (length bytes - (at + 1)) (drop (at + 1) bytes) (omega (arith, length-drop (at + 1) bytes)) in (
      parted at mark bytes inside e ∙ ap (λ (rest : List ℕ). take at bytes ++ mark ∷ rest) (sym whole),
      lacks-front mark at bytes (omega arith) (λ k h is. none k (omega arith) h (eq-eqb _ mark is)),
    )

pub found-value : (mark at : ℕ) (bytes : List ℕ) → (bytes ≡ take at bytes ++ mark ∷ behind at bytes) × Lacks mark (take at bytes)
    → cut mark bytes ≡ Some (take at bytes, behind at bytes)
found-value mark at bytes h = ap (cut mark) h.0 ∙ cut-parts mark (take at bytes) (behind at bytes) h.1

pub absent : (mark : ℕ) (bytes : List ℕ) → Nowhere (Passes (is_byte mark) bytes) 0 (length bytes) → Lacks mark bytes
absent mark bytes none = lacks-all mark bytes (λ k h is. none k (omega arith) h (eq-eqb _ mark is))
