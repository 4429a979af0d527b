-- The line ends of a block, and of the bytes behind it.
use Rattle.std.proofs.Common.{◌≡◌, ℕ, zero, suc, ◌+◌, ◌<◌, ◌≤◌, Bool, true, false, cond, eqb, List, [], ◌∷◌, ◌++◌, length, get_or, drop, refl, sym, ap, ◌∙◌, arith, add-zero, inl, inr}
use Rattle.std.proofs.lemmas.Bool.{cases_lt}
use Rattle.std.proofs.lemmas.List.{at_drop_more, at_drop_all, append_assoc, append-nil, get_or_past}
use Rattle.mr_lanes.specs.Bits.{is_set, set_bits, keep}
use Rattle.mr_lanes.specs.Lines.{line_ends_from}
use Rattle.mr_lanes.proofs.BitLemmas.{set_bits-keep}

pub line_ends_from-nil : (at : ℕ) → line_ends_from at [] ≡ []
unfolding line_ends_from
line_ends_from-nil at = refl

pub line_ends_from-cons : (at b : ℕ) (bs : List ℕ) → line_ends_from at (b ∷ bs) ≡ cond (eqb b 10) (at ∷ line_ends_from (at + 1) bs) (line_ends_from (at + 1) bs)
unfolding line_ends_from
line_ends_from-cons at b bs = refl

pub line_ends_from-end : (at : ℕ) (bs : List ℕ) → length bs ≤ at → line_ends_from at (drop at bs) ≡ []
line_ends_from-end at bs h = at_drop_all (line_ends_from at) bs at h ∙ line_ends_from-nil at

abbrev pub is_end : List ℕ → ℕ → Bool
is_end bs at = eqb (get_or bs at 0) 10

pub line_ends_from-more : (at : ℕ) (bs : List ℕ)
    → line_ends_from at (drop at bs) ≡ cond (is_end bs at) (at ∷ line_ends_from (at + 1) (drop (at + 1) bs)) (line_ends_from (at + 1) (drop (at + 1) bs))
line_ends_from-more at bs =
    elim (cases_lt at (length bs)) [
      | inl lt ↦ at_drop_more (line_ends_from at) bs at 0 lt ∙ line_ends_from-cons at (get_or bs at 0) (drop (at + 1) bs)
      | inr past ↦
          line_ends_from-end at bs past ∙ sym (line_ends_from-end (at + 1) bs (omega arith))
          ∙ sym (ap (λ b. cond (eqb b 10) (at ∷ line_ends_from (at + 1) (drop (at + 1) bs)) (line_ends_from (at + 1) (drop (at + 1) bs))) (get_or_past bs at 0 past))
    ]

cond-append : (t : Bool) (a : ℕ) (l r : List ℕ) → cond t (a ∷ (l ++ r)) (l ++ r) ≡ cond t (a ∷ l) l ++ r
cond-append true a l r = refl
cond-append false a l r = refl

-- the line ends from a place on are those of the n bytes from there, which may reach past the end, and those behind them
line_ends_from-keep : (n at : ℕ) (bs : List ℕ) → line_ends_from at (drop at bs) ≡ keep (is_end bs) at n ++ line_ends_from (at + n) (drop (at + n) bs)
line_ends_from-keep zero at bs = ap (λ i. line_ends_from i (drop i bs)) (sym (add-zero at))
line_ends_from-keep (suc n) at bs =
    let e : at + 1 + n ≡ at + suc n = omega arith in
    line_ends_from-more at bs
    ∙ ap (λ l. cond (is_end bs at) (at ∷ l) l) (line_ends_from-keep n (at + 1) bs ∙ ap (λ i. keep (is_end bs) (at + 1) n ++ line_ends_from i (drop i bs)) e)
    ∙ cond-append (is_end bs at) at (keep (is_end bs) (at + 1) n) (line_ends_from (at + suc n) (drop (at + suc n) bs))

-- one more block
pub next_block : (bs before want : List ℕ) (at mask : ℕ) → ((i : ℕ) → i < 64 → is_set mask i ≡ eqb (get_or bs (at + i) 0) 10)
    → before ++ line_ends_from at (drop at bs) ≡ want → (before ++ set_bits 64 at mask) ++ line_ends_from (at + 64) (drop (at + 64) bs) ≡ want
next_block bs before want at mask bits all =
    append_assoc before (set_bits 64 at mask) (line_ends_from (at + 64) (drop (at + 64) bs))
    ∙ ap (λ l. before ++ (l ++ line_ends_from (at + 64) (drop (at + 64) bs))) (set_bits-keep (is_end bs) 64 at mask bits)
    ∙ ap (λ l. before ++ l) (sym (line_ends_from-keep 64 at bs)) ∙ all

-- the last block
pub last_block : (bs before want : List ℕ) (at mask : ℕ) → length bs ≤ at + 64 → ((i : ℕ) → i < 64 → is_set mask i ≡ eqb (get_or bs (at + i) 0) 10)
    → before ++ line_ends_from at (drop at bs) ≡ want → before ++ set_bits 64 at mask ≡ want
last_block bs before want at mask past bits all =
    sym (append-nil (before ++ set_bits 64 at mask)) ∙ ap (λ l. (before ++ set_bits 64 at mask) ++ l) (sym (line_ends_from-end (at + 64) bs past))
    ∙ next_block bs before want at mask bits all
