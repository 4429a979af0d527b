use Rattle.std.proofs.Common.{◌≡◌, ℕ, zero, suc, ◌+◌, ◌<◌, ◌≤◌, ◌^◌, Bool, true, false, not, List, length, get_or, drop, w64, refl, ap, sym, ◌∙◌, subst, arith}
use Rattle.std.specs.List.{prefix_len}
use Rattle.std.proofs.lemmas.List.{get_or-drop, length-drop}
use Rattle.std.proofs.lemmas.List.Sums.{prefix_len-drop_yes, prefix_len_is}
use Rattle.std.proofs.lemmas.Nat.Bits.{bit_at-trailing_zeros}
use Rattle.std.proofs.lemmas.Simd.{get_or-chunk}
use lib.Count.{count_trailing_zeros}
use Rattle.mr_lanes.specs.Bits.{is_set}
use Rattle.mr_lanes.specs.Blanks.{is_blank}
use Rattle.mr_lanes.proofs.RestLemmas.{First, all_rest, first, no_rest, Rest}
use Rattle.mr_lanes.proofs.blanks.leading_blanks.Goals as goal

-- the bytes of a block that are no blanks, and the mask of them
abbrev other_at : List ℕ → ℕ → ℕ → Bool
other_at bytes at i = not (is_blank (get_or bytes (at + i) 0))

lanes : (bytes : List ℕ) (at x : ℕ) → x < 2 ^ 64 → ((i : ℕ) → i < 64 → is_set x i ≡ not (is_blank (get_or (drop at bytes) i 0))) → Rest (other_at bytes at) 0 x
lanes bytes at x small bits = all_rest (other_at bytes at) x small (λ i h. bits i h ∙ ap (λ b. not (is_blank b)) (get_or-drop at bytes i 0))

not_false : (b : Bool) → not b ≡ false → b ≡ true
not_false true e = refl
not_false false e = sym e

not_true : (b : Bool) → not b ≡ true → b ≡ false
not_true true e = sym e
not_true false e = refl

-- over so many blanks
over : (n at : ℕ) (bytes : List ℕ) → at + n ≤ length bytes → ((j : ℕ) → j < n → is_blank (get_or bytes (at + j) 0) ≡ true)
    → prefix_len is_blank (drop at bytes) ≡ n + prefix_len is_blank (drop (at + n) bytes)
over zero at bytes within all =
    let e : prefix_len is_blank (drop at bytes) ≡ prefix_len is_blank (drop (at + 0) bytes) =
    ap (λ k. prefix_len is_blank (drop k bytes)) (let same : at ≡ at + 0 = omega arith in same) in
    omega (arith, e)
over (suc n) at bytes within all =
    let here : is_blank (get_or bytes at 0) ≡ true = ap (λ k. is_blank (get_or bytes k 0)) (let e : at ≡ at + 0 = omega arith in e) ∙ all 0 (omega arith) in
    let one : prefix_len is_blank (drop at bytes) ≡ 1 + prefix_len is_blank (drop (at + 1) bytes) = prefix_len-drop_yes is_blank bytes at 0 (omega (arith, within)) here in
    let later : prefix_len is_blank (drop (at + 1) bytes) ≡ n + prefix_len is_blank (drop (at + 1 + n) bytes) =
    over n (at + 1) bytes (omega (arith, within)) (λ j less.
    ap (λ k. is_blank (get_or bytes k 0)) (let e : at + 1 + j ≡ at + suc j = omega arith in e) ∙ all (suc j) (omega (arith, less))) in
    let end : prefix_len is_blank (drop (at + 1 + n) bytes) ≡ prefix_len is_blank (drop (at + suc n) bytes) =
    ap (λ k. prefix_len is_blank (drop k bytes)) (let e : at + 1 + n ≡ at + suc n = omega arith in e) in
    omega (arith, one, later, end)

pub returns-then-others-ne0-clause-count : goal.returns-then-others-ne0-clause-count
returns-then-others-ne0-clause-count c =
    let bytes : List ℕ = c.args.bytes.now in
    let at = c.loop-at.at in
    let x = c.no_blanks-others.result in
    let t = count_trailing_zeros 64 x in
    let r : Rest (other_at bytes at) 0 x = all_rest (other_at bytes at) x (omega arith)
    (λ i h. c.no_blanks-others.ensures i h ∙ ap (λ b. not (is_blank b)) (get_or-chunk at 64 bytes i 0 h)) in
    let f : First (other_at bytes at) 0 t = first (other_at bytes at) 0 x r in
    let some : t < 64 = (bit_at-trailing_zeros w64 x (omega arith) (omega arith)).0 in
    let here : prefix_len is_blank (drop at bytes) ≡ t =
    prefix_len_is is_blank (drop at bytes) t 0 (omega (arith, some, length-drop at bytes))
    (λ k less. ap is_blank (get_or-drop at bytes k 0) ∙ not_false (is_blank (get_or bytes (at + k) 0)) (f.none k (omega arith) less))
    (λ inside. ap is_blank (get_or-drop at bytes t 0) ∙ not_true (is_blank (get_or bytes (at + t) 0)) (f.here some).1) in
    ap (λ n. at + n) (sym here) ∙ sym c.loop-at.invariant.same

pub loop-at-preserved : goal.loop-at-preserved
loop-at-preserved c =
    let bytes : List ℕ = c.args.bytes.now in
    let at = c.loop-at.at in
    let x = c.no_blanks-others.result in
    let none : x ≡ 0 = omega arith in
    let r : Rest (other_at bytes at) 0 x = all_rest (other_at bytes at) x (omega arith)
    (λ i h. c.no_blanks-others.ensures i h ∙ ap (λ b. not (is_blank b)) (get_or-chunk at 64 bytes i 0 h)) in
    let clear : Rest (other_at bytes at) 0 0 = subst (Rest (other_at bytes at) 0) none r in
    let next : prefix_len is_blank (drop at bytes) ≡ 64 + prefix_len is_blank (drop (at + 64) bytes) =
    over 64 at bytes (omega arith) (λ j less. not_false (is_blank (get_or bytes (at + j) 0)) (no_rest (other_at bytes at) 0 clear j (omega arith) less)) in
    record {
      within = omega arith;
      same = omega (arith, c.loop-at.invariant.same, next);
    }
