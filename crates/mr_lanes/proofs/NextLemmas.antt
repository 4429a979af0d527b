-- The first word of a text, where it ends within the first 16 bytes.
use Rattle.std.proofs.Common.{◌≡◌, ℕ, zero, suc, ◌+◌, ◌-◌, ◌<◌, ◌≤◌, ◌^◌, true, false, not, ◌&&◌, List, ◌∷◌, length, get_or, drop, refl, sym, ap, ◌∙◌, subst, arith, inl, inr, lt_of_le_of_lt}
use Rattle.std.proofs.lemmas.Bool.{cases_lt, true≢false}
use lib.Bits.{bit_and, and_le_l}
use lib.Count.{count_trailing_zeros}
use Rattle.mr_bytes.specs.Bytes.{is_word_byte}
use Rattle.mr_bytes.specs.Words.{word_spans_from}
use Rattle.mr_bytes.proofs.WordLemmas.{word_spans_from-run}
use Rattle.mr_lanes.specs.Bits.{is_set}
use Rattle.mr_lanes.proofs.BitLemmas.{is_set-and, flip, is_set-flip}
use Rattle.mr_lanes.proofs.RestLemmas.{shl, is_set-shl_zero, is_set-shl_suc, First, first, all_rest}
use Rattle.mr_lanes.proofs.SpanLemmas.{skip_all, not_true, parts}

-- the first run of set bits
pub record IsRun (x start end : ℕ) : Type 0 where
  pub some : start < end
  pub before : (i : ℕ) → i < start → is_set x i ≡ false
  pub all : (i : ℕ) → start ≤ i → i < end → is_set x i ≡ true
  pub stops : is_set x end ≡ false

-- the places behind runs of set bits
abbrev pub behind_runs : ℕ → ℕ
behind_runs x = bit_and (shl 1 x) (flip x)

behind : (x i : ℕ) → x < 2 ^ 64 → i < 64 → is_set (behind_runs x) i ≡ (is_set (shl 1 x) i && not (is_set x i))
behind x i small h = is_set-and (shl 1 x) (flip x) i ∙ ap (λ b. is_set (shl 1 x) i && b) (is_set-flip x i small h)

-- from a set bit on, all are set before the first place behind a run
run_on : (x end : ℕ) → x < 2 ^ 64 → end < 64 → ((j : ℕ) → j < end → is_set (behind_runs x) j ≡ false)
    → (n at : ℕ) → is_set x at ≡ true → at + n < end → is_set x (at + n) ≡ true
run_on x end small high none zero at set less = subst (λ k. is_set x k ≡ true) (let e : at ≡ at + zero = omega arith in e) set
run_on x end small high none (suc n) at set less =
    let later : is_set x (suc at) ≡ true =
    not_true (is_set (shl 1 x) (suc at)) (is_set x (suc at))
    (sym (behind x (suc at) small (omega (arith, less, high))) ∙ none (suc at) (omega (arith, less)))
    (is_set-shl_suc at x (omega (arith, less, high)) ∙ set) in
    subst (λ k. is_set x k ≡ true) (let e : suc at + n ≡ at + suc n = omega arith in e)
    (run_on x end small high none n (suc at) later (omega (arith, less)))

ends_run : (x start end : ℕ) → x < 2 ^ 64 → end < 64 → First (is_set x) 0 start → First (is_set (behind_runs x)) 0 end
    → (is_set (shl 1 x) end ≡ true) × (is_set x end ≡ false) → IsRun x start end
ends_run x start zero small high begins stops here = absurd (true≢false (sym here.0 ∙ is_set-shl_zero x))
ends_run x start (suc j) small high begins stops here =
    let last : is_set x j ≡ true = sym (is_set-shl_suc j x high) ∙ here.0 in
    let some : start ≤ j =
    elim (cases_lt j start) [
      | inl less ↦ absurd (true≢false (sym last ∙ begins.none j (omega arith) less))
      | inr le ↦ le
    ] in
    let begin : is_set x start ≡ true = (begins.here (omega (arith, some, high))).1 in
    record {
      some = omega (arith, some);
      before = λ i less. begins.none i (omega arith) less;
      all = λ i low less.
          let place : start + (i - start) ≡ i = omega (arith, low) in
          subst (λ k. is_set x k ≡ true) place
          (run_on x (suc j) small high (λ k h. stops.none k (omega arith) h) (i - start) start begin (omega (arith, low, less)));
      stops = here.1;
    }

pub run_of : (x : ℕ) → x < 2 ^ 64 → count_trailing_zeros 64 (behind_runs x) < 64 → IsRun x (count_trailing_zeros 64 x) (count_trailing_zeros 64 (behind_runs x))
run_of x small high =
    let end = count_trailing_zeros 64 (behind_runs x) in
    let begins = first (is_set x) 0 x (all_rest (is_set x) x small (λ i h. refl)) in
    let stops = first (is_set (behind_runs x)) 0 (behind_runs x) (all_rest (is_set (behind_runs x)) (behind_runs x)
    (lt_of_le_of_lt (and_le_l (shl 1 x) (flip x)) (omega arith)) (λ i h. refl)) in
    let here : is_set (behind_runs x) end ≡ true = (stops.here high).1 in
    ends_run x (count_trailing_zeros 64 x) end small high begins stops
    (parts (is_set (shl 1 x) end) (is_set x end) (sym (behind x end small high) ∙ here))

-- a run that ends among the bits of the 16 bytes from `from` on is the first word
pub first_word : (bs : List ℕ) (from start end x : ℕ) → ((i : ℕ) → i < 16 → is_set x i ≡ is_word_byte (get_or bs (from + i) 0))
    → from + 16 ≤ length bs → end < 16 → IsRun x start end
    → word_spans_from from (drop from bs) ≡ record { start = from + start; end = from + end } ∷ word_spans_from (from + end) (drop (from + end) bs)
first_word bs from start end x bits long few run =
    let word : (k : ℕ) → from ≤ k → k < from + 16 → is_word_byte (get_or bs k 0) ≡ is_set x (k - from) =
    λ k low high.
    let place : from + (k - from) ≡ k = omega (arith, low) in
    ap (λ n. is_word_byte (get_or bs n 0)) (sym place) ∙ sym (bits (k - from) (omega (arith, low, high))) in
    skip_all start from (from + start) bs refl (λ k low high. word k low (omega (arith, high, run.some, few)) ∙ run.before (k - from) (omega (arith, low, high)))
    ∙ word_spans_from-run (end - start - 1) (from + start) (from + end) bs (omega (arith, run.some)) (omega (arith, long, few))
    (λ k low high. word k (omega (arith, low)) (omega (arith, high, few)) ∙ run.all (k - from) (omega (arith, low)) (omega (arith, low, high)))
    (λ less. sym (bits end few) ∙ run.stops)
