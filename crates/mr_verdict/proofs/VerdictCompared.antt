-- A test of an output reads no byte behind the place of its fault.
use Rattle.std.proofs.Common.{◌≡◌, ℕ, zero, suc, ◌+◌, ◌-◌, ◌<◌, ◌≤◌, Bool, true, false, cond, Option, Some, List, [], ◌∷◌, ◌++◌, length, take, drop, refl, ap, sym, ◌∙◌, subst, ◌⊎◌, arith, nat_eq, nat_le, ◌==◌, eqb}
use Rattle.std.proofs.lemmas.Bool.{leb-true, leb-false, lt-leb}
use Rattle.std.proofs.lemmas.List.{drop-take, take-take, take_all, length-take-le, length-take, take-append-drop}
use Rattle.std.proofs.Math.Seq.{take-append_seam}
use Rattle.std.specs.List.{common_prefix_len}
use Rattle.mr_verdict.specs.declared.answers.No.{No}
use Rattle.mr_verdict.specs.declared.answers.No.TheVariants as Fault
use Rattle.mr_verdict.specs.Verdict.{passes, text_tests, end_tests, first}
use Rattle.mr_verdict.proofs.VerdictTests.{passed, text_stands, text_passes}

-- this is the first of the faults
abbrev pub Tells : No → List No → Type 0
Tells fault faults = ◌≡◌ {A = Option No} (first faults) (Some fault)

-- both lists have the same bytes up to this place
abbrev pub SameUpTo : ℕ → List ℕ → List ℕ → Type 0
SameUpTo k output other = take k other ≡ take k output

fewer : (m k : ℕ) (output other : List ℕ) → m ≤ k → SameUpTo k output other → SameUpTo m output other
fewer m k output other h e = sym (take-take m k other h) ∙ (ap (take m) e ∙ take-take m k output h)

-- and so in a window of them
window : (from m k : ℕ) (output other : List ℕ) → from + m ≤ k → SameUpTo k output other → take m (drop from other) ≡ take m (drop from output)
window from m k output other h e = sym (drop-take from m other) ∙ (ap (drop from) (fewer (from + m) k output other h e) ∙ drop-take from m output)

pub text_again : (output other : List ℕ) (p from k : ℕ) (text : List ℕ) → from + length text ≤ k → SameUpTo k output other → text_tests output p from text ≡ [] → text_tests other p from text ≡ []
text_again output other p from k text h same e =
    let stands = text_stands output p from text e in
    let begins : take (length text) (drop from other) ≡ text =
    window from (length text) k output other h same ∙ (ap (take (length text)) stands ∙ take-append_seam text (drop (from + length text) output)) in
    text_passes other p from text (drop (length text) (drop from other)) (sym (take-append-drop (length text) (drop from other)) ∙ ap (λ w. w ++ drop (length text) (drop from other)) begins)

-- what two lists have in common with a text is told by one byte more
common_same : (text xs ys : List ℕ) → SameUpTo (suc (common_prefix_len nat_eq text xs)) xs ys → common_prefix_len nat_eq text ys ≡ common_prefix_len nat_eq text xs
common_same [] xs ys e = refl
common_same (t ∷ text) [] [] e = refl
common_same (t ∷ text) [] (y ∷ ys) e = absurd (cc)
common_same (t ∷ text) (x ∷ xs) [] e = absurd (cc)
common_same (t ∷ text) (x ∷ xs) (y ∷ ys) e =
    let head : y ≡ x = cc in
    let tail : take (common_prefix_len nat_eq (t ∷ text) (x ∷ xs)) ys ≡ take (common_prefix_len nat_eq (t ∷ text) (x ∷ xs)) xs = cc in
    by (eqb t x) refl (ap (eqb t) head) tail (common_same text xs ys)
  where
    by : (b : Bool) → eqb t x ≡ b → eqb t y ≡ eqb t x → take (common_prefix_len nat_eq (t ∷ text) (x ∷ xs)) ys ≡ take (common_prefix_len nat_eq (t ∷ text) (x ∷ xs)) xs
        → (SameUpTo (suc (common_prefix_len nat_eq text xs)) xs ys → common_prefix_len nat_eq text ys ≡ common_prefix_len nat_eq text xs)
        → cond (eqb t y) (1 + common_prefix_len nat_eq text ys) 0 ≡ cond (eqb t x) (1 + common_prefix_len nat_eq text xs) 0
    by true is same tail rest =
        let long : cond (eqb t x) (1 + common_prefix_len nat_eq text xs) 0 ≡ suc (common_prefix_len nat_eq text xs) =
        ap (λ b. cond b (1 + common_prefix_len nat_eq text xs) 0) is ∙ (omega arith) in
        let later = rest (subst (λ n. take n ys ≡ take n xs) long tail) in
        ap (λ b. cond b (1 + common_prefix_len nat_eq text ys) 0) (same ∙ is)
        ∙ (ap (λ n. 1 + n) later ∙ ap (λ b. cond b (1 + common_prefix_len nat_eq text xs) 0) (sym is))
    by false is same tail rest =
        ap (λ b. cond b (1 + common_prefix_len nat_eq text ys) 0) (same ∙ is) ∙ ap (λ b. cond b (1 + common_prefix_len nat_eq text xs) 0) (sym is)

-- what a test tells, if it tells something
told_is : (b : Bool) (fault f : No) → Tells f (passes b fault) → (b ≡ false) × (fault ≡ f)
told_is true fault f e = absurd (cc)
told_is false fault f e = (refl, cc)

pub text_place : (output : List ℕ) (p from : ℕ) (text : List ℕ) (q at : ℕ) → Tells (Fault.OutputDiffers q at) (text_tests output p from text) → from ≤ at
text_place output p from text q at e =
    let n : ℕ = common_prefix_len nat_eq text (drop from output) in
    let r = told_is (n == length text) (Fault.OutputDiffers p (from + n)) (Fault.OutputDiffers q at) e in
    let place : from + n ≡ at = place_is p (from + n) q at r.1 in
    omega (arith, place)
  where
    place_is : (p m q n : ℕ) → Fault.OutputDiffers p m ≡ Fault.OutputDiffers q n → m ≡ n
    place_is p m q n e = cc

pub text_fails : (output other : List ℕ) (p from : ℕ) (text : List ℕ) (q at : ℕ) → Tells (Fault.OutputDiffers q at) (text_tests output p from text) → SameUpTo (at + 1) output other
    → text_tests other p from text ≡ text_tests output p from text
text_fails output other p from text q at e same =
    let n : ℕ = common_prefix_len nat_eq text (drop from output) in
    let r = told_is (n == length text) (Fault.OutputDiffers p (from + n)) (Fault.OutputDiffers q at) e in
    let place : from + n ≡ at = place_is p (from + n) q at r.1 in
    let common : common_prefix_len nat_eq text (drop from other) ≡ n = common_same text (drop from output) (drop from other) (window from (suc n) (at + 1) output other (omega (arith, place)) same) in
    ap (λ (m : ℕ). passes (m == length text) (Fault.OutputDiffers p (from + m))) common
  where
    place_is : (p m q n : ℕ) → Fault.OutputDiffers p m ≡ Fault.OutputDiffers q n → m ≡ n
    place_is p m q n e = cc

-- an output that ends before the place is the whole of the other
pub whole_same : (output other : List ℕ) (at : ℕ) → length output ≤ at → SameUpTo (at + 1) output other → other ≡ output
whole_same output other at h same =
    let all : take (at + 1) output ≡ output = take_all (at + 1) output (omega (arith, h)) in
    let cut : take (at + 1) other ≡ output = same ∙ all in
    sym (take_all (at + 1) other (short (length other) (length (take (at + 1) other)) (length-take (at + 1) other) (ap length cut))) ∙ cut
  where
    short : (n m : ℕ) → m ≡ Rattle.std.proofs.Common.min (at + 1) n → m ≡ length output → n ≤ at + 1
    short n m e f = omega (arith, e, f, h)

pub end_again : (output other : List ℕ) (p groups from at : ℕ) → from ≤ at → SameUpTo (at + 1) output other → end_tests output p groups from ≡ [] → end_tests other p groups from ≡ []
end_again output other p zero from at h same e =
    let ended : length output ≤ from = leb-true _ _ (passed _ _ e) in
    ap (λ out. end_tests out p zero from) (whole_same output other at (omega (arith, ended, h)) same) ∙ e
end_again output other p (suc groups) from at h same e = refl

pub end_place : (output : List ℕ) (p groups from : ℕ) (q at : ℕ) → Tells (Fault.OutputDiffers q at) (end_tests output p groups from) → from ≡ at
end_place output p zero from q at e = place_is p from q at ((told_is (nat_le (length output) from) (Fault.OutputDiffers p from) (Fault.OutputDiffers q at) e).1)
  where
    place_is : (p m q n : ℕ) → Fault.OutputDiffers p m ≡ Fault.OutputDiffers q n → m ≡ n
    place_is p m q n e = cc
end_place output p (suc groups) from q at e = absurd (cc)

pub end_fails : (output other : List ℕ) (p groups from : ℕ) (q at : ℕ) → Tells (Fault.OutputDiffers q at) (end_tests output p groups from) → SameUpTo (at + 1) output other
    → end_tests other p groups from ≡ end_tests output p groups from
end_fails output other p zero from q at e same =
    let r = told_is (nat_le (length output) from) (Fault.OutputDiffers p from) (Fault.OutputDiffers q at) e in
    let place : from ≡ at = end_place output p zero from q at e in
    let longer : from < length output = leb-false (length output) from r.0 in
    let cut : length (take (at + 1) output) ≡ at + 1 = length-take-le (at + 1) output (omega (arith, longer, place)) in
    let long : from < length other = reach (length other) (length (take (at + 1) other)) (length-take (at + 1) other) (ap length same ∙ cut) place in
    ap (λ b. passes b (Fault.OutputDiffers p from)) (lt-leb (length other) from long ∙ sym r.0)
  where
    reach : (n m : ℕ) → m ≡ Rattle.std.proofs.Common.min (at + 1) n → m ≡ at + 1 → from ≡ at → from < n
    reach n m e f g = omega (arith, e, f, g)
end_fails output other p (suc groups) from q at e same = refl
