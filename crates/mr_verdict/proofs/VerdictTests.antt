-- When tests tell no fault.
use Rattle.std.proofs.Common.{◌≡◌, ℕ, zero, suc, ◌+◌, ◌≤◌, Bool, true, false, List, [], ◌∷◌, ◌++◌, length, drop, refl, ap, sym, ◌∙◌, arith, nat_eq, eqb, cond, append_assoc}
use Rattle.std.proofs.lemmas.Bool.{eqb-true, eq-eqb, leb-true, le-leb}
use Rattle.std.proofs.lemmas.List.{drop-drop}
use Rattle.std.proofs.Math.Seq.{drop-append_seam}
use Rattle.std.specs.List.{common_prefix_len}
use Rattle.std.specs.Ordering.{is_lt}
use Rattle.std.specs.declared.cmp.Ordering.{Ordering}
use Rattle.std.specs.declared.cmp.Ordering.TheVariants.{Less, Equal, Greater}
use Rattle.mr_certform.specs.declared.grammar_state.Item.{Item}
use Rattle.mr_verdict.specs.declared.answers.No.{No}
use Rattle.mr_verdict.specs.declared.answers.No.TheVariants.{OutputDiffers}
use Rattle.mr_verdict.specs.Verdict.{Reached, Subject, tests, after, passes, text_tests, end_tests}
use Rattle.mr_verdict.specs.VerdictLaws.{told, behind}

-- ---- lists with nothing in them

pub none_left : {X : Type 0} (xs ys : List X) → xs ++ ys ≡ [] → xs ≡ []
none_left [] ys e = refl
none_left (x ∷ xs) ys e = absurd (cc)

pub none_right : {X : Type 0} (xs ys : List X) → xs ++ ys ≡ [] → ys ≡ []
none_right [] ys e = e
none_right (x ∷ xs) ys e = absurd (cc)

pub none_both : {X : Type 0} (xs ys : List X) → xs ≡ [] → ys ≡ [] → xs ++ ys ≡ []
none_both xs ys e f = ap (λ w. w ++ ys) e ∙ f

pub passed : (b : Bool) (fault : No) → passes b fault ≡ [] → b ≡ true
passed true fault e = refl
passed false fault e = absurd (cc)

pub passes-true : (b : Bool) (fault : No) → b ≡ true → passes b fault ≡ []
passes-true b fault e = ap (λ t. passes t fault) e

-- ---- orders

pub lt-less : (o : Ordering) → is_lt o ≡ true → o ≡ Less
lt-less Less h = refl
lt-less Equal h = absurd (cc)
lt-less Greater h = absurd (cc)

-- ---- texts

-- a text that agrees with all of its length stands at the front
prefix_stands : (text out : List ℕ) → common_prefix_len nat_eq text out ≡ length text → out ≡ text ++ drop (length text) out
prefix_stands [] out e = refl
prefix_stands (t ∷ text) [] e = absurd (cc)
prefix_stands (t ∷ text) (o ∷ out) e = by (eqb t o) refl e (prefix_stands text out)
  where
    by : (b : Bool) → eqb t o ≡ b → cond b (1 + common_prefix_len nat_eq text out) 0 ≡ length (t ∷ text) → (common_prefix_len nat_eq text out ≡ length text → out ≡ text ++ drop (length text) out) → o ∷ out ≡ t ∷ (text ++ drop (length text) out)
    by true is h rest = cc (eqb-true t o is, rest (omega arith))
    by false is h rest = absurd (omega arith)

stands_prefix : (text rest : List ℕ) → common_prefix_len nat_eq text (text ++ rest) ≡ length text
stands_prefix [] rest = refl
stands_prefix (t ∷ text) rest = ap (λ b. cond b (1 + common_prefix_len nat_eq text (text ++ rest)) 0) (eq-eqb t t refl) ∙ (omega (arith, stands_prefix text rest))

-- the text stands in the output, and then comes what is behind it
pub text_stands : (output : List ℕ) (p from : ℕ) (text : List ℕ) → text_tests output p from text ≡ [] → drop from output ≡ text ++ drop (from + length text) output
text_stands output p from text e =
    let same : common_prefix_len nat_eq text (drop from output) ≡ length text = eqb-true _ _ (passed _ _ e) in
    prefix_stands text (drop from output) same ∙ ap (λ w. text ++ w) (drop-drop (length text) from output)

pub text_passes : (output : List ℕ) (p from : ℕ) (text rest : List ℕ) → drop from output ≡ text ++ rest → text_tests output p from text ≡ []
text_passes output p from text rest e =
    passes-true _ (OutputDiffers p (from + common_prefix_len nat_eq text (drop from output)))
    (eq-eqb _ _ (ap (common_prefix_len nat_eq text) e ∙ stands_prefix text rest))

pub text_behind : (output : List ℕ) (from : ℕ) (text rest : List ℕ) → drop from output ≡ text ++ rest → drop (from + length text) output ≡ rest
text_behind output from text rest e = sym (drop-drop (length text) from output) ∙ (ap (drop (length text)) e ∙ drop-append_seam text rest)

none_behind : (output : List ℕ) (from : ℕ) → length output ≤ from → drop from output ≡ []
none_behind [] from h = drop_none from
  where
    drop_none : (n : ℕ) → ◌≡◌ {A = List ℕ} (drop n []) []
    drop_none zero = refl
    drop_none (suc n) = refl
none_behind (b ∷ output) zero h = absurd (omega arith)
none_behind (b ∷ output) (suc from) h = none_behind output from (omega arith)

behind_none : (output : List ℕ) (from : ℕ) → drop from output ≡ [] → length output ≤ from
behind_none [] from e = omega arith
behind_none (b ∷ output) zero e = absurd (cc)
behind_none (b ∷ output) (suc from) e = omega (arith, behind_none output from e)

-- behind the last group nothing is left in the output
pub end_stands : (output : List ℕ) (p from : ℕ) → end_tests output p zero from ≡ [] → drop from output ≡ []
end_stands output p from e = none_behind output from (leb-true _ _ (passed _ _ e))

pub end_passes : (output : List ℕ) (p from : ℕ) → drop from output ≡ [] → end_tests output p zero from ≡ []
end_passes output p from e = passes-true _ (OutputDiffers p from) (le-leb _ _ (behind_none output from e))

-- ---- items in turn

pub told_append : (s : Subject) (st : Reached) (is js : List Item) → told s st (is ++ js) ≡ told s st is ++ told s (behind s st is) js
told_append s st [] js = refl
told_append s st (i ∷ is) js =
    ap (λ w. tests s st i ++ w) (told_append s (after s st i) is js)
    ∙ sym (append_assoc (tests s st i) (told s (after s st i) is) (told s (behind s (after s st i) is) js))

pub behind_append : (s : Subject) (st : Reached) (is js : List Item) → behind s st (is ++ js) ≡ behind s (behind s st is) js
behind_append s st [] js = refl
behind_append s st (i ∷ is) js = behind_append s (after s st i) is js
