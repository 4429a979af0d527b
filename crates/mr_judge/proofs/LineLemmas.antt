-- A text that is compared line by line.
use Rattle.std.proofs.Common.{cond, ◌≡◌, ℕ, zero, suc, ◌+◌, ◌<◌, Bool, true, false, List, [], ◌∷◌, ◌++◌, length, get_or, take, drop, refl, ap, sym, ◌∙◌, arith, inl, inr, append_assoc, length-append, subst}
use Rattle.std.proofs.lemmas.List.{append-nil}
use Rattle.std.proofs.lemmas.List.Sums.{common_prefix_len-le}
use Rattle.std.proofs.lemmas.Bool.{eqb-false, ne_eqb}
use Rattle.std.proofs.lemmas.Fmt.{decimal_digit}
use Rattle.std.specs.Prelude.{Err, decimal, nat_eq, Some as Just}
use Rattle.std.specs.List.{common_prefix_len, flat_map}
use Rattle.mr_bytes.specs.declared.Value.{Value}
use Rattle.mr_bytes.specs.declared.Value.TheVariants.{One}
use Rattle.mr_jobs.specs.declared.job.GroupText.{GroupText}
use Rattle.mr_jobs.specs.declared.job.GroupText.TheVariants.{Lines}
use Rattle.mr_jobs.specs.JobSpec.{JobSpec, counts, group_text_of, has_lines, is_lines}
use Rattle.mr_reduce.specs.Text.{place_line, text_for, text_of, total_line}
use Rattle.mr_reduce.proofs.TextLemmas.{counters_tell_the_number}
use Rattle.mr_verdict.specs.declared.answers.No.{No}
use Rattle.mr_verdict.specs.declared.answers.No.TheVariants.{OutputDiffers}
use Rattle.mr_verdict.specs.declared.items.JudgeError.{JudgeError}
use Rattle.mr_verdict.specs.declared.items.JudgeError.TheVariants.{Fault, Device, TooLong, Output, LongOutput}
use Rattle.mr_verdict.specs.Verdict.{first, passes}
use Rattle.mr_verdict.specs.Steps.{Answers}
use Rattle.mr_judge.specs.Outputs.{Ahead, TextTold}

-- ---- the lines of a group

flat_all : (f : Value → List ℕ) (vs : List Value) (i : ℕ) (d : Value) → i < length vs
    → flat_map f vs ≡ flat_map f (take i vs) ++ (flat_map f (get_or vs i d ∷ []) ++ flat_map f (drop (i + 1) vs))
flat_all f [] i d h = absurd (omega arith)
flat_all f (x ∷ xs) zero d h = ap (λ l. l ++ flat_map f xs) (sym (append-nil (f x)))
flat_all f (x ∷ xs) (suc i) d h =
    let inside : i < length xs = omega arith in
    let next : suc i + 1 ≡ suc (i + 1) = omega arith in
    ap (λ l. f x ++ l) (flat_all f xs i d inside)
    ∙ (sym (append_assoc (f x) (flat_map f (take i xs)) (flat_map f (get_or xs i d ∷ []) ++ flat_map f (drop (i + 1) xs)))
    ∙ ap (λ k. (f x ++ flat_map f (take i xs)) ++ (flat_map f (get_or xs i d ∷ []) ++ flat_map f (drop k (x ∷ xs)))) (sym next))

lines_for : (form : GroupText) (key : List ℕ) (vs : List Value) (i : ℕ) (v : Value) → is_lines form ≡ true → i < length vs → v ≡ get_or vs i One
    → text_for form key vs ≡ text_for form key (take i vs) ++ (text_for form key (v ∷ []) ++ text_for form key (drop (i + 1) vs))
lines_for Lines key vs i v e h is =
    flat_all (place_line key) vs i One h
    ∙ ap (λ w. flat_map (place_line key) (take i vs) ++ (flat_map (place_line key) (w ∷ []) ++ flat_map (place_line key) (drop (i + 1) vs))) (sym is)
lines_for form key vs i v e h is = absurd (cc e)

-- the text of all values, of which one stands behind others and before others
pub lines_all : (job : JobSpec) (key : List ℕ) (vs : List Value) (i : ℕ) (v : Value) → has_lines job ≡ true → i < length vs → v ≡ get_or vs i One
    → text_of job key vs ≡ text_of job key (take i vs) ++ (text_of job key (v ∷ []) ++ text_of job key (drop (i + 1) vs))
lines_all job key vs i v e h is = lines_for (group_text_of job) key vs i v e h is

-- ---- where texts part

same_byte : (x : ℕ) (n : ℕ) → cond (nat_eq x x) (1 + n) 0 ≡ 1 + n
same_byte x n = by (nat_eq x x) refl
  where
    by : (b : Bool) → nat_eq x x ≡ b → cond b (1 + n) 0 ≡ 1 + n
    by true h = refl
    by false h = absurd (eqb-false x x h refl)

agree_behind : (pre xs ys : List ℕ) → common_prefix_len nat_eq (pre ++ xs) (pre ++ ys) ≡ length pre + common_prefix_len nat_eq xs ys
agree_behind [] xs ys = omega arith
agree_behind (p ∷ pre) xs ys =
    same_byte p (common_prefix_len nat_eq (pre ++ xs) (pre ++ ys))
    ∙ (let h = agree_behind pre xs ys in let e : 1 + common_prefix_len nat_eq (pre ++ xs) (pre ++ ys) ≡ length (p ∷ pre) + common_prefix_len nat_eq xs ys = omega (arith, h) in e)

agree_within : (line post r : List ℕ) → (common_prefix_len nat_eq line r ≡ length line → ⊥) → common_prefix_len nat_eq (line ++ post) r ≡ common_prefix_len nat_eq line r
agree_within [] post r h = absurd (h refl)
agree_within (x ∷ line) post [] h = refl
agree_within (x ∷ line) post (y ∷ r) h = by (nat_eq x y) (agree_within line post r) h
  where
    by : (b : Bool) → ((common_prefix_len nat_eq line r ≡ length line → ⊥) → common_prefix_len nat_eq (line ++ post) r ≡ common_prefix_len nat_eq line r)
        → (cond b (1 + common_prefix_len nat_eq line r) 0 ≡ length (x ∷ line) → ⊥)
        → cond b (1 + common_prefix_len nat_eq (line ++ post) r) 0 ≡ cond b (1 + common_prefix_len nat_eq line r) 0
    by true rec h = ap (λ n. 1 + n) (rec (λ e. h (let d : 1 + common_prefix_len nat_eq line r ≡ length (x ∷ line) = omega (arith, e) in d)))
    by false rec h = refl

-- a text that parts from what is left of an output within one of its lines
parts : (p from place : ℕ) (pre line post text r : List ℕ) (e : No) → place ≡ from + length pre → text ≡ pre ++ (line ++ post)
    → Answers (let same = common_prefix_len nat_eq line r in passes (nat_eq same (length line)) (OutputDiffers p (place + same))) e
    → Answers (let same = common_prefix_len nat_eq text (pre ++ r) in passes (nat_eq same (length text)) (OutputDiffers p (from + same))) e
parts p from place pre line post text r e at is (inl memory) = inl memory
parts p from place pre line post text r e at is (inr told) = inr (by (nat_eq (common_prefix_len nat_eq line r) (length line)) refl told)
  where
    by : (b : Bool) → nat_eq (common_prefix_len nat_eq line r) (length line) ≡ b → first (passes b (OutputDiffers p (place + common_prefix_len nat_eq line r))) ≡ Just e
        → first (let same = common_prefix_len nat_eq text (pre ++ r) in passes (nat_eq same (length text)) (OutputDiffers p (from + same))) ≡ Just e
    by true h none = absurd (cc none)
    by false h told =
        let apart : common_prefix_len nat_eq line r ≡ length line → ⊥ = eqb-false (common_prefix_len nat_eq line r) (length line) h in
        let within = (common_prefix_len-le nat_eq line r).0 in
        let same : common_prefix_len nat_eq text (pre ++ r) ≡ length pre + common_prefix_len nat_eq line r =
        ap (λ t. common_prefix_len nat_eq t (pre ++ r)) is ∙ (agree_behind pre (line ++ post) r ∙ ap (λ n. length pre + n) (agree_within line post r apart)) in
        let long : length text ≡ length pre + (length line + length post) = ap length is ∙ (length-append pre (line ++ post) ∙ ap (λ n. length pre + n) (length-append line post)) in
        let less : nat_eq (common_prefix_len nat_eq text (pre ++ r)) (length text) ≡ false =
        ne_eqb (common_prefix_len nat_eq text (pre ++ r)) (length text) (λ d. apart (omega (arith, same, long, d, within))) in
        let to : from + common_prefix_len nat_eq text (pre ++ r) ≡ place + common_prefix_len nat_eq line r = omega (arith, same, at) in
        ap (λ b. first (passes b (OutputDiffers p (from + common_prefix_len nat_eq text (pre ++ r))))) less ∙ (ap (λ n. first (passes false (OutputDiffers p n))) to ∙ told)

-- ---- what an answer on a line says of the text

pub line_told : (old mid new : Ahead) (p from place : ℕ) (pre line post text : List ℕ) (e : JudgeError) → ((rest : List ℕ) (later : List (List ℕ)) → mid rest later → old (pre ++ rest) later)
    → place ≡ from + length pre → text ≡ pre ++ (line ++ post) → TextTold mid new p place line (Err e) → TextTold old new p from text (Err e)
line_told old mid new p from place pre line post text (Fault f) stood at is (r, (l, (g, told))) =
    (pre ++ r, (l, (stood r l g, parts p from place pre line post text r f at is told)))
line_told old mid new p from place pre line post text Device stood at is told = tt
line_told old mid new p from place pre line post text TooLong stood at is told = tt
line_told old mid new p from place pre line post text (Output q) stood at is told = tt
line_told old mid new p from place pre line post text LongOutput stood at is told = tt

-- a text that comes behind another
pub text_behind : (old mid new : Ahead) (pre line text : List ℕ) → ((rest : List ℕ) (later : List (List ℕ)) → mid rest later → old (pre ++ rest) later)
    → text ≡ pre ++ line → ((rest : List ℕ) (later : List (List ℕ)) → new rest later → mid (line ++ rest) later)
    → (rest : List ℕ) (later : List (List ℕ)) → new rest later → old (text ++ rest) later
text_behind old mid new pre line text stood is told rest later h =
    subst (λ l. old l later) (sym (ap (λ t. t ++ rest) is ∙ append_assoc pre line rest)) (stood (line ++ rest) later (told rest later h))

-- ---- a key that is counted once

pub counted_once : (job : JobSpec) (key : List ℕ) (vs : List Value) → counts job ≡ true → length vs ≡ 1 → text_of job key vs ≡ total_line key 1
counted_once job key vs e one = counters_tell_the_number job key vs e ∙ ap (total_line key) one

pub one_line : (key : List ℕ) → total_line key 1 ≡ key ++ 9 ∷ 49 ∷ 10 ∷ []
one_line key =
    let digit : decimal 1 ≡ 49 ∷ [] = decimal_digit 1 (omega arith) in
    ap (λ (ds : List ℕ). key ++ 9 ∷ ds ++ 10 ∷ []) digit ∙ append_assoc key (9 ∷ 49 ∷ []) (10 ∷ [])
