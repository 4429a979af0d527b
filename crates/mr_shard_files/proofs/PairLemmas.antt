-- Pairs that lines of outputs state.
use Rattle.std.proofs.Common.{◌≡◌, ℕ, zero, suc, ◌+◌, ◌<◌, ◌≤◌, ◌^◌, ◌⊎◌, inl, inr, Bool, true, false, cond, eqb, List, [], ◌∷◌, ◌++◌, append_assoc, append-nil, length, length-append, drop, take, refl, ap, sym, ◌∙◌, subst, arith, Option, None, Some}
use Rattle.std.specs.Prelude.{IfSome, MatchOption, decimal}
use Rattle.std.specs.List.{AllByRecursion, flat_map}
use Rattle.std.proofs.lemmas.Bool.{ne_eqb}
use Rattle.std.proofs.lemmas.Fmt.{decimal_injective}
use Rattle.std.proofs.lemmas.List.{length-drop, take-append-drop, take_all}
use Rattle.mr_bytes.specs.Cut.{Lacks}
use Rattle.mr_jobs.specs.JobSpec.{JobSpec, counts, group_text_of, has_lines, is_count, is_lines}
use Rattle.mr_jobs.specs.declared.job.GroupText.{GroupText}
use Rattle.mr_jobs.specs.declared.job.GroupText.TheVariants.{Count, Lines, Files}
use Rattle.mr_shards.specs.Lines.{EndsLine, after_last, lines, longer}
use Rattle.mr_shards.proofs.LineLemmas.{there}
use Rattle.mr_shards.proofs.ReadingLemmas.{after-last, decimal-lacks, lines-none}
use Rattle.mr_shard_files.specs.Pairs.{EndsInCount, HaveTotal, IsSumOf, IsTotal, IsTotalOf, StateTogether, States, StatesFor, TotalFits, UnlessFiles}

-- ---- the lines up to a line feed

pub no-lines : (text : List ℕ) → Lacks 10 text → lines text ≡ []
unfolding lines longer
no-lines [] h = refl
no-lines (b ∷ bs) h =
    ap (λ t. cond t ([] ∷ lines bs) (longer b (lines bs))) (ne_eqb b 10 h.0) ∙ ap (longer b) (no-lines bs h.1)

record HasFirst (ls : List (List ℕ)) : Type 0 where
  pub first : List ℕ
  pub rest : List (List ℕ)
  pub is : ls ≡ first ∷ rest

longer-first : (b : ℕ) (t : Bool) (ls : List (List ℕ)) → HasFirst ls → HasFirst (cond t ([] ∷ ls) (longer b ls))
unfolding longer
longer-first b true ls h = record { first = []; rest = ls; is = refl }
longer-first b false ls h = record { first = b ∷ h.first; rest = h.rest; is = ap (longer b) h.is }

some-line : (xs ys : List ℕ) → HasFirst (lines (xs ++ 10 ∷ ys))
unfolding lines
some-line [] ys = record { first = []; rest = lines ys; is = refl }
some-line (b ∷ xs) ys = longer-first b (eqb b 10) (lines (xs ++ 10 ∷ ys)) (some-line xs ys)

longer-append : (b : ℕ) (t : Bool) (ls ms rest : List (List ℕ)) → HasFirst ms → ls ≡ ms ++ rest
    → cond t ([] ∷ ls) (longer b ls) ≡ cond t ([] ∷ ms) (longer b ms) ++ rest
unfolding longer
longer-append b true ls ms rest h e = ap (λ l. [] ∷ l) e
longer-append b false ls ms rest h e =
    ap (longer b) e ∙ ap (λ m. longer b (m ++ rest)) h.is ∙ ap (λ m. longer b m ++ rest) (sym h.is)

-- the lines up to a line feed, and those behind it
lines-split : (xs ys : List ℕ) → lines (xs ++ 10 ∷ ys) ≡ lines (xs ++ 10 ∷ []) ++ lines ys
unfolding lines
lines-split [] ys = refl
lines-split (b ∷ xs) ys = longer-append b (eqb b 10) (lines (xs ++ 10 ∷ ys)) (lines (xs ++ 10 ∷ [])) (lines ys) (some-line xs []) (lines-split xs ys)

-- ---- a line

last_number : (line key digits : List ℕ) → line ≡ key ++ 9 ∷ digits → Lacks 9 digits → after_last 9 line ≡ digits
last_number line key digits is clear = ap (after_last 9) is ∙ after-last 9 key digits clear

no_tab : (n : ℕ) → n < 2 ^ 64 → Lacks 9 (decimal n)
no_tab n small = decimal-lacks 9 n (λ h. omega (arith, h.0)) small

count_one : (line : List ℕ) (k m : ℕ) → EndsInCount line k → EndsInCount line m → k ≡ m
count_one line k m h g =
    decimal_injective k m h.0 g.0 (sym (last_number line h.1.0 (decimal k) h.1.1 (no_tab k h.0)) ∙ last_number line g.1.0 (decimal m) g.1.1 (no_tab m g.0))

states_one : (form : GroupText) (line : List ℕ) (k m : ℕ) → StatesFor form line k → StatesFor form line m → k ≡ m
states_one Count line k m h g = count_one line k m h g
states_one Lines line k m h g = h ∙ sym g
states_one Files line k m h g = h ∙ sym g

states_count : (form : GroupText) (line : List ℕ) (n : ℕ) → is_count form ≡ true → EndsInCount line n → StatesFor form line n
states_count Count line n e h = h
states_count form line n e h = absurd (cc e)

count_stated : (form : GroupText) (line : List ℕ) (n : ℕ) → is_count form ≡ true → StatesFor form line n → EndsInCount line n
count_stated Count line n e h = h
count_stated form line n e h = absurd (cc e)

-- this is the number that a line states, or none fits
abbrev pub IsStated : JobSpec → List ℕ → Option ℕ → Type 0
IsStated job line r = MatchOption r ((n : ℕ) → n < 2 ^ 64 → States job line n → ⊥) (States job line)

pub number_stated : (job : JobSpec) (line key digits : List ℕ) (r : Option ℕ) → counts job ≡ true → line ≡ key ++ 9 ∷ digits → Lacks 9 digits → IfSome r (λ n. n < 2 ^ 64)
    → MatchOption r ((n : ℕ) → n < 2 ^ 64 → digits ≡ decimal n → ⊥) (λ n. digits ≡ decimal n) → IsStated job line r
number_stated job line key digits (Some n) e is clear small h = states_count (group_text_of job) line n e (small, (key, is ∙ ap (λ d. key ++ 9 ∷ d) h))
number_stated job line key digits None e is clear small h = λ n less s.
    let c = count_stated (group_text_of job) line n e s in
    h n less (sym (last_number line key digits is clear) ∙ last_number line c.1.0 (decimal n) c.1.1 (no_tab n less))

pub none_without : (job : JobSpec) (line : List ℕ) → counts job ≡ true → Lacks 9 line → IsStated job line None
none_without job line e clear = λ n small s. let c = count_stated (group_text_of job) line n e s in there 9 line c.1.0 (decimal n) c.1.1 clear

-- ---- sums

module _ {A : Type 0} (P : List A → ℕ → Type 0) (on : (xs ys : List A) (k m : ℕ) → P xs k → P ys m → P (xs ++ ys) (k + m))
    (back : (xs ys : List A) (n : ℕ) → P (xs ++ ys) n → (k : ℕ) × (m : ℕ) × P xs k × P ys m × (n ≡ k + m))
    (one : (xs : List A) (k m : ℕ) → P xs k → P xs m → k ≡ m) where
  abbrev Is : List A → Option ℕ → Type 0
  Is xs t = MatchOption t ((n : ℕ) → n < 2 ^ 64 → P xs n → ⊥) (P xs)

  sum_is : (xs ys : List A) (a b r : Option ℕ) → Is xs a → Is ys b → IsSumOf a b r → Is (xs ++ ys) r
  sum_is xs ys (Some m) (Some n) (Some k) h g s =
      let e : m ≡ s.0 = cc in
      let f : n ≡ s.1 = cc in
      subst (P (xs ++ ys)) (sym (s.4 ∙ ap (λ x. x + s.1) (sym e) ∙ ap (λ x. m + x) (sym f))) (on xs ys m n h g)
  sum_is xs ys None b (Some k) h g s = absurd (let e : None ≡ Some s.0 = s.2 in cc)
  sum_is xs ys (Some m) None (Some k) h g s = absurd (let e : None ≡ Some s.1 = s.3 in cc)
  sum_is xs ys None b None h g s = λ n small t. let r = back xs ys n t in h r.0 (omega (arith, r.4, small)) r.2
  sum_is xs ys (Some m) None None h g s = λ n small t. let r = back xs ys n t in g r.1 (omega (arith, r.4, small)) r.3
  sum_is xs ys (Some m) (Some k) None h g s = λ n small t.
      let r = back xs ys n t in
      omega (arith, s m k refl refl, one xs r.0 m r.2 h, one ys r.1 k r.3 g, r.4, small)

-- ---- lines

module _ (job : JobSpec) where
  together_on : (ls ms : List (List ℕ)) (k m : ℕ) → StateTogether job ls k → StateTogether job ms m → StateTogether job (ls ++ ms) (k + m)
  together_on [] ms k m h g = let e : m ≡ k + m = omega (arith, h) in subst (StateTogether job ms) e g
  together_on (l ∷ ls) ms k m h g = (h.0, h.1 + m, h.2, together_on ls ms h.1 m h.3 g, omega (arith, h.4))

  together_back : (ls ms : List (List ℕ)) (n : ℕ) → StateTogether job (ls ++ ms) n → (k : ℕ) × (m : ℕ) × StateTogether job ls k × StateTogether job ms m × (n ≡ k + m)
  together_back [] ms n h = (0, n, refl, h, omega arith)
  together_back (l ∷ ls) ms n h =
      let r = together_back ls ms h.1 h.3 in
      (h.0 + r.0, r.1, (h.0, r.0, h.2, r.2, refl), r.3, omega (arith, h.4, r.4))

  together_one : (ls : List (List ℕ)) (k m : ℕ) → StateTogether job ls k → StateTogether job ls m → k ≡ m
  together_one [] k m h g = h ∙ sym g
  together_one (l ∷ ls) k m h g = omega (arith, states_one (group_text_of job) l h.0 g.0 h.2 g.2, together_one ls h.1 g.1 h.3 g.3, h.4, g.4)

  pub total_more : (ls ms : List (List ℕ)) (a b r : Option ℕ) → IsTotal job ls a → IsTotal job ms b → IsSumOf a b r → IsTotal job (ls ++ ms) r
  total_more ls ms a b r h g s = sum_is (StateTogether job) together_on together_back together_one ls ms a b r h g s

  pub total_of_line : (l : List ℕ) (r : Option ℕ) → IsStated job l r → IsTotal job (l ∷ []) r
  total_of_line l (Some n) h = (n, 0, h, refl, omega arith)
  total_of_line l None h = λ n small t. h t.0 (omega (arith, t.4, small)) t.2

  -- ---- texts

  all_on : (xs ys : List (List ℕ)) → AllByRecursion EndsLine xs → AllByRecursion EndsLine ys → AllByRecursion EndsLine (xs ++ ys)
  all_on [] ys h g = g
  all_on (x ∷ xs) ys h g = (h.0, all_on xs ys h.1 g)

  all_back : (xs ys : List (List ℕ)) → AllByRecursion EndsLine (xs ++ ys) → AllByRecursion EndsLine xs × AllByRecursion EndsLine ys
  all_back [] ys h = (tt, h)
  all_back (x ∷ xs) ys h = let r = all_back xs ys h.1 in ((h.0, r.0), r.1)

  lines_on : (xs ys : List (List ℕ)) → flat_map lines (xs ++ ys) ≡ flat_map lines xs ++ flat_map lines ys
  lines_on [] ys = refl
  lines_on (x ∷ xs) ys = ap (λ l. lines x ++ l) (lines_on xs ys) ∙ sym (append_assoc (lines x) (flat_map lines xs) (flat_map lines ys))

  have_on : (xs ys : List (List ℕ)) (k m : ℕ) → HaveTotal job xs k → HaveTotal job ys m → HaveTotal job (xs ++ ys) (k + m)
  have_on xs ys k m h g =
      (all_on xs ys h.0 g.0, subst (λ ls. StateTogether job ls (k + m)) (sym (lines_on xs ys)) (together_on (flat_map lines xs) (flat_map lines ys) k m h.1 g.1))

  have_back : (xs ys : List (List ℕ)) (n : ℕ) → HaveTotal job (xs ++ ys) n → (k : ℕ) × (m : ℕ) × HaveTotal job xs k × HaveTotal job ys m × (n ≡ k + m)
  have_back xs ys n h =
      let all = all_back xs ys h.0 in
      let r = together_back (flat_map lines xs) (flat_map lines ys) n (subst (λ ls. StateTogether job ls n) (lines_on xs ys) h.1) in
      (r.0, r.1, (all.0, r.2), (all.1, r.3), r.4)

  pub have_one : (xs : List (List ℕ)) (k m : ℕ) → HaveTotal job xs k → HaveTotal job xs m → k ≡ m
  have_one xs k m h g = together_one (flat_map lines xs) k m h.1 g.1

  pub texts_more : (xs ys : List (List ℕ)) (a b r : Option ℕ) → IsTotalOf job xs a → IsTotalOf job ys b → IsSumOf a b r → IsTotalOf job (xs ++ ys) r
  texts_more xs ys a b r h g s = sum_is (HaveTotal job) have_on have_back have_one xs ys a b r h g s

  pub no_texts : IsTotalOf job [] (Some 0)
  no_texts = (tt, refl)

  pub text_total : (text : List ℕ) (t : Option ℕ) → EndsLine text → IsTotal job (lines text) t → IsTotalOf job (text ∷ []) t
  text_total text (Some n) e h = ((e, tt), subst (λ ls. StateTogether job ls n) (sym (append-nil (lines text))) h)
  text_total text None e h = λ n small t. h n small (subst (λ ls. StateTogether job ls n) (append-nil (lines text)) t.1)

  pub open_total : (text : List ℕ) → (EndsLine text → ⊥) → IsTotalOf job (text ∷ []) None
  open_total text f = λ n small t. f t.0.0

-- ---- texts of whole lines

pub lines_behind : (a b : List ℕ) → EndsLine a → lines (a ++ b) ≡ lines a ++ lines b
lines_behind a b (inl none) =
    ap (λ x. lines (x ++ b)) none ∙ ap (λ ls. ls ++ lines b) (sym lines-none) ∙ ap (λ x. lines x ++ lines b) (sym none)
lines_behind a b (inr (first, is)) =
    ap (λ x. lines (x ++ b)) is ∙ ap lines (append_assoc first (10 ∷ []) b) ∙ lines-split first b ∙ ap (λ x. lines x ++ lines b) (sym is)

pub ends_behind : (a b : List ℕ) → EndsLine a → EndsLine b → EndsLine (a ++ b)
ends_behind a b e (inl none) = subst EndsLine (sym (ap (λ x. a ++ x) none ∙ append-nil a)) e
ends_behind a b e (inr (first, is)) = inr (a ++ first, ap (λ x. a ++ x) is ∙ sym (append_assoc a first (10 ∷ [])))

drop_front : (a b : List ℕ) → drop (length a) (a ++ b) ≡ b
drop_front [] b = refl
drop_front (x ∷ a) b = drop_front a b

drop_within : (xs ys : List ℕ) (n : ℕ) → n ≤ length xs → drop n (xs ++ ys) ≡ drop n xs ++ ys
drop_within xs ys zero le = refl
drop_within [] ys (suc n) le = absurd (omega (arith, le))
drop_within (x ∷ xs) ys (suc n) le = drop_within xs ys n (omega (arith, le))

-- behind whole lines there are bytes without a line feed
pub open_end : (a b : List ℕ) → Lacks 10 b → 0 < length b → EndsLine (a ++ b) → ⊥
open_end a b clear some (inl none) = let e = ap length none in let l = length-append a b in omega (arith, e, l, some)
open_end a b clear some (inr (first, is)) =
    let e = ap length is in
    let l = length-append a b in
    let m = length-append first (10 ∷ []) in
    let within : length a ≤ length first = omega (arith, e, l, m, some) in
    there 10 b (drop (length a) first) [] (sym (drop_front a b) ∙ ap (drop (length a)) is ∙ drop_within first (10 ∷ []) (length a) within) clear

module _ (job : JobSpec) (passed held : List ℕ) (k : ℕ) (a b r : Option ℕ) (whole : EndsLine passed) (lines_are : EndsLine (take k held)) (before : IsTotal job (lines passed) a)
    (here : IsTotal job (lines (take k held)) b) (sum : IsSumOf a b r) where
  pub window_total : IsTotal job (lines (passed ++ take k held)) r
  window_total = subst (λ ls. IsTotal job ls r) (sym (lines_behind passed (take k held) whole)) (total_more job (lines passed) (lines (take k held)) a b r before here sum)

  pub last_window : length held ≤ k → IsTotalOf job ((passed ++ held) ∷ []) r
  last_window all =
      subst (λ x. IsTotalOf job ((passed ++ x) ∷ []) r) (take_all k held all)
      (text_total job (passed ++ take k held) r (ends_behind passed (take k held) whole lines_are) window_total)

  pub open_window : k < length held → Lacks 10 (drop k held) → IsTotalOf job ((passed ++ held) ∷ []) None
  open_window less clear =
      let same : (passed ++ take k held) ++ drop k held ≡ passed ++ held = append_assoc passed (take k held) (drop k held) ∙ ap (λ x. passed ++ x) (take-append-drop k held) in
      let some : 0 < length (drop k held) = let l = length-drop k held in omega (arith, l, less) in
      open_total job (passed ++ held) (λ e. open_end (passed ++ take k held) (drop k held) clear some (subst EndsLine (sym same) e))

-- ---- the total of a verdict

fits_total : (form : GroupText) {fact : Type 0} → (is_count form ≡ true) ⊎ (is_lines form ≡ true) → UnlessFiles form fact → fact
fits_total Count w h = h
fits_total Lines w h = h
fits_total Files (inl e) h = absurd (cc e)
fits_total Files (inr e) h = absurd (cc e)

pub other_total : (job : JobSpec) (texts : List (List ℕ)) (t : Option ℕ) (n : ℕ) → (counts job ≡ true) ⊎ (has_lines job ≡ true) → n < 2 ^ 64 → IsTotalOf job texts t
    → (t ≡ Some n → ⊥) → TotalFits job texts n → ⊥
other_total job texts (Some m) n w small h f g = f (ap Some (have_one job texts m n h (fits_total (group_text_of job) w g)))
other_total job texts None n w small h f g = h n small (fits_total (group_text_of job) w g)
