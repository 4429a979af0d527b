-- The field of a number, by separators and by gaps.
use Rattle.std.proofs.Common.{◌≡◌, ℕ, zero, suc, ◌+◌, ◌-◌, ◌<◌, ◌≤◌, Bool, true, false, not, cond, eqb, List, [], ◌∷◌, ◌++◌, Option, None, Some, length, take, drop, get_or, refl, sym, ◌∙◌, ap, subst, arith, inl, inr, length-append, append_assoc}
use Rattle.std.specs.List.{AllByRecursion, prefix_len}
use Rattle.std.specs.Prelude.{option_and_then}
use Rattle.std.proofs.lemmas.Bool.{cases_Bool, true≢false, eqb-true, eq-eqb}
use Rattle.std.proofs.lemmas.List.{take-append-drop}
use Rattle.std.proofs.lemmas.List.Folds.{length-prefix_len}
use Rattle.std.proofs.lemmas.List.Sums.{prefix_len_is}
use Rattle.std.proofs.Math.Seq.{drop-append_seam, take-append_seam}
use Rattle.memchr.specs.Find.{NoneBefore, Nowhere, Passes, is_byte2}
use Rattle.mr_bytes.specs.Cut.{Lacks}
use Rattle.mr_lanes.specs.Blanks.{is_blank}
use Rattle.mr_jobs.specs.Url.{after_byte, before_byte, some_bytes}
use Rattle.mr_jobs.specs.Fields.{EndsOr, Gapped, IsGapped, LacksBlanks, behind_blanks, behind_stretch, field_behind, field_of, gapped_bytes, is_no_blank, separated, stretch_behind, stretch_of}
use Rattle.mr_jobs.specs.Laws.{FieldsAreBetween, FieldsAreStretches}
use Rattle.mr_jobs.proofs.UrlLemmas.{Chained, Follows, StartsWith, after-cut, after-lacks, after-split, before-all, before-cut, before-lacks, chained, follows, some-bytes, some_bytes-is}

-- ---- between separators

pub between-zero : (s : ℕ) (line : List ℕ) → field_behind s zero line ≡ Some (before_byte s line)
unfolding field_behind
between-zero s line = refl

pub between-suc : (s n : ℕ) (line : List ℕ) → field_behind s (suc n) line ≡ option_and_then (field_behind s n) (after_byte s line)
unfolding field_behind
between-suc s n line = refl

-- one separator on
pub between-next : (s left : ℕ) (rest behind : List ℕ) → 0 < left → after_byte s rest ≡ Some behind → field_behind s left rest ≡ field_behind s (left - 1) behind
between-next s zero rest behind more e = absurd (omega (arith, more))
between-next s (suc n) rest behind more e =
    between-suc s n rest ∙ ap (option_and_then (field_behind s n)) e ∙ ap (λ k. field_behind s k behind) (let same : n ≡ suc n - 1 = omega arith in same)

pub between-none : (s left : ℕ) (rest : List ℕ) → 0 < left → after_byte s rest ≡ None → field_behind s left rest ≡ None
between-none s zero rest more e = absurd (omega (arith, more))
between-none s (suc n) rest more e = between-suc s n rest ∙ ap (option_and_then (field_behind s n)) e

before-ends : (s : ℕ) (field rest : List ℕ) → Lacks s field → EndsOr (λ b. b ≡ s) rest → before_byte s (field ++ rest) ≡ field
before-ends s field [] lacks ends = ap (before_byte s) (append-none field) ∙ before-all s field lacks
  where
    append-none : (xs : List ℕ) → xs ++ [] ≡ xs
    append-none [] = refl
    append-none (x ∷ xs) = ap (λ l. x ∷ l) (append-none xs)
before-ends s field (b ∷ bs) lacks ends = before-cut s (field ++ b ∷ bs) field bs (ap (λ x. field ++ x ∷ bs) ends, lacks)

-- the parts give the field
field-of_parts : (s : ℕ) (before : List (List ℕ)) (field rest : List ℕ) → AllByRecursion (Lacks s) before → Lacks s field → EndsOr (λ b. b ≡ s) rest
    → field_behind s (length before) (separated s before ++ (field ++ rest)) ≡ Some field
field-of_parts s [] field rest all lacks ends = between-zero s (field ++ rest) ∙ ap Some (before-ends s field rest lacks ends)
field-of_parts s (b ∷ bs) field rest all lacks ends =
    let more : List ℕ = separated s bs ++ (field ++ rest) in
    let is : separated s (b ∷ bs) ++ (field ++ rest) ≡ b ++ s ∷ more = append_assoc b (s ∷ separated s bs) (field ++ rest) in
    between-suc s (length bs) (separated s (b ∷ bs) ++ (field ++ rest))
    ∙ ap (option_and_then (field_behind s (length bs))) (after-cut s (separated s (b ∷ bs) ++ (field ++ rest)) b more (is, all.0))
    ∙ field-of_parts s bs field rest all.1 lacks ends

-- the field behind so many separators, by parts
pub record Between (s n : ℕ) (line field : List ℕ) : Type 0 where
  pub before : List (List ℕ)
  pub rest : List ℕ
  pub line_is : line ≡ separated s before ++ (field ++ rest)
  pub count : length before ≡ n
  pub none_before : AllByRecursion (Lacks s) before
  pub none_inside : Lacks s field
  pub ends : EndsOr (λ b. b ≡ s) rest

ends_or : (s : ℕ) (rest : List ℕ) → StartsWith s rest → EndsOr (λ b. b ≡ s) rest
ends_or s [] h = tt
ends_or s (x ∷ xs) h = h

one_more : (s n : ℕ) (line behind field : List ℕ) → line ≡ before_byte s line ++ s ∷ behind → Between s n behind field → Between s (suc n) line field
one_more s n line behind field is p = record {
  before = before_byte s line ∷ p.before;
  rest = p.rest;
  line_is = is ∙ ap (λ l. before_byte s line ++ s ∷ l) p.line_is ∙ sym (append_assoc (before_byte s line) (s ∷ separated s p.before) (field ++ p.rest));
  count = ap suc p.count;
  none_before = (before-lacks s line, p.none_before);
  none_inside = p.none_inside;
  ends = p.ends;
}

parts-of_field : (s n : ℕ) (line field : List ℕ) → field_behind s n line ≡ Some field → Between s n line field
parts-of_field s zero line field h =
    let some : Some (before_byte s line) ≡ Some field = sym (between-zero s line) ∙ h in
    let same : before_byte s line ≡ field = cc in
    let f : Follows s line = follows s line in
    record {
      before = [];
      rest = f.rest;
      line_is = f.all ∙ ap (λ l. l ++ f.rest) same;
      count = refl;
      none_before = tt;
      none_inside = subst (Lacks s) same (before-lacks s line);
      ends = ends_or s f.rest f.begins;
    }
parts-of_field s (suc n) line field h =
    let c : Chained (field_behind s n) (after_byte s line) field = chained (field_behind s n) (after_byte s line) field (sym (between-suc s n line) ∙ h) in
    one_more s n line c.between field (after-split s line c.between c.o_is) (parts-of_field s n c.between field c.r_is)

pub fields_between : FieldsAreBetween
fields_between s number line key some = (
  λ h.
      let p : Between s (number - 1) line key = parts-of_field s (number - 1) line key h in
      record {
        before = p.before;
        rest = p.rest;
        line_is = p.line_is;
        number_is = omega (arith, p.count, some);
        none_before = p.none_before;
        none_inside = p.none_inside;
        ends = p.ends;
      },
  λ p.
      let n : number - 1 ≡ length p.before = omega (arith, p.number_is) in
      ap (λ k. field_behind s k line) n ∙ ap (field_behind s (length p.before)) p.line_is
      ∙ field-of_parts s p.before key p.rest p.none_before p.none_inside p.ends,
)

-- ---- by gaps

stretch-zero : (line : List ℕ) → stretch_behind zero line ≡ some_bytes (stretch_of line)
unfolding stretch_behind
stretch-zero line = refl

pub stretch-suc : (n : ℕ) (line : List ℕ) → stretch_behind (suc n) line ≡ stretch_behind n (behind_blanks (behind_stretch line))
unfolding stretch_behind
stretch-suc n line = refl

-- no bytes, and some
pub none_left : (xs : List ℕ) → eqb (length xs) 0 ≡ true → xs ≡ []
none_left [] e = refl
none_left (x ∷ xs) e = absurd (omega (arith, eqb-true (length (x ∷ xs)) 0 e))

pub some_left : (xs : List ℕ) → eqb (length xs) 0 ≡ false → 0 < length xs
some_left [] e = absurd (true≢false (sym (eq-eqb 0 0 refl) ∙ e))
some_left (x ∷ xs) e = omega arith

pub no-bytes : (xs : List ℕ) → xs ≡ [] → some_bytes xs ≡ None
no-bytes xs e = ap some_bytes e

-- one stretch on
pub stretch-next : (left : ℕ) (rest : List ℕ) → 0 < left → stretch_behind left rest ≡ stretch_behind (left - 1) (behind_blanks (behind_stretch rest))
stretch-next zero rest more = absurd (omega (arith, more))
stretch-next (suc n) rest more =
    stretch-suc n rest ∙ ap (λ k. stretch_behind k (behind_blanks (behind_stretch rest))) (let same : n ≡ suc n - 1 = omega arith in same)

-- the last one
pub stretch-last : (left : ℕ) (rest : List ℕ) → left ≡ 0 → stretch_behind left rest ≡ some_bytes (stretch_of rest)
stretch-last left rest e = ap (λ k. stretch_behind k rest) e ∙ stretch-zero rest

pub stretch-nil : (n : ℕ) → stretch_behind n [] ≡ None
stretch-nil zero = stretch-zero []
stretch-nil (suc n) = stretch-suc n [] ∙ stretch-nil n

-- bytes that all pass, and then nothing or one that doesn't
run-length : (p : ℕ → Bool) (xs ys : List ℕ) → AllByRecursion (λ b. p b ≡ true) xs → EndsOr (λ b. p b ≡ false) ys → prefix_len p (xs ++ ys) ≡ length xs
run-length p [] [] all ends = refl
run-length p [] (y ∷ ys) all ends = ap (λ t. cond t (1 + prefix_len p ys) 0) ends
run-length p (x ∷ xs) ys all ends =
    let here : prefix_len p ((x ∷ xs) ++ ys) ≡ 1 + prefix_len p (xs ++ ys) = ap (λ t. cond t (1 + prefix_len p (xs ++ ys)) 0) all.0 in
    omega (arith, here, run-length p xs ys all.1 ends)

run-taken : (p : ℕ → Bool) (xs ys : List ℕ) → AllByRecursion (λ b. p b ≡ true) xs → EndsOr (λ b. p b ≡ false) ys → take (prefix_len p (xs ++ ys)) (xs ++ ys) ≡ xs
run-taken p xs ys all ends = ap (λ n. take n (xs ++ ys)) (run-length p xs ys all ends) ∙ take-append_seam xs ys

run-dropped : (p : ℕ → Bool) (xs ys : List ℕ) → AllByRecursion (λ b. p b ≡ true) xs → EndsOr (λ b. p b ≡ false) ys → drop (prefix_len p (xs ++ ys)) (xs ++ ys) ≡ ys
run-dropped p xs ys all ends = ap (λ n. drop n (xs ++ ys)) (run-length p xs ys all ends) ∙ drop-append_seam xs ys

-- the other way round
suc_of : (n : ℕ) → 1 + n ≡ suc n
suc_of n = omega arith

run-all : (p : ℕ → Bool) (xs : List ℕ) → AllByRecursion (λ b. p b ≡ true) (take (prefix_len p xs) xs)
run-all p [] = tt
run-all p (x ∷ xs) = by (p x) refl (run-all p xs)
  where
    by : (t : Bool) → p x ≡ t → AllByRecursion (λ b. p b ≡ true) (take (prefix_len p xs) xs) → AllByRecursion (λ b. p b ≡ true) (take (cond t (1 + prefix_len p xs) 0) (x ∷ xs))
    by true e later = subst (λ n. AllByRecursion (λ b. p b ≡ true) (take n (x ∷ xs))) (sym (suc_of (prefix_len p xs))) (e, later)
    by false e later = tt

run-ends : (p : ℕ → Bool) (xs : List ℕ) → EndsOr (λ b. p b ≡ false) (drop (prefix_len p xs) xs)
run-ends p [] = tt
run-ends p (x ∷ xs) = by (p x) refl (run-ends p xs)
  where
    by : (t : Bool) → p x ≡ t → EndsOr (λ b. p b ≡ false) (drop (prefix_len p xs) xs) → EndsOr (λ b. p b ≡ false) (drop (cond t (1 + prefix_len p xs) 0) (x ∷ xs))
    by true e later = subst (λ n. EndsOr (λ b. p b ≡ false) (drop n (x ∷ xs))) (sym (suc_of (prefix_len p xs))) later
    by false e later = e

run-some : (p : ℕ → Bool) (xs : List ℕ) → 0 < length xs → EndsOr (λ b. p b ≡ true) xs → 0 < length (take (prefix_len p xs) xs)
run-some p [] some first = absurd (omega (arith, some))
run-some p (x ∷ xs) some first =
    let here : prefix_len p (x ∷ xs) ≡ 1 + prefix_len p xs = ap (λ t. cond t (1 + prefix_len p xs) 0) first in
    omega (arith, here, length-prefix_len p (x ∷ xs))

-- a blank, and no blank
not_true : (t : Bool) → not t ≡ true → t ≡ false
not_true true e = sym e
not_true false e = refl

not_false : (t : Bool) → not t ≡ false → t ≡ true
not_false true e = refl
not_false false e = sym e

lacks : (xs : List ℕ) → AllByRecursion (λ b. is_no_blank b ≡ true) xs → LacksBlanks xs
lacks [] all = tt
lacks (x ∷ xs) all = (not_true (is_blank x) all.0, lacks xs all.1)

passes : (xs : List ℕ) → LacksBlanks xs → AllByRecursion (λ b. is_no_blank b ≡ true) xs
passes [] all = tt
passes (x ∷ xs) all = (ap not all.0, passes xs all.1)

ends-blank : (xs : List ℕ) → EndsOr (λ b. is_no_blank b ≡ false) xs → EndsOr (λ b. is_blank b ≡ true) xs
ends-blank [] ends = tt
ends-blank (x ∷ xs) ends = not_false (is_blank x) ends

blank-ends : (xs : List ℕ) → EndsOr (λ b. is_blank b ≡ true) xs → EndsOr (λ b. is_no_blank b ≡ false) xs
blank-ends [] ends = tt
blank-ends (x ∷ xs) ends = ap not ends

first-passes : (xs : List ℕ) → EndsOr (λ b. is_blank b ≡ false) xs → EndsOr (λ b. is_no_blank b ≡ true) xs
first-passes [] ends = tt
first-passes (x ∷ xs) ends = ap not ends

-- some bytes of a kind in front
front : (P : ℕ → Type 0) (xs ys : List ℕ) → 0 < length xs → AllByRecursion P xs → EndsOr P (xs ++ ys)
front P [] ys some all = absurd (omega (arith, some))
front P (x ∷ xs) ys some all = all.0

first-of_parts : (before : List Gapped) (field rest : List ℕ) → AllByRecursion IsGapped before → 0 < length field → LacksBlanks field
    → EndsOr (λ b. is_blank b ≡ false) (gapped_bytes before ++ (field ++ rest))
first-of_parts [] field rest all some clear = front (λ b. is_blank b ≡ false) field rest some clear
first-of_parts (g ∷ gs) field rest all some clear =
    subst (EndsOr (λ b. is_blank b ≡ false)) (sym (append_assoc g.stretch (g.gap ++ gapped_bytes gs) (field ++ rest)))
    (front (λ b. is_blank b ≡ false) g.stretch ((g.gap ++ gapped_bytes gs) ++ (field ++ rest)) all.0.some_stretch all.0.stretch_is)

-- the parts give the field
stretch-of_parts : (before : List Gapped) (field rest : List ℕ) → AllByRecursion IsGapped before → 0 < length field → LacksBlanks field
    → EndsOr (λ b. is_blank b ≡ true) rest → stretch_behind (length before) (gapped_bytes before ++ (field ++ rest)) ≡ Some field
stretch-of_parts [] field rest all some clear ends =
    stretch-zero (field ++ rest) ∙ ap some_bytes (run-taken is_no_blank field rest (passes field clear) (blank-ends rest ends)) ∙ some-bytes field some
stretch-of_parts (g ∷ gs) field rest all some clear ends =
    let more : List ℕ = gapped_bytes gs ++ (field ++ rest) in
    let line : List ℕ = gapped_bytes (g ∷ gs) ++ (field ++ rest) in
    let is : line ≡ g.stretch ++ (g.gap ++ more) =
    append_assoc g.stretch (g.gap ++ gapped_bytes gs) (field ++ rest) ∙ ap (λ l. g.stretch ++ l) (append_assoc g.gap (gapped_bytes gs) (field ++ rest)) in
    let gap : EndsOr (λ b. is_blank b ≡ true) (g.gap ++ more) = front (λ b. is_blank b ≡ true) g.gap more all.0.some_gap all.0.gap_is in
    let behind : behind_stretch line ≡ g.gap ++ more =
    ap behind_stretch is ∙ run-dropped is_no_blank g.stretch (g.gap ++ more) (passes g.stretch all.0.stretch_is) (blank-ends (g.gap ++ more) gap) in
    stretch-suc (length gs) line
    ∙ ap (λ l. stretch_behind (length gs) (behind_blanks l)) behind
    ∙ ap (stretch_behind (length gs)) (run-dropped is_blank g.gap more all.0.gap_is (first-of_parts gs field rest all.1 some clear))
    ∙ stretch-of_parts gs field rest all.1 some clear ends

-- the field behind so many others of bytes that begin with a stretch, by parts
pub record Behind (n : ℕ) (line field : List ℕ) : Type 0 where
  pub before : List Gapped
  pub rest : List ℕ
  pub line_is : line ≡ gapped_bytes before ++ (field ++ rest)
  pub count : length before ≡ n
  pub stretches : AllByRecursion IsGapped before
  pub some_field : 0 < length field
  pub field_is : LacksBlanks field
  pub ends : EndsOr (λ b. is_blank b ≡ true) rest

parted : (p : ℕ → Bool) (xs : List ℕ) → xs ≡ take (prefix_len p xs) xs ++ drop (prefix_len p xs) xs
parted p xs = sym (take-append-drop (prefix_len p xs) xs)

stretch-more : (n : ℕ) (line field : List ℕ) → EndsOr (λ b. is_blank b ≡ false) line → Behind n (behind_blanks (behind_stretch line)) field → Behind (suc n) line field
stretch-more n line field first p =
    let behind : List ℕ = behind_stretch line in
    let lead : List ℕ = take (prefix_len is_blank behind) behind in
    let tail : behind_blanks behind ≡ gapped_bytes p.before ++ (field ++ p.rest) = p.line_is in
    let line_is : line ≡ stretch_of line ++ behind = parted is_no_blank line in
    let behind_is : behind ≡ lead ++ behind_blanks behind = parted is_blank behind in
    let long : 0 < length behind =
    omega (arith, ap length behind_is, length-append lead (behind_blanks behind), ap length tail, length-append (gapped_bytes p.before) (field ++ p.rest), length-append field p.rest, p.some_field) in
    let one : Gapped = record { stretch = stretch_of line; gap = lead } in
    record {
      before = one ∷ p.before;
      rest = p.rest;
      line_is = line_is ∙ ap (λ l. stretch_of line ++ l) (behind_is ∙ ap (λ l. lead ++ l) tail ∙ sym (append_assoc lead (gapped_bytes p.before) (field ++ p.rest)))
          ∙ sym (append_assoc (stretch_of line) (lead ++ gapped_bytes p.before) (field ++ p.rest));
      count = ap suc p.count;
      stretches = (
        record {
          some_stretch = run-some is_no_blank line (omega (arith, ap length line_is, length-append (stretch_of line) behind, long)) (first-passes line first);
          stretch_is = lacks (stretch_of line) (run-all is_no_blank line);
          some_gap = run-some is_blank behind long (ends-blank behind (run-ends is_no_blank line));
          gap_is = run-all is_blank behind;
        },
        p.stretches,
      );
      some_field = p.some_field;
      field_is = p.field_is;
      ends = p.ends;
    }

parts-of_stretch : (n : ℕ) (line field : List ℕ) → EndsOr (λ b. is_blank b ≡ false) line → stretch_behind n line ≡ Some field → Behind n line field
parts-of_stretch zero line field first h =
    let some = some_bytes-is (stretch_of line) field (sym (stretch-zero line) ∙ h) in
    record {
      before = [];
      rest = behind_stretch line;
      line_is = parted is_no_blank line ∙ ap (λ l. l ++ behind_stretch line) some.0;
      count = refl;
      stretches = tt;
      some_field = some.1;
      field_is = subst LacksBlanks some.0 (lacks (stretch_of line) (run-all is_no_blank line));
      ends = ends-blank (behind_stretch line) (run-ends is_no_blank line);
    }
parts-of_stretch (suc n) line field first h =
    stretch-more n line field first
    (parts-of_stretch n (behind_blanks (behind_stretch line)) field (run-ends is_blank (behind_stretch line)) (sym (stretch-suc n line) ∙ h))

pub fields_stretches : FieldsAreStretches
fields_stretches number line key some = (
  λ h.
      let p : Behind (number - 1) (behind_blanks line) key = parts-of_stretch (number - 1) (behind_blanks line) key (run-ends is_blank line) h in
      record {
        lead = take (prefix_len is_blank line) line;
        before = p.before;
        rest = p.rest;
        line_is = parted is_blank line ∙ ap (λ l. take (prefix_len is_blank line) line ++ l) p.line_is;
        number_is = omega (arith, p.count, some);
        lead_is = run-all is_blank line;
        stretches = p.stretches;
        some_field = p.some_field;
        field_is = p.field_is;
        ends = p.ends;
      },
  λ p.
      let n : number - 1 ≡ length p.before = omega (arith, p.number_is) in
      let tail : List ℕ = gapped_bytes p.before ++ (key ++ p.rest) in
      let behind : behind_blanks line ≡ tail =
      ap behind_blanks p.line_is ∙ run-dropped is_blank p.lead tail p.lead_is (first-of_parts p.before key p.rest p.stretches p.some_field p.field_is) in
      ap (λ k. stretch_behind k (behind_blanks line)) n ∙ ap (stretch_behind (length p.before)) behind
      ∙ stretch-of_parts p.before key p.rest p.stretches p.some_field p.field_is p.ends,
)

-- ---- a field is a part of its line

pub record Inside (line key : List ℕ) : Type 0 where
  pub front : List ℕ
  pub back : List ℕ
  pub line_is : line ≡ front ++ (key ++ back)

pub field_inside : (separator : Option ℕ) (number : ℕ) (line key : List ℕ) → field_of separator number line ≡ Some key → Inside line key
field_inside (Some s) number line key h =
    let p : Between s (number - 1) line key = parts-of_field s (number - 1) line key h in
    record { front = separated s p.before; back = p.rest; line_is = p.line_is }
field_inside None number line key h =
    let lead : List ℕ = take (prefix_len is_blank line) line in
    let p : Behind (number - 1) (behind_blanks line) key = parts-of_stretch (number - 1) (behind_blanks line) key (run-ends is_blank line) h in
    record {
      front = lead ++ gapped_bytes p.before;
      back = p.rest;
      line_is = parted is_blank line ∙ ap (λ l. lead ++ l) p.line_is ∙ sym (append_assoc lead (gapped_bytes p.before) (key ++ p.rest));
    }

pub short_field : (separator : Option ℕ) (number : ℕ) (line key : List ℕ) → field_of separator number line ≡ Some key → length key ≤ length line
short_field separator number line key h =
    let p : Inside line key = field_inside separator number line key h in
    omega (arith, ap length p.line_is, length-append p.front (key ++ p.back), length-append key p.back)

-- no field is empty that a gap ends
pub some_stretch : (number : ℕ) (line key : List ℕ) → field_of None number line ≡ Some key → 0 < length key
some_stretch number line key h = (parts-of_stretch (number - 1) (behind_blanks line) key (run-ends is_blank line) h).some_field

-- an empty line has one field, if a separator is given
pub between-nil : (s n : ℕ) → 0 < n → field_behind s n [] ≡ None
between-nil s n more = between-none s n [] more (after-lacks s [] tt)

-- ---- a search for the first space or tab

other : (b : ℕ) → (is_blank b ≡ true → ⊥) → is_no_blank b ≡ true
other b none = elim (cases_Bool (is_blank b)) [
  | inl blank ↦ absurd (none blank)
  | inr clear ↦ ap not clear
]

pub end-found : (bytes : List ℕ) (at : ℕ) → NoneBefore (Passes (is_byte2 0x20 0x09) bytes) 0 (length bytes) at × Passes (is_byte2 0x20 0x09) bytes at
    → prefix_len is_no_blank bytes ≡ at
end-found bytes at f =
    prefix_len_is is_no_blank bytes at 0 (omega (arith, f.0.high)) (λ k less. other (get_or bytes k 0) (f.0.before k (omega arith) less)) (λ inside. ap not f.1)

pub end-absent : (bytes : List ℕ) → Nowhere (Passes (is_byte2 0x20 0x09) bytes) 0 (length bytes) → prefix_len is_no_blank bytes ≡ length bytes
end-absent bytes none =
    prefix_len_is is_no_blank bytes (length bytes) 0 (omega arith) (λ k less. other (get_or bytes k 0) (none k (omega arith) less)) (λ inside. absurd (omega (arith, inside)))
