-- Notes of a stretch of files, one by one.
use Rattle.std.proofs.Common.{◌≡◌, ℕ, zero, suc, ◌+◌, ◌-◌, ◌<◌, ◌≤◌, cond, eqb, Bool, true, List, [], ◌∷◌, ◌++◌, ◌||◌, length, drop, get_or, min, refl, ap, sym, ◌∙◌, arith, inl, inr}
use Rattle.std.proofs.lemmas.Bool.{eqb-true, ne_eqb}
use Rattle.std.proofs.lemmas.List.{append-nil, append_assoc}
use Rattle.std.specs.List.{AllByRecursion}
use Rattle.mr_shards.specs.Lines.{EndsLine}
use Rattle.mr_shards.specs.RangeNotes.{EndAtLines, RangeNote}
use Rattle.mr_shards.specs.RangeVerdicts.{AreNotesOfRanges, BeginAtZero}
use Rattle.mr_shards.specs.Truth.{ends_line, range_for, ranges_for}

-- where a file of a stretch begins that begins there
abbrev pub begin_at : ℕ → ℕ → ℕ
begin_at i from = cond (eqb i 0) from 0

begin-later : (i from : ℕ) → begin_at (suc i) from ≡ 0
begin-later i from = ap (λ b. cond b from 0) (ne_eqb (suc i) 0 (λ e. omega (arith, e)))

-- the note of the file of that number, and those behind it
next-range : (names files : List (List ℕ)) (i from : ℕ) (ends whole : Bool) (a b name file : List ℕ) → i < length names → i < length files → name ≡ get_or names i a → file ≡ get_or files i b
    → (suc i < length names → whole ≡ true) → (suc i ≡ length names → whole ≡ ends)
    → ranges_for (drop i names) from (drop i files) ends ≡ range_for name from file whole ∷ ranges_for (drop (suc i) names) 0 (drop (suc i) files) ends
next-range [] files i from ends whole a b name file few_names few_files is_name is_file more last = absurd (omega (arith, few_names))
next-range (n ∷ ns) [] i from ends whole a b name file few_names few_files is_name is_file more last = absurd (omega (arith, few_files))
next-range (n ∷ []) (f ∷ fs) zero from ends whole a b name file few_names few_files is_name is_file more last =
    let is_last : whole ≡ ends = last refl in λ i. range_for (sym is_name i) from (sym is_file i) (sym is_last i) ∷ []
next-range (n ∷ m ∷ ns) (f ∷ fs) zero from ends whole a b name file few_names few_files is_name is_file more last =
    let is_whole : whole ≡ true = more (omega arith) in λ i. range_for (sym is_name i) from (sym is_file i) (sym is_whole i) ∷ ranges_for (m ∷ ns) 0 fs ends
next-range (n ∷ ns) (f ∷ fs) (suc i) from ends whole a b name file few_names few_files is_name is_file more last =
    next-range ns fs i from ends whole a b name file (omega (arith, few_names)) (omega (arith, few_files)) is_name is_file
    (λ h. more (omega (arith, h))) (λ e. last (omega (arith, e)))

pub more-ranges : (names files : List (List ℕ)) (i from : ℕ) (ends whole : Bool) (a b name file : List ℕ) (before after : List RangeNote)
    → i < length names → i < length files → name ≡ get_or names i a → file ≡ get_or files i b
    → (suc i < length names → whole ≡ true) → (suc i ≡ length names → whole ≡ ends)
    → after ≡ before ++ range_for name (begin_at i from) file whole ∷ []
    → before ++ ranges_for (drop i names) (begin_at i from) (drop i files) ends ≡ ranges_for names from files ends
    → after ++ ranges_for (drop (i + 1) names) (begin_at (i + 1) from) (drop (i + 1) files) ends ≡ ranges_for names from files ends
more-ranges names files i from ends whole a b name file before after few_names few_files is_name is_file more last added so_far =
    let next : i + 1 ≡ suc i = omega arith in
    let begin : ℕ = begin_at i from in
    ap (λ k. after ++ ranges_for (drop k names) (begin_at k from) (drop k files) ends) next
    ∙ ap (λ k. after ++ ranges_for (drop (suc i) names) k (drop (suc i) files) ends) (begin-later i from)
    ∙ ap (λ l. l ++ ranges_for (drop (suc i) names) 0 (drop (suc i) files) ends) added
    ∙ append_assoc before (range_for name begin file whole ∷ []) (ranges_for (drop (suc i) names) 0 (drop (suc i) files) ends)
    ∙ ap (λ l. before ++ l) (sym (next-range names files i begin ends whole a b name file few_names few_files is_name is_file more last))
    ∙ so_far

no-files : (ns : List (List ℕ)) (from : ℕ) (ends : Bool) → ranges_for ns from [] ends ≡ []
no-files [] from ends = refl
no-files (n ∷ []) from ends = refl
no-files (n ∷ m ∷ ns) from ends = refl

no-ranges : (names files : List (List ℕ)) (k from : ℕ) (ends : Bool) → min (length names) (length files) ≤ k → ranges_for (drop k names) from (drop k files) ends ≡ []
no-ranges [] files zero from ends h = refl
no-ranges [] files (suc k) from ends h = refl
no-ranges (n ∷ ns) [] zero from ends h = no-files (n ∷ ns) from ends
no-ranges (n ∷ ns) [] (suc k) from ends h = no-files (drop k ns) from ends
no-ranges (n ∷ ns) (f ∷ fs) zero from ends h = absurd (omega (arith, h))
no-ranges (n ∷ ns) (f ∷ fs) (suc k) from ends h = no-ranges ns fs k from ends (omega (arith, h))

pub all-ranges : (names files : List (List ℕ)) (k from : ℕ) (ends : Bool) (notes : List RangeNote) → min (length names) (length files) ≤ k
    → notes ++ ranges_for (drop k names) (begin_at k from) (drop k files) ends ≡ ranges_for names from files ends → notes ≡ ranges_for names from files ends
all-ranges names files k from ends notes h so_far =
    sym (append-nil notes) ∙ ap (λ l. notes ++ l) (sym (no-ranges names files k (begin_at k from) ends h)) ∙ so_far

-- ---- what the notes are true of

pub notes-are : (names files : List (List ℕ)) (from : ℕ) (ends : Bool) → length names ≡ length files → AreNotesOfRanges (ranges_for names from files ends) files
notes-are [] [] from ends e = tt
notes-are [] (f ∷ fs) from ends e = absurd (cc e)
notes-are (n ∷ ns) [] from ends e = absurd (cc e)
notes-are (n ∷ []) (f ∷ []) from ends e = (refl, refl, tt)
notes-are (n ∷ []) (f ∷ g ∷ fs) from ends e = absurd (omega (arith, e))
notes-are (n ∷ m ∷ ns) (f ∷ fs) from ends e = (refl, refl, notes-are (m ∷ ns) fs 0 ends (omega (arith, e)))

last-byte : (x : ℕ) (xs : List ℕ) → get_or (x ∷ xs) (length xs) 0 ≡ 10 → (first : List ℕ) × (x ∷ xs ≡ first ++ 10 ∷ [])
last-byte x [] e = ([], λ i. e i ∷ [])
last-byte x (y ∷ ys) e = let w = last-byte y ys e in (x ∷ w.0, ap (λ l. x ∷ l) w.1)

ends-line : (bytes : List ℕ) → ends_line bytes ≡ true → EndsLine bytes
ends-line [] e = inl refl
ends-line (x ∷ xs) e =
    let at : suc (length xs) - 1 ≡ length xs = omega arith in
    let last : eqb (get_or (x ∷ xs) (suc (length xs) - 1) 0) 10 ≡ true =
    sym (ap (λ b. b || eqb (get_or (x ∷ xs) (suc (length xs) - 1) 0) 10) (ne_eqb (suc (length xs)) 0 (λ n. omega (arith, n)))) ∙ e in
    inr (last-byte x xs (sym (ap (λ k. get_or (x ∷ xs) k 0) at) ∙ eqb-true (get_or (x ∷ xs) (suc (length xs) - 1) 0) 10 last))

pub lines-end : (names files : List (List ℕ)) (from : ℕ) (ends : Bool) → length names ≡ length files → EndAtLines (ranges_for names from files ends) files
lines-end [] [] from ends e = tt
lines-end [] (f ∷ fs) from ends e = absurd (cc e)
lines-end (n ∷ ns) [] from ends e = absurd (cc e)
lines-end (n ∷ []) (f ∷ []) from ends e = (ends-line f, tt)
lines-end (n ∷ []) (f ∷ g ∷ fs) from ends e = absurd (omega (arith, e))
lines-end (n ∷ m ∷ ns) (f ∷ fs) from ends e = (ends-line f, lines-end (m ∷ ns) fs 0 ends (omega (arith, e)))

all-zero : (names files : List (List ℕ)) (ends : Bool) → AllByRecursion (λ (m : RangeNote). m.from ≡ 0) (ranges_for names 0 files ends)
all-zero [] files ends = tt
all-zero (n ∷ []) [] ends = tt
all-zero (n ∷ m ∷ ns) [] ends = tt
all-zero (n ∷ []) (f ∷ fs) ends = (refl, tt)
all-zero (n ∷ m ∷ ns) (f ∷ fs) ends = (refl, all-zero (m ∷ ns) fs ends)

-- only the first one begins inside its file
pub begin-zero : (names files : List (List ℕ)) (from : ℕ) (ends : Bool) → BeginAtZero (ranges_for names from files ends)
begin-zero [] files from ends = tt
begin-zero (n ∷ []) [] from ends = tt
begin-zero (n ∷ m ∷ ns) [] from ends = tt
begin-zero (n ∷ []) (f ∷ fs) from ends = tt
begin-zero (n ∷ m ∷ ns) (f ∷ fs) from ends = all-zero (m ∷ ns) fs ends
