-- A job is known by its number, its flags and its literal.
use Rattle.std.proofs.Common.{◌≡◌, ℕ, ◌<◌, ◌≤◌, ◌^◌, true, false, List, ◌∷◌, Option, None, Some, get_or, drop, refl, sym, ap, ◌∙◌, subst, arith, inr}
use Rattle.std.specs.Prelude.{decimal}
use Rattle.std.proofs.lemmas.Fmt.{IsAscii-decimal, decimal_injective, decimal_is_IsNumeral}
use Rattle.std.proofs.lemmas.Str.{IsUtf8-from_ascii}
use Rattle.std.specs.Str.{IsUtf8}
use Rattle.std.proofs.lemmas.Str.Parse.{digit_at}
use Rattle.mr_jobs.specs.Fields.{FieldFits, NumberFits, field_literal}
use Rattle.mr_jobs.specs.JobSpec.{JobSpec, job_flags, WordCount, LinesWith, Resources, InvertedIndex, NthField}
use Rattle.mr_jobs.specs.Laws.{JobsAreNamed}

-- no separator is a digit, with which the number begins
no_digit : (s n m : ℕ) → FieldFits (Some s) m → FieldFits None n → decimal n ≡ s ∷ decimal m → ⊥
no_digit s n m f g e =
    let numeral = (decimal_is_IsNumeral n (omega (arith, g.number_fits.1))).0 in
    let digit = digit_at (decimal n) 0 numeral.1 numeral.0 in
    let first : get_or (decimal n) 0 0 ≡ s = ap (λ l. get_or l 0 0) e in
    f.separates s refl (inr (omega (arith, digit.0, first), omega (arith, digit.1, first)))

same_number : (n m : ℕ) (a b : Option ℕ) → FieldFits a n → FieldFits b m → decimal n ≡ decimal m → n ≡ m
same_number n m a b f g e = decimal_injective n m (omega (arith, f.number_fits.1)) (omega (arith, g.number_fits.1)) e

pub same_field : (a b : Option ℕ) (n m : ℕ) → FieldFits a n → FieldFits b m → field_literal a n ≡ field_literal b m → NthField a n ≡ NthField b m
same_field None None n m f g e = ap (NthField None) (same_number n m None None f g e)
same_field None (Some s) n m f g e = absurd (no_digit s n m g f e)
same_field (Some s) None n m f g e = absurd (no_digit s m n f g (sym e))
same_field (Some s) (Some t) n m f g e =
    let same : s ≡ t = ap (λ l. get_or l 0 0) e in
    ap (λ x. NthField (Some x) n) same ∙ ap (NthField (Some t)) (same_number n m (Some s) (Some t) f g (ap (drop 1) e))

pub jobs_named : JobsAreNamed
jobs_named (WordCount true) (WordCount true) fa fb n f l = refl
jobs_named (WordCount false) (WordCount false) fa fb n f l = refl
jobs_named (LinesWith literal true) (LinesWith other true) fa fb n f l = ap (λ x. LinesWith x true) l
jobs_named (LinesWith literal false) (LinesWith other false) fa fb n f l = ap (λ x. LinesWith x false) l
jobs_named Resources Resources fa fb n f l = refl
jobs_named (InvertedIndex true) (InvertedIndex true) fa fb n f l = refl
jobs_named (InvertedIndex false) (InvertedIndex false) fa fb n f l = refl
jobs_named (NthField s number) (NthField t other) fa fb n f l = same_field s t number other fa fb l
-- all other pairs differ in their number or their flags
jobs_named a b fa fb n f l = absurd (omega (arith, n, f))

-- the flags of a job are below that of a partition by host
pub flags_below : (job : JobSpec) → job_flags job < 4
flags_below (WordCount true) = omega arith
flags_below (WordCount false) = omega arith
flags_below (LinesWith literal true) = omega arith
flags_below (LinesWith literal false) = omega arith
flags_below (InvertedIndex true) = omega arith
flags_below (InvertedIndex false) = omega arith
flags_below job = omega arith

-- ---- a name that is read

-- a first byte that is no digit is the separator
pub separated_name : (name digits : List ℕ) (first : ℕ) → name ≡ first ∷ digits → (0x30 ≤ first → first ≤ 0x39 → ⊥)
    → (separator : Option ℕ) (number : ℕ) → FieldFits separator number → name ≡ field_literal separator number → (Some first ≡ separator) × (digits ≡ decimal number)
separated_name name digits first is other None number fits e =
    let numeral = (decimal_is_IsNumeral number (omega (arith, fits.number_fits.1))).0 in
    let digit = digit_at (decimal number) 0 numeral.1 numeral.0 in
    let same : get_or (decimal number) 0 0 ≡ first = ap (λ l. get_or l 0 0) (sym e ∙ is) in
    absurd (other (omega (arith, digit.0, same)) (omega (arith, digit.1, same)))
separated_name name digits first is other (Some s) number fits e =
    let same : first ∷ digits ≡ s ∷ decimal number = sym is ∙ e in
    (ap (λ l. Some (get_or l 0 0)) same, ap (drop 1) same)

pub small_number : (number : ℕ) → NumberFits number → number < 2 ^ 32
small_number number fits = omega (arith, fits.1)

pub decimal_text : (number : ℕ) (digits : List ℕ) → NumberFits number → digits ≡ decimal number → IsUtf8 digits
decimal_text number digits fits e = subst IsUtf8 (sym e) (IsUtf8-from_ascii (decimal number) (IsAscii-decimal number (omega (arith, fits.1))))
