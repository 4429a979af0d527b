-- The fields of a record, numbered from 1: between separators, or by gaps of spaces and tabs.
use Rattle.std.specs.Prelude.{◌≡◌, ℕ, zero, suc, ◌+◌, ◌-◌, ◌<◌, ◌≤◌, ◌⊎◌, Bool, true, false, not, List, [], ◌∷◌, ◌++◌, length, take, drop, decimal, Option, None, Some, option_and_then}
use Rattle.std.specs.List.{AllByRecursion, prefix_len}
use Rattle.std.specs.Option.{ForSome}
use Rattle.mr_bytes.specs.Cut.{Lacks}
use Rattle.mr_lanes.specs.Blanks.{is_blank}
use Rattle.mr_jobs.specs.Url.{after_byte, before_byte, some_bytes}

-- ---- which field, and how a certificate names it

-- a line feed or a digit, which separates no fields
abbrev pub CannotSeparate : ℕ → Type 0
CannotSeparate separator = (separator ≡ 0x0A) ⊎ ((0x30 ≤ separator) × (separator ≤ 0x39))

abbrev pub NumberFits : ℕ → Type 0
NumberFits number = (1 ≤ number) × (number ≤ 65535)

pub record FieldFits (separator : Option ℕ) (number : ℕ) : Type 0 where
  pub number_fits : NumberFits number
  pub separates : ForSome separator (λ s. CannotSeparate s → ⊥)

abbrev pub separator_bytes : Option ℕ → List ℕ
separator_bytes None = []
separator_bytes (Some separator) = separator ∷ []

-- the separator, if there is one, and the number in decimal
abbrev pub field_literal : Option ℕ → ℕ → List ℕ
field_literal separator number = separator_bytes separator ++ decimal number

-- ---- what they are

-- there are no bytes, or the first is such a byte
abbrev pub EndsOr : (ℕ → Type 0) → List ℕ → Type 0
EndsOr P [] = Unit {0}
EndsOr P (b ∷ bs) = P b

-- stretches, each with a separator behind it
abbrev pub separated : ℕ → List (List ℕ) → List ℕ
separated separator [] = []
separated separator (bytes ∷ more) = bytes ++ separator ∷ separated separator more

-- the field is the stretch of that number between separators
pub record IsNthBetween (separator number : ℕ) (line field : List ℕ) : Type 0 where
  pub before : List (List ℕ)
  pub rest : List ℕ
  pub line_is : line ≡ separated separator before ++ (field ++ rest)
  pub number_is : length before + 1 ≡ number
  pub none_before : AllByRecursion (Lacks separator) before
  pub none_inside : Lacks separator field
  pub ends : EndsOr (λ b. b ≡ separator) rest

abbrev pub AreBlanks : List ℕ → Type 0
AreBlanks bytes = AllByRecursion (λ b. is_blank b ≡ true) bytes

abbrev pub LacksBlanks : List ℕ → Type 0
LacksBlanks bytes = AllByRecursion (λ b. is_blank b ≡ false) bytes

-- a stretch, and the gap behind it
pub record Gapped : Type 0 where
  pub stretch : List ℕ
  pub gap : List ℕ

-- some bytes without a space or a tab, and then some spaces and tabs
pub record IsGapped (g : Gapped) : Type 0 where
  pub some_stretch : 0 < length g.stretch
  pub stretch_is : LacksBlanks g.stretch
  pub some_gap : 0 < length g.gap
  pub gap_is : AreBlanks g.gap

abbrev pub gapped_bytes : List Gapped → List ℕ
gapped_bytes [] = []
gapped_bytes (g ∷ gs) = g.stretch ++ (g.gap ++ gapped_bytes gs)

-- the field is the maximal stretch of that number without spaces and tabs
pub record IsNthStretch (number : ℕ) (line field : List ℕ) : Type 0 where
  pub lead : List ℕ
  pub before : List Gapped
  pub rest : List ℕ
  pub line_is : line ≡ lead ++ (gapped_bytes before ++ (field ++ rest))
  pub number_is : length before + 1 ≡ number
  pub lead_is : AreBlanks lead
  pub stretches : AllByRecursion IsGapped before
  pub some_field : 0 < length field
  pub field_is : LacksBlanks field
  pub ends : EndsOr (λ b. is_blank b ≡ true) rest

-- ---- computed

-- the field behind so many separators
unfoldable pub field_behind : ℕ → ℕ → List ℕ → Option (List ℕ)
field_behind separator zero line = Some (before_byte separator line)
field_behind separator (suc n) line = option_and_then (field_behind separator n) (after_byte separator line)

abbrev pub is_no_blank : ℕ → Bool
is_no_blank b = not (is_blank b)

abbrev pub behind_blanks : List ℕ → List ℕ
behind_blanks line = drop (prefix_len is_blank line) line

-- the bytes up to the first space or tab, and those from it on
abbrev pub stretch_of : List ℕ → List ℕ
stretch_of line = take (prefix_len is_no_blank line) line

abbrev pub behind_stretch : List ℕ → List ℕ
behind_stretch line = drop (prefix_len is_no_blank line) line

-- the field behind so many others, of bytes that begin with a stretch
unfoldable pub stretch_behind : ℕ → List ℕ → Option (List ℕ)
stretch_behind zero line = some_bytes (stretch_of line)
stretch_behind (suc n) line = stretch_behind n (behind_blanks (behind_stretch line))

-- the field of that number, if there are so many
abbrev pub field_of : Option ℕ → ℕ → List ℕ → Option (List ℕ)
field_of (Some separator) number line = field_behind separator (number - 1) line
field_of None number line = stretch_behind (number - 1) (behind_blanks line)
