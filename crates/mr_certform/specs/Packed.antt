-- Names as numbers: a span of numbers is that of the pairs of consecutive records of a split, each of which has as many.
use Rattle.std.specs.Prelude.{◌≡◌, ℕ, zero, suc, ◌+◌, ◌-◌, ◌*◌, ◌/◌, ◌%◌, ◌^◌, ◌<◌, ◌≤◌, All, List, [], ◌∷◌, ◌++◌, if◌then◌else◌, length, map, max, min, nat_le, slice_index_or}
use Rattle.std.specs.List.{range_with_len}
use Rattle.std.specs.List.Sorted.{IsNonDecreasingBy}
use Rattle.mr_bytes.specs.declared.Name.{Name}
use Rattle.mr_bytes.specs.declared.RecordName.{RecordName}
use Rattle.mr_certform.specs.declared.record_names.NameSpan.{NameSpan}

-- how many numbers each record has
abbrev pub unit_of : ℕ → ℕ
unit_of bits = 2 ^ min bits 32

-- the name that a number of the span means
abbrev pub name_in : NameSpan → ℕ → Name
name_in span n = record {
  split = span.split;
  rec = min (span.rec + (n - span.first) / unit_of span.bits) (2 ^ 32 - 1);
  place = (n - span.first) % unit_of span.bits;
}

-- of spans, and one before them, the last that begins at or before the number; the first if none does
unfoldable pub span_behind : NameSpan → List NameSpan → ℕ → NameSpan
span_behind before [] n = before
span_behind before (s ∷ ss) n = if nat_le s.first n then span_behind s ss n else before

abbrev pub no_span : NameSpan
no_span = record { first = 0; split = 0; rec = 0; bits = 0 }

abbrev pub span_under : List NameSpan → ℕ → NameSpan
span_under spans n = span_behind no_span spans n

-- the name that a number means
unfoldable pub name_under : List NameSpan → ℕ → Name
name_under spans n = name_in (span_under spans n) n

-- the spans follow one another
abbrev pub AreSpans : List NameSpan → Type 0
AreSpans spans = IsNonDecreasingBy (λ (s : NameSpan). s.first) spans

-- the last of these spans has all numbers from the base on
pub record AreOpen (spans : List NameSpan) (last : NameSpan) (base : ℕ) : Type 0 where
  pub follow : AreSpans spans
  pub begun : All (λ (s : NameSpan). s.first ≤ base) spans
  pub last_begun : last.first ≤ base
  pub last_is : (n : ℕ) → base ≤ n → span_under spans n ≡ last

-- the numbers of records' pairs, by the counts of these: each record takes a unit of numbers, or more if it has more pairs
unfoldable pub numbers_from : ℕ → ℕ → List ℕ → List ℕ
numbers_from unit base [] = []
numbers_from unit base (count ∷ counts) = range_with_len base count ++ numbers_from unit (base + max unit count) counts

-- the number behind those
unfoldable pub base_behind : ℕ → ℕ → List ℕ → ℕ
base_behind unit base [] = base
base_behind unit base (count ∷ counts) = base_behind unit (base + max unit count) counts

-- the names of so many pairs of a record, from a place on
unfoldable pub names_from : RecordName → ℕ → ℕ → List Name
names_from name place zero = []
names_from name place (suc count) = record { split = name.split; rec = name.rec; place = place } ∷ names_from name (place + 1) count

-- numbers, and the spans that tell what they mean
pub record Numbered : Type 0 where
  pub spans : List NameSpan
  pub numbers : List ℕ

abbrev pub names_of : Numbered → List Name
names_of n = map (name_under n.spans) n.numbers

-- packed names, then names as they are
abbrev pub names_held : List NameSpan → List ℕ → List Name → List Name
names_held spans packed plain = map (name_under spans) packed ++ plain

-- all numbers from the first of the span to before `end` are of the span
abbrev pub Covers : List NameSpan → NameSpan → ℕ → Type 0
Covers spans span end = (n : ℕ) → span.first ≤ n → n < end → span_under spans n ≡ span

-- a number of a span is of a record from its first on, and of a place there, if the next span begins behind it
abbrev pub PackedIsNamed : Type 0
PackedIsNamed = (spans : List NameSpan) (i j place n : ℕ) → AreSpans spans → i < length spans
    → let span : NameSpan = slice_index_or spans i no_span in
    span.bits ≤ 32 → place < 2 ^ span.bits → span.rec + j < 2 ^ 32 → n ≡ span.first + j * 2 ^ span.bits + place
    → (i + 1 < length spans → n < (slice_index_or spans (i + 1) no_span).first)
    → name_under spans n ≡ record { split = span.split; rec = span.rec + j; place = place }
