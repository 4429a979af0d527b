-- Where ranges don't tile files.
use Rattle.std.specs.Prelude.{◌≡◌, ℕ, zero, suc, ◌<◌, Bool, true, false, List, [], ◌∷◌, length, slice_index_or}
use Rattle.mr_shards.specs.RangeNotes.{RangeNote, first_goes_on}
use Rattle.mr_shards.specs.declared.ranges.Gap.{Gap}
use Rattle.mr_shards.specs.declared.ranges.Gap.TheVariants.{NoBeginning, NoEnd}

-- the range of that number goes on with the one before
abbrev pub goes_on_at : List RangeNote → ℕ → Bool
goes_on_at [] at = false
goes_on_at (m ∷ ns) zero = false
goes_on_at (m ∷ ns) (suc zero) = first_goes_on m ns
goes_on_at (m ∷ ns) (suc (suc k)) = goes_on_at ns (suc k)

abbrev pub no_note : RangeNote
no_note = record { name = []; from = 0; length = 0; digest = []; closed = false; ends = false }

abbrev pub note_at : List RangeNote → ℕ → RangeNote
note_at notes at = slice_index_or notes at no_note

-- a range neither begins nor goes on, or neither ends nor is gone on with; of partial ranges the first may begin anywhere, and
-- the last may end anywhere
abbrev pub IsGap : Bool → List RangeNote → Gap → Type 0
IsGap partial notes (NoBeginning i) =
    (i < length notes) × (goes_on_at notes i ≡ false) × ((note_at notes i).from ≡ 0 → ⊥) × (partial ≡ true → 0 < i)
IsGap partial notes (NoEnd i) =
    (i < length notes) × (goes_on_at notes (suc i) ≡ false) × ((note_at notes i).ends ≡ false) × (partial ≡ true → suc i < length notes)

-- there is no such gap at the range of that number
abbrev pub Stands : Bool → List RangeNote → ℕ → Type 0
Stands partial notes i =
    (goes_on_at notes i ≡ false → (partial ≡ true → 0 < i) → (note_at notes i).from ≡ 0)
    × (goes_on_at notes (suc i) ≡ false → (partial ≡ true → suc i < length notes) → (note_at notes i).ends ≡ true)

-- the input that the gap names
abbrev pub gap_input : Gap → ℕ
gap_input (NoBeginning i) = i
gap_input (NoEnd i) = i

-- a range that has no end has a beginning
abbrev pub BeginsWell : Bool → List RangeNote → Gap → Type 0
BeginsWell partial notes (NoBeginning i) = Unit {0}
BeginsWell partial notes (NoEnd i) = goes_on_at notes i ≡ false → (partial ≡ true → 0 < i) → (note_at notes i).from ≡ 0

-- no range before it has a gap, and of two gaps of its range it is the one in front
abbrev pub IsFirstGap : Bool → List RangeNote → Gap → Type 0
IsFirstGap partial notes g = IsGap partial notes g × ((k : ℕ) → k < gap_input g → Stands partial notes k) × BeginsWell partial notes g
