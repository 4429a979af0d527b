-- Inputs that are ranges of files, as verdicts note them.
use Rattle.std.specs.Prelude.{◌≡◌, ℕ, ◌+◌, ◌≤◌, ◌==◌, Bool, true, false, ◌&&◌, if◌then◌else◌, List, [], ◌∷◌, length, map, nat_lt, slice_range}
use Rattle.std.specs.Str.{bytes_eq}
use Rattle.mr_shards.specs.Lines.{EndsLine}
use Rattle.mr_shards.specs.Portions.{with_bytes}

-- a file, or a range of it, as it was judged: the file's name, where the range begins in it, how many bytes it has, and their
-- SHA-256; whether they end where a line ends, and whether the file ended there
pub record RangeNote : Type 0 where
  pub name : List ℕ
  pub from : ℕ
  pub length : ℕ
  pub digest : List ℕ
  pub closed : Bool
  pub ends : Bool

-- the second goes on where the first ends: with the same file, behind a line end, and not at its beginning; the first may have
-- reached the end that the file had then
abbrev pub goes_on : RangeNote → RangeNote → Bool
goes_on m n = bytes_eq m.name n.name && ((n.from == m.from + m.length) && (nat_lt 0 n.from && m.closed))

-- the first of the notes goes on behind this one
abbrev pub first_goes_on : RangeNote → List RangeNote → Bool
first_goes_on m [] = false
first_goes_on m (n ∷ ns) = goes_on m n

-- the files that ranges make up: one that goes on is put behind the one before
abbrev pub assembled : List RangeNote → List (List ℕ) → List (List ℕ)
assembled [] rs = []
assembled (n ∷ ns) [] = []
assembled (n ∷ ns) (r ∷ rs) = if first_goes_on n ns then with_bytes r (assembled ns rs) else r ∷ assembled ns rs

-- ranges end where lines end, where their notes state it
abbrev pub EndAtLines : List RangeNote → List (List ℕ) → Type 0
EndAtLines [] [] = Unit {0}
EndAtLines [] (r ∷ rs) = ⊥
EndAtLines (n ∷ ns) [] = ⊥
EndAtLines (n ∷ ns) (r ∷ rs) = (n.closed ≡ true → EndsLine r) × EndAtLines ns rs

-- ---- ranges that tile files

-- the range's bytes stand there in the file
pub record IsRangeOf (file : List ℕ) (n : RangeNote) (range : List ℕ) : Type 0 where
  pub within : n.from + n.length ≤ length file
  pub bytes : range ≡ slice_range file n.from (n.from + n.length)
  pub end : n.ends ≡ true → n.from + n.length ≡ length file

-- each range is one of the file with its name
abbrev pub AreRangesOf : (List ℕ → List ℕ) → List RangeNote → List (List ℕ) → Type 0
AreRangesOf content [] [] = Unit {0}
AreRangesOf content [] (r ∷ rs) = ⊥
AreRangesOf content (n ∷ ns) [] = ⊥
AreRangesOf content (n ∷ ns) (r ∷ rs) = IsRangeOf (content n.name) n r × AreRangesOf content ns rs

-- behind a range comes one that goes on, or its file ends there, and another file begins
abbrev pub Follows : Bool → RangeNote → List RangeNote → Type 0
Follows partial m [] = partial ≡ false → m.ends ≡ true
Follows partial m (n ∷ ns) = (goes_on m n ≡ false → (m.ends ≡ true) × (n.from ≡ 0)) × Follows partial n ns

-- ranges tile files, each from its beginning to its end; where they are partial, the first file may have begun before, and the
-- last one may go on
abbrev pub TileFiles : Bool → List RangeNote → Type 0
TileFiles partial [] = Unit {0}
TileFiles partial (n ∷ ns) = (partial ≡ false → n.from ≡ 0) × Follows partial n ns

-- the names of the files, each as often as it begins
abbrev pub names_from : RangeNote → List RangeNote → List (List ℕ)
names_from m [] = []
names_from m (n ∷ ns) = if goes_on m n then names_from n ns else n.name ∷ names_from n ns

abbrev pub names_of : List RangeNote → List (List ℕ)
names_of [] = []
names_of (n ∷ ns) = n.name ∷ names_from n ns

-- what ranges that tile files make up are just these files
abbrev pub TilesAreFiles : Type 0
TilesAreFiles = (content : List ℕ → List ℕ) (notes : List RangeNote) (ranges : List (List ℕ)) → TileFiles false notes → AreRangesOf content notes ranges
    → assembled notes ranges ≡ map content (names_of notes)
