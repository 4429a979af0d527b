-- Ranges of a file: from one byte on, up to before another one or to the file's end.
use Rattle.std.specs.Prelude.{◌≡◌, ◌⊎◌, ◌↔◌, ℕ, ◌+◌, ◌<◌, ◌≤◌, Bool, true, false, Option, Some, List, [], ◌∷◌, ◌++◌, length, take, drop, slice_range, unwrap_or}
use Rattle.std.specs.Io.KnownBytes.{Consumes}
use Rattle.mr_files.specs.Holding.{Agrees, Faulty, Stored}
use Rattle.mr_files.specs.Refusals.{IsUnread}
use Rattle.mr_files.specs.declared.ranges.RangeFault.{RangeFault}
use Rattle.mr_files.specs.declared.ranges.RangeFault.TheVariants.{File, InsideALine, PastEnd, TooLong}

-- there is no byte, or the last one is a line feed
abbrev pub EndsLine : List ℕ → Type 0
EndsLine bytes = (bytes ≡ []) ⊎ ((first : List ℕ) × (bytes ≡ first ++ 10 ∷ []))

-- no line of the file begins at this byte: it isn't the first one, and the byte before is no line feed
abbrev pub IsInsideALine : List ℕ → ℕ → Type 0
IsInsideALine file at = ¬ EndsLine (take at file)

-- where a range of the file ends
abbrev pub end_of : List ℕ → Option ℕ → ℕ
end_of file to = unwrap_or to (length file)

-- the range begins or ends behind the end of the file
abbrev pub IsPastEnd : List ℕ → ℕ → Option ℕ → Type 0
IsPastEnd file from to = (length file < from) ⊎ (length file < end_of file to)

-- these are the bytes of the file from one on up to before another, and whether the file ends there; the range begins where
-- a line does, and ends where a line or the file ends
pub record IsRangeOf (file : List ℕ) (from : ℕ) (to : Option ℕ) (bytes : List ℕ) (ends : Bool) : Type 0 where
  pub order : from ≤ end_of file to
  pub within : end_of file to ≤ length file
  pub bytes_are : bytes ≡ slice_range file from (end_of file to)
  pub ends_where : ends ≡ true ↔ end_of file to ≡ length file
  pub begins : EndsLine (take from file)
  pub closes : ends ≡ false → EndsLine bytes

-- the range begins inside a line at this byte; or it begins where a line does, and ends at this byte, inside a line that goes on
abbrev pub IsCutAt : List ℕ → ℕ → Option ℕ → ℕ → Type 0
IsCutAt file from to byte = ((byte ≡ from) × IsInsideALine file from)
    ⊎ (EndsLine (take from file) × (to ≡ Some byte) × (byte < length file) × IsInsideALine file byte)

-- why a range of the file was not read, in the order of the tests: the file can't be read; its end comes before one of the
-- range's; it is cut inside a line; the range has more bytes than that
abbrev pub IsRangeRefusal : Stored → Faulty → List ℕ → ℕ → Option ℕ → ℕ → RangeFault → Type 0
IsRangeRefusal holds unreadable name from to limit (File fault) = IsUnread unreadable name fault
IsRangeRefusal holds unreadable name from to limit PastEnd = (file : List ℕ) × holds name file × IsPastEnd file from to
IsRangeRefusal holds unreadable name from to limit (InsideALine byte) =
    (file : List ℕ) × holds name file × (¬ IsPastEnd file from to) × IsCutAt file from to byte
IsRangeRefusal holds unreadable name from to limit TooLong =
    (file bytes : List ℕ) × (ends : Bool) × holds name file × IsRangeOf file from to bytes ends × (limit < length bytes)

-- ---- what each step gives

-- a reader gave so many bytes but for those that lack; all of them are kept, or the last ones alone
pub record IsRead (known left : Option (List ℕ)) (most : ℕ) (keep : Bool) (bytes : List ℕ) (lacking : ℕ) : Type 0 where
  pub front : List ℕ
  pub consumed : Consumes known left (front ++ bytes)
  pub kept : keep ≡ true → front ≡ []
  pub some : bytes ≡ [] → front ≡ []
  pub count : length (front ++ bytes) + lacking ≡ most

-- these are the file's bytes from one on, and whether a line begins there
pub record BeginsAt (file : List ℕ) (from : ℕ) (begins : Bool) (rest : List ℕ) : Type 0 where
  pub within : from ≤ length file
  pub rest_is : rest ≡ drop from file
  pub line : begins ≡ true → EndsLine (take from file)
  pub inside : begins ≡ false → IsInsideALine file from

-- and so of all bytes that a reader may give
abbrev pub IsOpenAt : Stored → List ℕ → ℕ → Bool → Option (List ℕ) → Type 0
IsOpenAt holds name from begins known = (b : List ℕ) → Agrees known b → (file : List ℕ) × holds name file × BeginsAt file from begins b

-- of so many bytes in front all are kept, or the last ones alone; and whether there are no more
pub record IsFront (all : List ℕ) (count : ℕ) (keep : Bool) (bytes : List ℕ) (ends : Bool) : Type 0 where
  pub within : count ≤ length all
  pub kept : keep ≡ true → bytes ≡ take count all
  pub closes : EndsLine bytes ↔ EndsLine (take count all)
  pub ends_where : ends ≡ true ↔ count ≡ length all
