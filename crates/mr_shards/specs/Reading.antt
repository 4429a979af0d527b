-- How a verdict is read, and what it is to have a text.
use Rattle.std.specs.Prelude.{◌≡◌, ℕ, ◌<◌, ◌^◌, Bool, true, false, if◌then◌else◌, List, [], ◌∷◌, ◌++◌, map, length, Option, None, Some}
use Rattle.std.specs.List.{AllByRecursion}
use Rattle.std.specs.Str.{bytes_eq}
use Rattle.hex.specs.Hex.{IsBytes}
use Rattle.mr_bytes.specs.Cut.{Lacks, cut}
use Rattle.mr_shards.specs.RangeNotes.{RangeNote}
use Rattle.mr_shards.specs.Spots.{Spot}
use Rattle.mr_shards.specs.Verdict.{Note, Told, spelled}
use Rattle.mr_shards.specs.declared.verdict.VerdictFault.{VerdictFault}
use Rattle.mr_shards.specs.declared.verdict.VerdictFault.TheVariants.{BadLine, OldVerdict, OutOfMemory}

-- a note has the digest of a file, and a length of 64 bits
pub record NoteFits (n : Note) : Type 0 where
  pub few : n.length < 2 ^ 64
  pub whole : length n.digest ≡ 32
  pub bytes : IsBytes n.digest
  pub clear : Lacks 10 n.name

-- what an old text tells of a file: all of it is the range, and whether its last line is closed isn't known
abbrev pub IsOldNote : RangeNote → Type 0
IsOldNote n = (n.from ≡ 0) × (n.closed ≡ false) × (n.ends ≡ true)

-- a range whose file goes on ends where a line ends
pub record RangeFits (old : Bool) (n : RangeNote) : Type 0 where
  pub few : n.length < 2 ^ 64
  pub near : n.from < 2 ^ 64
  pub whole : length n.digest ≡ 32
  pub bytes : IsBytes n.digest
  pub clear : Lacks 10 n.name
  pub closed : n.ends ≡ false → n.closed ≡ true
  pub all : old ≡ true → IsOldNote n

pub record SpotFits (s : Spot) : Type 0 where
  pub file : s.file < 2 ^ 32
  pub start : s.start < 2 ^ 64

-- numbers within their limits, and names that hold no line feed: such a verdict has a text that is read
pub record Fits (old : Bool) (v : Told) : Type 0 where
  pub job : v.job < 2 ^ 32
  pub flags : v.flags < 2 ^ 32
  pub literal : Lacks 10 v.literal
  pub parts : v.parts < 2 ^ 32
  pub split : v.split < 2 ^ 32
  pub inputs : AllByRecursion (RangeFits old) v.inputs
  pub outputs : AllByRecursion NoteFits v.outputs
  pub left_out : AllByRecursion SpotFits v.left_out
  pub pairs : v.pairs < 2 ^ 64

-- ---- what lines tell

-- what stands behind the word of a line, where it is this one
abbrev pub told_by : List ℕ → Option (List ℕ × List ℕ) → Option (List ℕ)
told_by word None = None
told_by word (Some parts) = if bytes_eq parts.0 word then Some parts.1 else None

abbrev pub told_of : List ℕ → List ℕ → Option (List ℕ)
told_of word line = told_by word (cut 32 line)

abbrev pub with_told : Option (List ℕ) → List (List ℕ) → List (List ℕ)
with_told None ts = ts
with_told (Some t) ts = t ∷ ts

-- of all lines
unfoldable pub told_under : List ℕ → List (List ℕ) → List (List ℕ)
told_under word [] = []
told_under word (l ∷ ls) = with_told (told_of word l) (told_under word ls)

-- a line was read: where it is one of the word's, what was found is what it tells, if it tells something that fits
abbrev pub Adds : {X : Type 0} → (X → List ℕ) → (X → Type 0) → Option (List ℕ) → List X → List X → Type 0
Adds {X} tells fits None old new = new ≡ old
Adds {X} tells fits (Some told) old new = (r : X) × (new ≡ old ++ r ∷ []) × ((x : X) → fits x → told ≡ tells x → r ≡ x)

-- what is found are those that the lines tell
abbrev pub Finds : {X : Type 0} → (X → List ℕ) → (X → Type 0) → List (List ℕ) → List X → Type 0
Finds {X} tells fits told found = (xs : List X) → AllByRecursion fits xs → told ≡ map tells xs → found ≡ xs

-- ---- which texts are read

-- the text is the old one of a verdict that leaves out no record
abbrev pub IsOldText : Told → List ℕ → Type 0
IsOldText v text = (text ≡ spelled true v) × (v.left_out ≡ []) × AllByRecursion IsOldNote v.inputs

-- it is the text of no verdict that fits, in neither version
abbrev pub IsNoText : List ℕ → Type 0
IsNoText text = (old : Bool) (v : Told) → Fits old v → text ≡ spelled old v → ⊥

-- an old text names left-out records by splits, and not by where they begin
abbrev pub IsRefused : List ℕ → VerdictFault → Type 0
IsRefused text (BadLine line) = IsNoText text
IsRefused text OldVerdict = (v : Told) × (text ≡ spelled true v) × (0 < length v.left_out)
IsRefused text OutOfMemory = Unit {0}
