-- A verdict: what a judge said yes to, and its one text.
use Rattle.std.specs.Prelude.{ℕ, Bool, false, if◌then◌else◌, List, [], ◌∷◌, ◌++◌, codes, decimal}
use Rattle.std.specs.List.{flat_map}
use Rattle.hex.specs.Hex.{encode_lower}
use Rattle.mr_shards.specs.RangeNotes.{RangeNote}
use Rattle.mr_shards.specs.Spots.{Spot}

-- a file as it was judged: its name, how many bytes it has, and their SHA-256
pub record Note : Type 0 where
  pub name : List ℕ
  pub length : ℕ
  pub digest : List ℕ

-- the job by its number, flags and literal as in a certificate, the partitions, the bytes of a split, the ranges of the
-- input, the files of the result, where the records begin that are left out, and how many pairs are emitted without them
pub record Told : Type 0 where
  pub job : ℕ
  pub flags : ℕ
  pub literal : List ℕ
  pub parts : ℕ
  pub split : ℕ
  pub inputs : List RangeNote
  pub outputs : List Note
  pub left_out : List Spot
  pub pairs : ℕ

-- a word, a space, what it tells, and a line feed
abbrev pub line_of : List ℕ → List ℕ → List ℕ
line_of word told = word ++ 32 ∷ told ++ 10 ∷ []

abbrev pub number_line : List ℕ → ℕ → List ℕ
number_line word number = line_of word (decimal number)

-- of a file: the digest as hexadecimal digits, the length, and the name up to the end of the line
abbrev pub note_told : Note → List ℕ
note_told n = encode_lower n.digest ++ 32 ∷ (decimal n.length ++ 32 ∷ n.name)

abbrev pub note_line : List ℕ → Note → List ℕ
note_line word n = line_of word (note_told n)

-- how a range ends: its file goes on behind a line end, or it ended there, with a line end or in an open line
abbrev pub ending : RangeNote → List ℕ
ending n = if n.ends then (if n.closed then codes "end" else codes "open") else codes "more"

-- of a range: the digest, how many bytes, and then where it begins in its file, how it ends, and the file's name; an old
-- text tells the name alone
abbrev pub place_told : Bool → RangeNote → List ℕ
place_told old n = if old then n.name else decimal n.from ++ 32 ∷ (ending n ++ 32 ∷ n.name)

abbrev pub range_told : Bool → RangeNote → List ℕ
range_told old n = encode_lower n.digest ++ 32 ∷ (decimal n.length ++ 32 ∷ place_told old n)

abbrev pub range_line : Bool → RangeNote → List ℕ
range_line old n = line_of (codes "input") (range_told old n)

-- of a record: the number of its file, and where it begins there; an old text names the record there instead
abbrev pub spot_told : Spot → List ℕ
spot_told s = decimal s.file ++ 32 ∷ decimal s.start

abbrev pub spot_line : Spot → List ℕ
spot_line s = line_of (codes "without") (spot_told s)

-- the lines of the request
abbrev pub request_lines : Bool → Told → List ℕ
request_lines old v =
    number_line (codes "verdict") (if old then 1 else 2) ++ (number_line (codes "job") v.job ++ (number_line (codes "flags") v.flags
    ++ (line_of (codes "literal") v.literal ++ (number_line (codes "partitions") v.parts ++ number_line (codes "split") v.split))))

-- its text, of version 2, or the old one, of version 1
abbrev pub spelled : Bool → Told → List ℕ
spelled old v =
    request_lines old v ++ (flat_map (range_line old) v.inputs ++ (flat_map (note_line (codes "output")) v.outputs
    ++ (flat_map spot_line v.left_out ++ number_line (codes "emitted") v.pairs)))

-- the text of a verdict
abbrev pub spelling : Told → List ℕ
spelling v = spelled false v
