-- Of no public promise: what a sifter has made of the bytes that it took.
use Rattle.std.specs.Prelude.{◌≡◌, ℕ, ◌+◌, ◌<◌, ◌≤◌, ◌^◌, Option, List, [], ◌∷◌, ◌++◌, length, map}
use Rattle.std.specs.List.{AllByRecursion}
use Rattle.std.specs.Io.KnownBytes.{Consumes}
use Rattle.mr_explain.specs.Sifting.{DropsOnly, EndsLine, KeptLines, Piece, bytes_of, feeds_in, joined, kept_from, kept_lines}
use Rattle.mr_explain.specs.Needles.{Lacks}
use Rattle.mr_explain.specs.declared.sifting.Sifter.{Sifter}

-- these lines, if there is a byte
abbrev pub unless_empty : List ℕ → KeptLines → List KeptLines
unless_empty [] l = []
unless_empty (b ∷ bs) l = l ∷ []

-- the lines, if they hold a byte
abbrev pub closing : KeptLines → List KeptLines
closing l = unless_empty l.bytes l

-- no lines yet, behind those
abbrev pub behind : KeptLines → KeptLines
behind l = record { bytes = []; lines_before = l.lines_before + feeds_in l.bytes; bytes_before = l.bytes_before + length l.bytes }

-- what was read is some pieces, of which the closed lines are kept, and then the open lines and what is not sifted yet
pub record IsTaken (so : List ℕ → Type 0) (read : List ℕ) (closed : List KeptLines) (current : KeptLines) (rest : List ℕ) : Type 0 where
  pub pieces : List Piece
  pub cut : AllByRecursion (λ p. EndsLine (bytes_of p)) pieces
  pub dropped : AllByRecursion (DropsOnly so) pieces
  pub closed_is : closed ≡ kept_from 0 0 pieces
  pub lines : current.lines_before ≡ feeds_in (joined pieces)
  pub bytes : current.bytes_before ≡ length (joined pieces)
  pub ends : EndsLine current.bytes
  pub read_is : read ≡ joined pieces ++ (current.bytes ++ rest)

-- so it is with a sifter, which still may close the lines that are open
pub record HasTaken (s : Sifter) (read : List ℕ) : Type 0 where
  pub taken : IsTaken (Lacks s.needle.fold s.needle.literal.now) read (map kept_lines s.closed.items) (kept_lines s.current) s.rest.items
  pub few : length s.closed.items < s.most

-- numbers that are added stay small
pub record HasRoom (s : Sifter) (more : ℕ) : Type 0 where
  pub few : s.current.lines_before ≤ s.current.bytes_before
  pub room : s.current.bytes_before + length s.current.bytes.items + length s.rest.items + more < 2 ^ 64

-- the sifter took what the reader gave, which is as long as the limit but for so many bytes
pub record TookFrom (known left : Option (List ℕ)) (limit lacking : ℕ) (s : Sifter) : Type 0 where
  pub got : List ℕ
  pub consumed : Consumes known left got
  pub count : length got + lacking ≡ limit
  pub taken : HasTaken s got
