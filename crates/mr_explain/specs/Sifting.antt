-- What a sifting keeps of a file, and what a query over it prints. Public clauses stand on it.
use Rattle.std.specs.Prelude.{◌≡◌, ℕ, ◌+◌, ◌≤◌, ◌==◌, ◌⊎◌, Option, List, [], ◌∷◌, ◌++◌, count_by, length, map}
use Rattle.std.specs.List.{AllByRecursion, flat_map}
use Rattle.std.specs.Io.KnownBytes.{Consumes, IsAtEnd}
use Rattle.mr_input.specs.Files.{total_size}
use Rattle.mr_records.specs.Records.{records}
use Rattle.mr_jobs.specs.JobSpec.{JobSpec}
use Rattle.mr_explain.specs.Explained.{IsUnwanted, explanation, kept_of}
use Rattle.mr_explain.specs.Walking.{AreCounts}
use Rattle.mr_explain.specs.declared.query.Query.{Query}
use Rattle.mr_explain.specs.declared.query.SourceFile.{SourceFile}
use Rattle.mr_explain.specs.declared.query.Totals.{Totals}
use Rattle.mr_explain.specs.declared.query.Wanted.{Wanted}
use Rattle.mr_explain.specs.declared.sifting.Excerpt.{Excerpt}
use Rattle.mr_explain.specs.declared.sifting.Sifted.{Sifted}

-- ---- a file in pieces

-- a piece of a file, which is kept or dropped
pub data Piece : Type 0 where
  Kept : List ℕ → Piece
  Dropped : List ℕ → Piece

abbrev pub bytes_of : Piece → List ℕ
bytes_of (Kept bytes) = bytes
bytes_of (Dropped bytes) = bytes

-- the pieces, joined
abbrev pub joined : List Piece → List ℕ
joined pieces = flat_map bytes_of pieces

-- there is no byte, or the last one is a line feed
abbrev pub EndsLine : List ℕ → Type 0
EndsLine bytes = (bytes ≡ []) ⊎ ((front : List ℕ) × (bytes ≡ front ++ 0x0A ∷ []))

-- each piece but the last ends where a line does
abbrev pub AreCutAtLines : List Piece → Type 0
AreCutAtLines [] = Unit {0}
AreCutAtLines (p ∷ ps) = (EndsLine (bytes_of p) ⊎ (ps ≡ [])) × AreCutAtLines ps

-- a piece that is dropped has only records of which this is so
abbrev pub DropsOnly : (List ℕ → Type 0) → Piece → Type 0
DropsOnly so (Kept bytes) = Unit {0}
DropsOnly so (Dropped bytes) = AllByRecursion (λ r. so r.bytes) (records bytes)

abbrev pub feeds_in : List ℕ → ℕ
feeds_in bytes = count_by (λ b. b == 0x0A) bytes

-- lines of a file that are kept, and how many of its lines and bytes come before them
pub record KeptLines : Type 0 where
  pub bytes : List ℕ
  pub lines_before : ℕ
  pub bytes_before : ℕ

-- the kept pieces, where so many lines and bytes come before the first piece
abbrev pub kept_from : ℕ → ℕ → List Piece → List KeptLines
kept_from lines bytes [] = []
kept_from lines bytes (Kept b ∷ ps) =
    record { bytes = b; lines_before = lines; bytes_before = bytes } ∷ kept_from (lines + feeds_in b) (bytes + length b) ps
kept_from lines bytes (Dropped b ∷ ps) = kept_from (lines + feeds_in b) (bytes + length b) ps

-- these are the lines that are kept of the file: it is cut at lines into pieces, and the dropped ones have only records of which
-- this is so
pub record IsSifting (so : List ℕ → Type 0) (file : List ℕ) (kept : List KeptLines) : Type 0 where
  pub pieces : List Piece
  pub file_is : joined pieces ≡ file
  pub cut : AreCutAtLines pieces
  pub dropped : AllByRecursion (DropsOnly so) pieces
  pub kept_is : kept ≡ kept_from 0 0 pieces

-- ---- what a reader's bytes are sifted into

abbrev pub kept_lines : Excerpt → KeptLines
kept_lines e = record { bytes = e.bytes.items; lines_before = e.lines_before; bytes_before = e.bytes_before }

-- all that the reader gave, up to its end, is sifted; it is no longer than the limit, and the excerpts are no more than that
pub record IsSiftingOf (known left : Option (List ℕ)) (so : List ℕ → Type 0) (limit most : ℕ) (s : Sifted) : Type 0 where
  pub file : List ℕ
  pub consumed : Consumes known left file
  pub end : IsAtEnd left
  pub length_is : s.length ≡ length file
  pub within : length file ≤ limit
  pub sifting : IsSifting so file (map kept_lines s.excerpts.items)
  pub few : length s.excerpts.items ≤ most

-- ---- a query over what is kept

-- a file under a name, and what is kept of it
pub record SiftedFile : Type 0 where
  pub name : List ℕ
  pub file : List ℕ
  pub kept : List KeptLines

-- a name, with how many lines and bytes come before
abbrev pub Heading : Type 0
Heading = List ℕ × ℕ × ℕ

-- how a file is printed
abbrev pub heading_of : SourceFile → Heading
heading_of s = (s.name.now, s.lines_before, s.bytes_before)

-- a whole file, and what is kept of it, each with how it is printed
abbrev pub whole_file : SiftedFile → Heading × List ℕ
whole_file f = ((f.name, 0, 0), f.file)

-- kept lines as a file under this name
abbrev pub as_file : List ℕ → KeptLines → Heading × List ℕ
as_file name k = ((name, k.lines_before, k.bytes_before), k.bytes)

abbrev pub kept_files : SiftedFile → List (Heading × List ℕ)
kept_files f = map (as_file f.name) f.kept

-- the query leaves out no record, and its files are these, so printed
pub record IsQueryOver (files : List (Heading × List ℕ)) (q : Query) : Type 0 where
  pub none_left_out : q.skips.now ≡ []
  pub files_are : q.plan.now.files ≡ map (λ f. f.1) files
  pub printed_as : map heading_of q.sources.now ≡ map (λ f. f.0) files

-- the queries differ in their files alone
pub record AsksTheSame (a b : Query) : Type 0 where
  pub job : a.job.now ≡ b.job.now
  pub wanted : a.wanted ≡ b.wanted
  pub limit : a.limit ≡ b.limit

-- a query over what is kept of files prints and counts what the same query over the whole files does
abbrev pub SiftingIsExact : Type 0
SiftingIsExact = (files : List SiftedFile) (whole kept : Query)
    → AllByRecursion (λ f. IsSifting (IsUnwanted whole.job.now whole.wanted) f.file f.kept) files
    → IsQueryOver (map whole_file files) whole → IsQueryOver (flat_map kept_files files) kept → AsksTheSame kept whole
    → (explanation kept ≡ explanation whole)
    × ((totals : Totals) → AreCounts kept.job.now kept.wanted (kept_of kept) totals → AreCounts whole.job.now whole.wanted (kept_of whole) totals)

-- what is kept of a file is no longer than the file
abbrev pub SiftingIsNoLonger : Type 0
SiftingIsNoLonger = (job : JobSpec) (wanted : Wanted) (file : List ℕ) (kept : List KeptLines) → IsSifting (IsUnwanted job wanted) file kept
    → total_size (map (λ k. k.bytes) kept) ≤ length file
