-- When a verdict is true of files.
use Rattle.std.specs.Prelude.{◌≡◌, ◌==◌, ◌||◌, ◌-◌, if◌then◌else◌, ℕ, Bool, true, List, [], ◌∷◌, length, slice_index_or}
use Rattle.sha2.specs.Sha256.{sha256}
use Rattle.mr_bytes.specs.declared.By.{By}
use Rattle.mr_bytes.specs.declared.By.TheVariants.{Host, Key}
use Rattle.mr_jobs.specs.JobSpec.{ByFits, JobFits, PartsFit, RequestSpec, SplitFits, flags_of, job_literal, job_number}
use Rattle.mr_shards.specs.RangeNotes.{RangeNote}
use Rattle.mr_shards.specs.RangeVerdicts.{IsTrueOfRanges, RangeVerdict}
use Rattle.mr_shards.specs.Spots.{Spot}
use Rattle.mr_shards.specs.Verdict.{Note, Told}

-- the note of a file of that name and these bytes
abbrev pub note_for : List ℕ → List ℕ → Note
note_for name bytes = record { name = name; length = length bytes; digest = sha256 bytes }

-- the bytes are empty or end a line
abbrev pub ends_line : List ℕ → Bool
ends_line bytes = (length bytes == 0) || (slice_index_or bytes (length bytes - 1) 0 == 10)

-- the note of these bytes, which stand from that place on in the file of that name, and end it or don't
abbrev pub range_for : List ℕ → ℕ → List ℕ → Bool → RangeNote
range_for name from bytes ends = record {
  name = name;
  from = from;
  length = length bytes;
  digest = sha256 bytes;
  closed = ends_line bytes;
  ends = ends;
}

-- the note is one of these bytes, whatever the name
abbrev pub IsNoteOf : Note → List ℕ → Type 0
IsNoteOf n bytes = (n.length ≡ length bytes) × (n.digest ≡ sha256 bytes)

-- the notes are those of these files, one for one
abbrev pub AreNotesOf : List Note → List (List ℕ) → Type 0
AreNotesOf [] [] = Unit {0}
AreNotesOf [] (f ∷ fs) = ⊥
AreNotesOf (n ∷ ns) [] = ⊥
AreNotesOf (n ∷ ns) (f ∷ fs) = IsNoteOf n f × AreNotesOf ns fs

-- the verdict is about this request; how many records it lets be left out is not told
abbrev pub Asks : Told → RequestSpec → Type 0
Asks v request = (v.job ≡ job_number request.job) × (v.flags ≡ flags_of request) × (v.literal ≡ job_literal request.job)
    × (v.parts ≡ request.parts) × (v.split ≡ request.split)

-- what it states of the input
abbrev pub about : Told → RangeVerdict
about v = record { inputs = v.inputs; left_out = v.left_out; pairs = v.pairs }

-- it is about the request, and true of the ranges and the outputs
pub record IsTrueOf (request : RequestSpec) (v : Told) (ranges outputs : List (List ℕ)) : Type 0 where
  pub asks : Asks v request
  pub outputs_are : AreNotesOf v.outputs outputs
  pub of_ranges : IsTrueOfRanges request (about v) ranges outputs

-- ---- the verdict of a yes

-- the notes of files by their names, in order
abbrev pub notes_for : List (List ℕ) → List (List ℕ) → List Note
notes_for [] fs = []
notes_for (n ∷ ns) [] = []
notes_for (n ∷ ns) (f ∷ fs) = note_for n f ∷ notes_for ns fs

-- the notes of a stretch of files: the first from this byte on, and whether the last one ends with it
abbrev pub ranges_for : List (List ℕ) → ℕ → List (List ℕ) → Bool → List RangeNote
ranges_for [] from fs ends = []
ranges_for (n ∷ ns) from [] ends = []
ranges_for (n ∷ []) from (f ∷ fs) ends = range_for n from f ends ∷ []
ranges_for (n ∷ m ∷ ns) from (f ∷ fs) ends = range_for n from f true ∷ ranges_for (m ∷ ns) 0 fs ends

-- the verdict about a request, with these notes
abbrev pub verdict_for : RequestSpec → List RangeNote → List Note → List Spot → ℕ → Told
verdict_for request inputs outputs left_out pairs = record {
  job = job_number request.job;
  flags = flags_of request;
  literal = job_literal request.job;
  parts = request.parts;
  split = request.split;
  inputs = inputs;
  outputs = outputs;
  left_out = left_out;
  pairs = pairs;
}

-- ---- the request that a verdict is about

-- what chooses the partitions of the request that has these flags
abbrev pub by_told : ℕ → By
by_told flags = if flags == 4 then Host else Key

-- the request can be made
abbrev pub CanBeMade : RequestSpec → Type 0
CanBeMade request = JobFits request.job × ByFits request.job request.by × PartsFit request.parts × SplitFits request.split

-- there is no request that it is about
abbrev pub AsksNone : Told → Type 0
AsksNone v = (request : RequestSpec) → CanBeMade request → Asks v request → ⊥
