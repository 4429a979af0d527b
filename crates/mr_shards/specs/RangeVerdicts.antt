-- Verdicts on portions, and what they are together.
use Rattle.std.specs.Prelude.{◌≡◌, ℕ, ◌+◌, ◌<◌, ◌^◌, Bool, false, if◌then◌else◌, List, [], ◌∷◌, ◌++◌, None, Some, length, map}
use Rattle.std.specs.List.{AllByRecursion}
use Rattle.sha2.specs.Sha256.{sha256}
use Rattle.mr_bytes.specs.Lists.{Rises}
use Rattle.mr_bytes.specs.Order.{record_order}
use Rattle.mr_bytes.specs.declared.RecordName.{RecordName}
use Rattle.mr_input.specs.Files.{nth_file}
use Rattle.mr_jobs.specs.JobSpec.{JobSpec, RequestSpec}
use Rattle.mr_sequential.specs.Emitted.{emitted}
use Rattle.mr_sequential.specs.Sequential.{sequential}
use Rattle.mr_shards.specs.declared.shift.ShardFiles.{ShardFiles}
use Rattle.mr_shards.specs.Merged.{texts}
use Rattle.mr_shards.specs.RangeNotes.{EndAtLines, RangeNote, assembled, first_goes_on}
use Rattle.mr_shards.specs.Portions.{Part, Shift, merged_portions, shift_behind}
use Rattle.mr_shards.specs.Lines.{groups_in}
use Rattle.mr_shards.specs.Spots.{SkipsExist, Spot, shifted_spot, spots_of}

-- what a verdict states beside the request and the notes of the parts, which are as they were: the ranges of the input, where
-- the records begin that are left out, and how many pairs are emitted
pub record RangeVerdict : Type 0 where
  pub inputs : List RangeNote
  pub left_out : List Spot
  pub pairs : ℕ

-- the second of two lists of ranges goes on where the first ends
abbrev pub last_goes_on : List RangeNote → List RangeNote → Bool
last_goes_on [] ns = false
last_goes_on (m ∷ []) ns = first_goes_on m ns
last_goes_on (m ∷ k ∷ ms) ns = last_goes_on (k ∷ ms) ns

-- the lengths of the files that ranges make up, and the last one of these
abbrev pub with_length : ℕ → List ℕ → List ℕ
with_length n [] = n ∷ []
with_length n (l ∷ ls) = (n + l) ∷ ls

abbrev pub file_lengths : List RangeNote → List ℕ
file_lengths [] = []
file_lengths (n ∷ ns) = if first_goes_on n ns then with_length n.length (file_lengths ns) else n.length ∷ file_lengths ns

abbrev pub last_number : List ℕ → ℕ
last_number [] = 0
last_number (l ∷ []) = l
last_number (l ∷ k ∷ ls) = last_number (k ∷ ls)

-- ---- verdicts, joined

abbrev pub ranges_of : List RangeVerdict → List RangeNote
ranges_of [] = []
ranges_of (v ∷ vs) = v.inputs ++ ranges_of vs

-- the files of the first ranges, and where those behind go on with the last one, how many of its bytes come before
abbrev pub files_of : List RangeNote → List RangeNote → ShardFiles
files_of ms ns = record {
  count = length (file_lengths ms);
  cut = if last_goes_on ms ns then Some (last_number (file_lengths ms)) else None;
}

-- how far places are moved behind the first ranges
abbrev pub shift_past : List RangeNote → List RangeNote → Shift
shift_past ms ns = shift_behind (last_goes_on ms ns) (length (file_lengths ms)) (last_number (file_lengths ms))

-- where the last range ends in its file
abbrev pub end_of : List RangeNote → ℕ
end_of [] = 0
end_of (m ∷ []) = m.from + m.length
end_of (m ∷ k ∷ ms) = end_of (k ∷ ms)

abbrev pub left_out_in : List RangeVerdict → List Spot
left_out_in [] = []
left_out_in (v ∷ vs) = v.left_out ++ map (shifted_spot (shift_past v.inputs (ranges_of vs))) (left_out_in vs)

abbrev pub pairs_in : List RangeVerdict → ℕ
pairs_in [] = 0
pairs_in (v ∷ vs) = v.pairs + pairs_in vs

abbrev pub joined_ranges : List RangeVerdict → RangeVerdict
joined_ranges vs = record { inputs = ranges_of vs; left_out = left_out_in vs; pairs = pairs_in vs }

-- ---- of what they are true

abbrev pub AreNotesOfRanges : List RangeNote → List (List ℕ) → Type 0
AreNotesOfRanges [] [] = Unit {0}
AreNotesOfRanges [] (r ∷ rs) = ⊥
AreNotesOfRanges (n ∷ ns) [] = ⊥
AreNotesOfRanges (n ∷ ns) (r ∷ rs) = (n.length ≡ length r) × (n.digest ≡ sha256 r) × AreNotesOfRanges ns rs

-- the notes are those of the ranges, which end where lines end; the spots are those of records that rise and exist in the
-- files that the ranges make up; each output is that of the sequential execution over these without the records, and so many
-- pairs are emitted
pub record IsTrueOfRanges (request : RequestSpec) (v : RangeVerdict) (ranges outputs : List (List ℕ)) : Type 0 where
  pub notes : AreNotesOfRanges v.inputs ranges
  pub lines : EndAtLines v.inputs ranges
  pub skips : List RecordName
  pub rise : Rises record_order skips
  pub exist : SkipsExist request.split (assembled v.inputs ranges) skips
  pub spots : v.left_out ≡ spots_of request.split (assembled v.inputs ranges) skips
  pub count : length outputs ≡ request.parts
  pub sequential_is : (p : ℕ) → p < request.parts → nth_file outputs p ≡ sequential request (assembled v.inputs ranges) skips p
  pub all : v.pairs ≡ length (emitted request.job request.split (assembled v.inputs ranges) skips)

-- its pairs and the bytes of each file can be counted in 64 bits, and so can its files
pub record IsRangeCounted (v : RangeVerdict) : Type 0 where
  pub pairs : v.pairs < 2 ^ 64
  pub files : length (file_lengths v.inputs) < 2 ^ 64
  pub sizes : AllByRecursion (λ n. n < 2 ^ 64) (file_lengths v.inputs)

abbrev pub AreTrueOfRanges : RequestSpec → List RangeVerdict → List (List (List ℕ)) → List (List (List ℕ)) → Type 0
AreTrueOfRanges request [] [] [] = Unit {0}
AreTrueOfRanges request [] [] (ps ∷ pss) = ⊥
AreTrueOfRanges request [] (rs ∷ rss) pss = ⊥
AreTrueOfRanges request (v ∷ vs) [] pss = ⊥
AreTrueOfRanges request (v ∷ vs) (rs ∷ rss) [] = ⊥
AreTrueOfRanges request (v ∷ vs) (rs ∷ rss) (ps ∷ pss) = IsTrueOfRanges request v rs ps × AreTrueOfRanges request vs rss pss

abbrev pub all_ranges : List (List (List ℕ)) → List (List ℕ)
all_ranges [] = []
all_ranges (rs ∷ rss) = rs ++ all_ranges rss

-- what the merge takes from verdicts and their parts, for a partition: notes and lines state all of it
abbrev pub parts_at : JobSpec → ℕ → List RangeVerdict → List (List (List ℕ)) → List Part
parts_at job p [] pss = []
parts_at job p (v ∷ vs) [] = []
parts_at job p (v ∷ vs) (ps ∷ pss) = record {
  shift = shift_past v.inputs (ranges_of vs);
  groups = groups_in job (nth_file ps p);
} ∷ parts_at job p vs pss

-- where each verdict is true of its ranges and parts, the joined one is true of all ranges and of the merged outputs
abbrev pub JoinedIsTrueOfRanges : Type 0
JoinedIsTrueOfRanges = (request : RequestSpec) (vs : List RangeVerdict) (ranges parts : List (List (List ℕ))) (outputs : List (List ℕ)) → 0 < request.split
    → AllByRecursion IsRangeCounted vs → AreTrueOfRanges request vs ranges parts → length outputs ≡ request.parts
    → ((p : ℕ) → p < request.parts → nth_file outputs p ≡ texts request.job (merged_portions (parts_at request.job p vs parts)))
    → IsTrueOfRanges request (joined_ranges vs) (all_ranges ranges) outputs

-- the first range may begin anywhere in its file, and each other one at its beginning
abbrev pub BeginAtZero : List RangeNote → Type 0
BeginAtZero [] = Unit {0}
BeginAtZero (n ∷ ns) = AllByRecursion (λ (m : RangeNote). m.from ≡ 0) ns

-- so it is where one shard is judged: then each range is a file of its own
abbrev pub RangesAreFiles : Type 0
RangesAreFiles = (notes : List RangeNote) (ranges : List (List ℕ)) → AreNotesOfRanges notes ranges → BeginAtZero notes → assembled notes ranges ≡ ranges
