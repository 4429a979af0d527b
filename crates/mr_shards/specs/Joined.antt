-- What the verdicts of shards are together, and of what that is true.
use Rattle.std.specs.Prelude.{◌≡◌, ℕ, zero, suc, ◌+◌, ◌<◌, ◌≤◌, ◌^◌, false, List, [], ◌∷◌, length, map, take, slice_index_or}
use Rattle.std.specs.List.{AllByRecursion}
use Rattle.mr_bytes.specs.Lists.{Distinct, Has}
use Rattle.mr_input.specs.Files.{nth_file}
use Rattle.mr_jobs.specs.JobSpec.{JobSpec, RequestSpec}
use Rattle.mr_shards.specs.declared.merger.ShardText.{ShardText}
use Rattle.mr_shards.specs.Merged.{texts}
use Rattle.mr_shards.specs.Outputs.{parts_in}
use Rattle.mr_shards.specs.declared.joining.JoinFault.{JoinFault}
use Rattle.mr_shards.specs.declared.joining.JoinFault.TheVariants.{OtherRequest, TooManyPairs, PlaceTooFar, OutOfMemory}
use Rattle.mr_shards.specs.Gaps.{goes_on_at}
use Rattle.mr_shards.specs.RangeNotes.{RangeNote, names_of}
use Rattle.mr_shards.specs.RangeVerdicts.{all_ranges, left_out_in, pairs_in, ranges_of, shift_past}
use Rattle.mr_shards.specs.Verdict.{Told}
use Rattle.mr_shards.specs.Portions.{Shift, behind, merged_portions, no_shift, past_shard}
use Rattle.mr_shards.specs.Spots.{Spot, shifted_spot}
use Rattle.mr_shards.specs.Truth.{AreNotesOf, Asks, IsTrueOf, about}

-- the inputs of all, one behind another, where the records of all begin that are left out, and the pairs of all
abbrev pub inputs_of : List Told → List RangeNote
inputs_of vs = ranges_of (map about vs)

abbrev pub left_out_of_all : List Told → List Spot
left_out_of_all vs = left_out_in (map about vs)

abbrev pub pairs_of : List Told → ℕ
pairs_of vs = pairs_in (map about vs)

-- the range's end is a number of 64 bits
abbrev pub IsNearRange : RangeNote → Type 0
IsNearRange n = n.from + n.length < 2 ^ 64

abbrev pub IsNearSpot : Spot → Type 0
IsNearSpot s = (s.file < 2 ^ 32) × (s.start < 2 ^ 64)

abbrev pub IsNearShift : Shift → Type 0
IsNearShift s = (s.files < 2 ^ 64) × (s.bytes < 2 ^ 64)

-- all are about the request, and together they are this one, without outputs
pub record IsJoined (request : RequestSpec) (vs : List Told) (m : Told) : Type 0 where
  pub asks : Asks m request
  pub alike : AllByRecursion (λ v. Asks v request) vs
  pub near : AllByRecursion (λ v. (length v.inputs < 2 ^ 64) × AllByRecursion IsNearRange v.inputs) vs
  pub inputs_are : m.inputs ≡ inputs_of vs
  pub left_out_is : m.left_out ≡ left_out_of_all vs
  pub pairs_are : m.pairs ≡ pairs_of vs
  pub few : m.pairs < 2 ^ 64

-- no file begins twice
abbrev pub AreOnce : List RangeNote → Type 0
AreOnce notes = Distinct (names_of notes)

-- no file begins twice before the range of that number, which begins another file of an earlier one's name
abbrev pub IsRepeated : List RangeNote → ℕ → Type 0
IsRepeated notes at = (at < length notes) × (goes_on_at notes at ≡ false) × AreOnce (take at notes)
    × Has (names_of (take at notes)) (slice_index_or (map (λ n. n.name) notes) at [])

-- ---- refusals

abbrev pub no_verdict : Told
no_verdict = record { job = 0; flags = 0; literal = []; parts = 0; split = 0; inputs = []; outputs = []; left_out = []; pairs = 0 }

abbrev pub verdict_at : List Told → ℕ → Told
verdict_at vs i = slice_index_or vs i no_verdict

-- how far the places of the verdict of that number move
abbrev pub shift_to : List Told → ℕ → Shift
shift_to [] i = no_shift
shift_to (v ∷ vs) zero = no_shift
shift_to (v ∷ vs) (suc i) = behind (shift_past v.inputs (inputs_of vs)) (shift_to vs i)

-- the ends of its ranges and the moved places of its left-out records are numbers that fit, and so are places behind it
pub record IsNear (vs : List Told) (i : ℕ) : Type 0 where
  pub ranges : AllByRecursion IsNearRange (verdict_at vs i).inputs
  pub spots : AllByRecursion IsNearSpot (map (shifted_spot (shift_to vs i)) (verdict_at vs i).left_out)
  pub shift : IsNearShift (shift_to vs (i + 1))

-- the verdict of that number goes in behind those before
pub record GoesIn (request : RequestSpec) (vs : List Told) (i : ℕ) : Type 0 where
  pub asks : Asks (verdict_at vs i) request
  pub pairs : pairs_of (take (i + 1) vs) < 2 ^ 64
  pub near : IsNear vs i

-- all verdicts before go in; this one is about another request, or the pairs are too many with its own, or its places too far
abbrev pub IsJoinFault : RequestSpec → List Told → JoinFault → Type 0
IsJoinFault request vs (OtherRequest shard) =
    (shard < length vs) × ((i : ℕ) → i < shard → GoesIn request vs i) × (Asks (verdict_at vs shard) request → ⊥)
IsJoinFault request vs TooManyPairs =
    (shard : ℕ) × (shard < length vs) × ((i : ℕ) → i < shard → GoesIn request vs i) × Asks (verdict_at vs shard) request
    × (2 ^ 64 ≤ pairs_of (take (shard + 1) vs))
IsJoinFault request vs (PlaceTooFar shard) =
    (shard < length vs) × ((i : ℕ) → i < shard → GoesIn request vs i) × Asks (verdict_at vs shard) request
    × (pairs_of (take (shard + 1) vs) < 2 ^ 64) × (IsNear vs shard → ⊥)
IsJoinFault request vs OutOfMemory = Unit {0}

-- ---- what the joined verdict is true of

-- each verdict is true of its ranges and its parts
abbrev pub AreTrueOf : RequestSpec → List Told → List (List (List ℕ)) → List (List (List ℕ)) → Type 0
AreTrueOf request [] [] [] = Unit {0}
AreTrueOf request (v ∷ vs) (fs ∷ fss) (ps ∷ pss) = IsTrueOf request v fs ps × AreTrueOf request vs fss pss
AreTrueOf request _ _ _ = ⊥

-- what the shards have for a partition, and how far the places behind each move
abbrev pub AreOutputsAt : ℕ → List Told → List (List (List ℕ)) → List ShardText → Type 0
AreOutputsAt p [] [] [] = Unit {0}
AreOutputsAt p (v ∷ vs) (ps ∷ pss) (o ∷ os) = (past_shard o.files ≡ shift_past v.inputs (inputs_of vs)) × (o.text.now ≡ nth_file ps p) × AreOutputsAt p vs pss os
AreOutputsAt p _ _ _ = ⊥

-- the output of a partition is the text of the merged groups of the shards' outputs
abbrev pub IsMergedAt : JobSpec → List Told → List (List (List ℕ)) → ℕ → List ℕ → Type 0
IsMergedAt job vs parts p output = (os : List ShardText) × AreOutputsAt p vs parts os × (output ≡ texts job (merged_portions (parts_in job os)))

abbrev pub AreMerged : RequestSpec → List Told → List (List (List ℕ)) → List (List ℕ) → Type 0
AreMerged request vs parts outputs = (p : ℕ) → p < request.parts → IsMergedAt request.job vs parts p (nth_file outputs p)

-- where each verdict is true of its ranges and parts, the joined one, with notes of the merged outputs, is true of all
-- ranges and of those
abbrev pub JoinedIsTrue : Type 0
JoinedIsTrue = (request : RequestSpec) (vs : List Told) (m : Told) (ranges parts : List (List (List ℕ))) (outputs : List (List ℕ))
    → 0 < request.split → IsJoined request vs m → AreNotesOf m.outputs outputs → length outputs ≡ request.parts
    → AreMerged request vs parts outputs → AreTrueOf request vs ranges parts → IsTrueOf request m (all_ranges ranges) outputs
