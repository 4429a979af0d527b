-- What shards are merged to, and what that is worth.
use Rattle.std.specs.Prelude.{◌≡◌, ◌⊎◌, ℕ, ◌<◌, ◌^◌, List, [], ◌∷◌, Bool, Option, None, length}
use Rattle.std.specs.List.{AllByRecursion}
use Rattle.mr_input.specs.Files.{nth_file}
use Rattle.mr_files.specs.Holding.{Begins, ChangesAmong, Holding, Stored}
use Rattle.mr_files.specs.Identities.{Known}
use Rattle.mr_files.specs.Names.{merged_names, name_of_verdict, part_files, part_names}
use Rattle.mr_jobs.specs.JobSpec.{JobFits, JobSpec, RequestSpec}
use Rattle.mr_shards.specs.Refused.{IsRest}
use Rattle.mr_shards.specs.Joined.{AreMerged, AreOnce, AreTrueOf, IsJoined, verdict_at}
use Rattle.mr_shards.specs.RangeNotes.{TileFiles}
use Rattle.mr_shards.specs.RangeVerdicts.{all_ranges}
use Rattle.mr_shards.specs.Reading.{IsOldText}
use Rattle.mr_shards.specs.Truth.{Asks, IsTrueOf, notes_for}
use Rattle.mr_shards.specs.Verdict.{Note, Told, spelling}
use Rattle.mr_shard_files.specs.Apart.{AreApart}
use Rattle.mr_shard_files.specs.Sharing.{AreUnshared}
use Rattle.mr_shard_files.specs.Beside.{StandsBeside, ReportsCause}
use Rattle.mr_shard_files.specs.Listing.{IsListed}
use Rattle.mr_shard_files.specs.Pairs.{StatesPairs}

-- under the name stands a text that the verdict is read from: its own, or an old one
abbrev pub IsHeard : Stored → List ℕ → Told → Type 0
IsHeard holds name v = (text : List ℕ) × holds name text × ((text ≡ spelling v) ⊎ IsOldText v text)

-- under each name, one for its verdict
abbrev pub AreHeard : Stored → List (List ℕ) → List Told → Type 0
AreHeard holds [] [] = Unit {0}
AreHeard holds (n ∷ ns) (v ∷ vs) = IsHeard holds n v × AreHeard holds ns vs
AreHeard holds _ _ = ⊥

-- the verdict with these notes of its outputs
abbrev pub with_outputs : Told → List Note → Told
with_outputs v outputs = record {
  job = v.job;
  flags = v.flags;
  literal = v.literal;
  parts = v.parts;
  split = v.split;
  inputs = v.inputs;
  outputs = outputs;
  left_out = v.left_out;
  pairs = v.pairs;
}

-- so many parts of a shard stand beside its verdict, each as the verdict tells, and each of lines of the job with keys in turn
pub record AreParts (holds : Stored) (job : JobSpec) (count : ℕ) (name : List ℕ) (v : Told) (parts : List (List ℕ)) : Type 0 where
  pub count_is : length parts ≡ count
  pub stand : (p : ℕ) → p < count → StandsBeside holds p name (nth_file parts p)
  pub told : (p : ℕ) → p < count → ReportsCause p v (nth_file parts p)
  pub lines : (p : ℕ) → p < count → IsRest job None (nth_file parts p)

-- those of each shard
abbrev pub ArePartsOf : Stored → JobSpec → ℕ → List (List ℕ) → List Told → List (List (List ℕ)) → Type 0
ArePartsOf holds job count [] [] [] = Unit {0}
ArePartsOf holds job count (n ∷ ns) (v ∷ vs) (ps ∷ pss) = AreParts holds job count n v ps × ArePartsOf holds job count ns vs pss
ArePartsOf holds job count _ _ _ = ⊥

-- whatever the request that can be made and the inputs, where each verdict is true of its ranges and its parts, the one verdict is true of
-- all ranges and of the outputs: each is that of the sequential execution over the files that all ranges make up, without all
-- left-out records
abbrev pub IsTrueOfAll : List Told → List (List (List ℕ)) → Told → List (List ℕ) → Type 0
IsTrueOfAll vs parts m outputs = (request : RequestSpec) (ranges : List (List (List ℕ)))
    → JobFits request.job → AreTrueOf request vs ranges parts → IsTrueOf request m (all_ranges ranges) outputs

-- each tells of so many outputs
abbrev pub AreCounted : List Told → ℕ → Type 0
AreCounted vs count = AllByRecursion (λ v. length v.outputs ≡ count) vs

-- verdicts are joined: they are about one request, each tells of one output for each partition, and the inputs tile files,
-- none of which begins twice; where they are partial, the first may begin inside its file, and the last may end there
pub record IsJoinedOnce (partial : Bool) (request : RequestSpec) (vs : List Told) (m : Told) : Type 0 where
  pub joined : IsJoined request vs m
  pub told : AreCounted vs request.parts
  pub tiles : TileFiles partial m.inputs
  pub once : AreOnce m.inputs
  pub few : length m.inputs < 2 ^ 32

-- verdicts can be merged: they are joined, where a list is named it has just their inputs, none stands in the folder that is to
-- hold the result, and no file that is written there is one that is read
pub record IsReady (holds : Stored) (known : Known) (names : List (List ℕ)) (list : Option (List ℕ)) (dir : List ℕ) (partial : Bool) (vs : List Told) (request : RequestSpec) (m : Told) : Type 0 where
  pub asks : Asks (verdict_at vs 0) request
  pub some : 0 < length vs
  pub fits : JobFits request.job
  pub split : 0 < request.split
  pub all : IsJoinedOnce partial request vs m
  pub listed : IsListed holds list m.inputs
  pub apart : AreApart names dir
  pub unshared : AreUnshared known names list dir request.parts

-- each partition was merged of the shards' parts to its text, which stands in the folder; the verdict there was emptied, and
-- all else stands as before
pub record ArePartsWritten (old new : Stored) (request : RequestSpec) (names : List (List ℕ)) (vs : List Told) (dir : List ℕ) : Type 0 where
  pub texts : List (List ℕ)
  pub parts : List (List (List ℕ))
  pub count : length texts ≡ request.parts
  pub parts_are : ArePartsOf old request.job request.parts names vs parts
  pub merged : AreMerged request vs parts texts
  pub whole : Holding new (part_names dir request.parts) texts
  pub emptied : new (name_of_verdict dir) []
  pub begins : Begins old new (name_of_verdict dir) []
  pub others : ChangesAmong old new (merged_names dir request.parts)

-- they are, each has its note, and each shard's parts state its verdict's pairs
pub record AreAllWritten (old new : Stored) (request : RequestSpec) (names : List (List ℕ)) (vs : List Told) (dir : List ℕ) (notes : List Note) : Type 0 where
  pub written : ArePartsWritten old new request names vs dir
  pub notes_are : notes ≡ notes_for (part_files request.parts) written.texts
  pub totals : (i : ℕ) → i < length vs → StatesPairs request.job vs written.parts i

-- outputs are merged of the parts that stand beside the verdicts, whose lines state the pairs of each verdict, and one verdict
-- is joined of these, with the notes of the outputs; its inputs tile files, none of which begins twice, and where a list is
-- named, they are just those of the list
pub record IsMerging (holds : Stored) (names : List (List ℕ)) (list : Option (List ℕ)) (partial : Bool) (vs : List Told) (m : Told) (outputs : List (List ℕ)) : Type 0 where
  pub request : RequestSpec
  pub parts : List (List (List ℕ))
  pub parts_are : ArePartsOf holds request.job request.parts names vs parts
  pub totals : (i : ℕ) → i < length vs → StatesPairs request.job vs parts i
  pub joined : IsJoined request vs m
  pub told : AllByRecursion (λ v. length v.outputs ≡ request.parts) vs
  pub tiles : TileFiles partial m.inputs
  pub once : AreOnce m.inputs
  pub few : length m.inputs < 2 ^ 32
  pub listed : IsListed holds list m.inputs
  pub count : length outputs ≡ request.parts
  pub merged : AreMerged request vs parts outputs
  pub notes_are : m.outputs ≡ notes_for (part_files request.parts) outputs
  pub true_of : IsTrueOfAll vs parts m outputs

-- under the names stood verdicts, in other folders than this, that were merged to this one, and no file that was written is one
-- that was read; now the outputs stand in the folder, and the text of the
-- verdict, and all else as before
pub record IsMerged (old new : Stored) (known : Known) (names : List (List ℕ)) (list : Option (List ℕ)) (dir : List ℕ) (partial : Bool) (m : Told) : Type 0 where
  pub verdicts : List Told
  pub outputs : List (List ℕ)
  pub held : AreHeard old names verdicts
  pub apart : AreApart names dir
  pub unshared : AreUnshared known names list dir (length outputs)
  pub merging : IsMerging old names list partial verdicts m outputs
  pub parts : Holding new (part_names dir (length outputs)) outputs
  pub verdict : new (name_of_verdict dir) (spelling m)
  pub others : ChangesAmong old new (merged_names dir (length outputs))

-- nothing changed but files of a merged result in the folder
abbrev pub ChangesResult : Stored → Stored → List ℕ → Type 0
ChangesResult old new dir = (count : ℕ) × ChangesAmong old new (merged_names dir count)
