-- Why shards are not merged, stage by stage: what is told of one verdict, one part or one partition is told of all by its
-- place.
use Rattle.std.specs.Prelude.{◌≡◌, ◌≢◌, ◌⊎◌, ℕ, ◌+◌, ◌<◌, ◌≤◌, ◌^◌, Bool, ⊤, List, [], ◌∷◌, Option, None, Some, length, slice_index_or, string_bytes, take}
use Rattle.mr_files.specs.Folders.{IsFolderOf}
use Rattle.mr_files.specs.Holding.{Begins, ChangesAmong, Faulty, Holding, Stored}
use Rattle.mr_files.specs.Identities.{Known}
use Rattle.mr_files.specs.Names.{merged_names, name_of_part, name_of_verdict, part_names}
use Rattle.mr_jobs.specs.JobSpec.{JobSpec, RequestSpec}
use Rattle.mr_shards.specs.declared.merger.MergeFault.TheVariants as merge
use Rattle.mr_shards.specs.declared.merger.ShardText.{ShardText}
use Rattle.mr_shards.specs.Refused.{Blames}
use Rattle.mr_shards.specs.declared.joining.JoinFault.TheVariants as join
use Rattle.mr_shards.specs.Joined.{AreOnce, IsJoinFault, IsJoined, IsRepeated, inputs_of, verdict_at}
use Rattle.mr_shards.specs.Gaps.{BeginsWell, IsFirstGap, Stands}
use Rattle.mr_shards.specs.declared.ranges.Gap.TheVariants as gap
use Rattle.mr_shards.specs.declared.verdict.VerdictFault.{VerdictFault}
use Rattle.mr_shards.specs.declared.verdict.VerdictFault.TheVariants as reading
use Rattle.mr_shards.specs.RangeNotes.{RangeNote}
use Rattle.mr_shards.specs.Reading.{IsRefused}
use Rattle.mr_shards.specs.Truth.{Asks, AsksNone}
use Rattle.mr_shards.specs.Verdict.{Told, spelling}
use Rattle.mr_shard_files.specs.declared.fault.ShardFault.{ShardFault}
use Rattle.mr_shard_files.specs.declared.fault.ShardFault.TheVariants.{BadLine, BadVerdict, CannotRead, FarPlace, LongList, LongVerdict, NoBeginning, NoEnd, NoRequest, NoShards, NoSuchFile, OldVerdict, OtherInputs, OtherOutputs, OtherPart, OtherRequest, OutOfMemory, PlaceTooFar, RepeatedInput, TooManyFiles, TooManyPairs, TotalTooLarge}
use Rattle.mr_shard_files.specs.Apart.{AreApart, IsSameFolder}
use Rattle.mr_shard_files.specs.Beside.{AreOutputs, ArePartitions, StandsBeside, Tells, ReportsCause}
use Rattle.mr_shard_files.specs.Listing.{DifferIn, IsListed, listing}
use Rattle.mr_shard_files.specs.Made.{ReportsUnwritten}
use Rattle.mr_shard_files.specs.Sharing.{IsShared}
use Rattle.mr_shard_files.specs.Merging.{AreCounted, AreHeard, ArePartsWritten, IsJoinedOnce, IsMerging, IsReady}
use Rattle.mr_shard_files.specs.Pairs.{IsOtherPairs}

abbrev pub name_at : List (List ℕ) → ℕ → List ℕ
name_at names i = slice_index_or names i []

-- ---- verdicts

-- a text of more than 1 GiB stands under the name
abbrev pub IsLong : Stored → List ℕ → Type 0
IsLong holds name = (text : List ℕ) × holds name text × (2 ^ 30 < length text)

-- what stands under the name is refused so: it is the text of no verdict, or an old one that names left-out records
abbrev pub IsNoVerdict : Stored → List ℕ → VerdictFault → Type 0
IsNoVerdict holds name fault = (text : List ℕ) × holds name text × IsRefused text fault

-- the verdict of that shard, under that name, is not read
abbrev pub IsUnheard : Stored → Faulty → ℕ → List ℕ → ShardFault → Type 0
IsUnheard holds unreadable at name (CannotRead told) = unreadable name × (string_bytes told ≡ name)
IsUnheard holds unreadable at name (LongVerdict shard) = (shard ≡ at) × IsLong holds name
IsUnheard holds unreadable at name (BadVerdict shard line) = (shard ≡ at) × IsNoVerdict holds name (reading.BadLine line)
IsUnheard holds unreadable at name (OldVerdict shard) = (shard ≡ at) × IsNoVerdict holds name reading.OldVerdict
IsUnheard holds unreadable at name OutOfMemory = ⊤
IsUnheard holds unreadable at name fault = ⊥

-- the verdict under one name is not read, and those under the names before are
pub record IsUnheardAt (holds : Stored) (unreadable : Faulty) (names : List (List ℕ)) (fault : ShardFault) : Type 0 where
  pub at : ℕ
  pub before : List Told
  pub within : at < length names
  pub held : AreHeard holds (take at names) before
  pub why : IsUnheard holds unreadable at (name_at names at) fault

-- the verdicts are not all read
abbrev pub IsUngathered : Stored → Faulty → List (List ℕ) → ShardFault → Type 0
IsUngathered holds unreadable names fault = (fault ≡ OutOfMemory) ⊎ IsUnheardAt holds unreadable names fault

-- ---- parts

-- a part beside the verdict of that name can't be read
abbrev pub IsPartUnread : Faulty → ℕ → List ℕ → List ℕ → Type 0
IsPartUnread unreadable p name told = (folder : List ℕ) × IsFolderOf name folder × (told ≡ name_of_part folder p) × unreadable told

-- a part stands there that is not the one that the verdict tells of
abbrev pub IsOtherPart : Stored → ℕ → List ℕ → Told → Type 0
IsOtherPart holds p name v = (text : List ℕ) × StandsBeside holds p name text × (ReportsCause p v text → ⊥)

-- the part of that shard is not read
abbrev pub IsPartFault : Stored → Faulty → ℕ → ℕ → List ℕ → Told → ShardFault → Type 0
IsPartFault holds unreadable p at name v (CannotRead told) = IsPartUnread unreadable p name (string_bytes told)
IsPartFault holds unreadable p at name v (OtherPart shard partition) = (shard ≡ at) × (partition ≡ p) × IsOtherPart holds p name v
IsPartFault holds unreadable p at name v OutOfMemory = ⊤
IsPartFault holds unreadable p at name v fault = ⊥

-- the part beside the verdict of that name can't be opened
abbrev pub IsUnopened : Faulty → ℕ → List ℕ → ShardFault → Type 0
IsUnopened unreadable p name (CannotRead told) = IsPartUnread unreadable p name (string_bytes told)
IsUnopened unreadable p name OutOfMemory = ⊤
IsUnopened unreadable p name fault = ⊥

-- where a part is another, those before it are the ones that their verdicts tell of
abbrev pub AreTold : ℕ → List Told → List (List ℕ) → ShardFault → Type 0
AreTold p vs texts (OtherPart shard partition) = Tells p vs texts
AreTold p vs texts fault = ⊤

-- those before it stand there
pub record IsPartAt (holds : Stored) (unreadable : Faulty) (p : ℕ) (names : List (List ℕ)) (vs : List Told) (fault : ShardFault) : Type 0 where
  pub at : ℕ
  pub read : List (List ℕ)
  pub within : at < length names
  pub stand : Holding (StandsBeside holds p) (take at names) read
  pub told : AreTold p (take at vs) read fault
  pub why : IsPartFault holds unreadable p at (name_at names at) (verdict_at vs at) fault

-- the parts of a partition are not all read
abbrev pub IsTextsFault : Stored → Faulty → ℕ → List (List ℕ) → List Told → ShardFault → Type 0
IsTextsFault holds unreadable p names vs fault = (fault ≡ OutOfMemory) ⊎ IsPartAt holds unreadable p names vs fault

-- those of so many partitions are not all opened
abbrev pub AreUnopened : Stored → Faulty → ℕ → List (List ℕ) → List Told → ShardFault → Type 0
AreUnopened holds unreadable count names vs fault = (fault ≡ OutOfMemory) ⊎ ((p : ℕ) × (p < count) × IsTextsFault holds unreadable p names vs fault)

-- what the parts of a partition hold can't be merged
abbrev pub IsBlamed : JobSpec → List ShardText → ℕ → ShardFault → Type 0
IsBlamed job os p (BadLine shard partition line) = (partition ≡ p) × Blames job os (merge.BadLine shard line)
IsBlamed job os p (TotalTooLarge partition) = (partition ≡ p) × Blames job os merge.TotalTooLarge
IsBlamed job os p (NoSuchFile shard partition) = (partition ≡ p) × Blames job os (merge.NoSuchFile shard)
IsBlamed job os p (PlaceTooFar partition) = (partition ≡ p) × Blames job os merge.PlaceTooFar
IsBlamed job os p OutOfMemory = ⊤
IsBlamed job os p fault = ⊥

-- each part is the one that its verdict tells of, and they can't be merged
pub record IsUnmergedAt (holds : Stored) (job : JobSpec) (names : List (List ℕ)) (vs : List Told) (p : ℕ) (fault : ShardFault) : Type 0 where
  pub parts : List (List ℕ)
  pub outputs : List ShardText
  pub stand : Holding (StandsBeside holds p) names parts
  pub told : Tells p vs parts
  pub outputs_are : AreOutputs vs parts outputs
  pub why : IsBlamed job outputs p fault

-- the parts of a partition are not merged
abbrev pub IsPartitionFault : Stored → Faulty → JobSpec → List (List ℕ) → List Told → ℕ → ShardFault → Type 0
IsPartitionFault holds unreadable job names vs p fault = IsTextsFault holds unreadable p names vs fault ⊎ IsUnmergedAt holds job names vs p fault

-- ---- the list of inputs

-- the list under that name is not read
abbrev pub IsListUnread : Stored → Faulty → List ℕ → ShardFault → Type 0
IsListUnread holds unreadable name (CannotRead told) = unreadable name × (string_bytes told ≡ name)
IsListUnread holds unreadable name LongList = IsLong holds name
IsListUnread holds unreadable name OutOfMemory = ⊤
IsListUnread holds unreadable name fault = ⊥

-- the text under that name is not that of these inputs: the first line is told in which it differs
abbrev pub IsOtherList : Stored → List ℕ → List RangeNote → ShardFault → Type 0
IsOtherList holds name inputs (OtherInputs line) = (text : List ℕ) × holds name text × DifferIn text (listing inputs) line
IsOtherList holds name inputs OutOfMemory = ⊤
IsOtherList holds name inputs fault = ⊥

-- a list is named, and is not read or is another
abbrev pub IsListFault : Stored → Faulty → Option (List ℕ) → List RangeNote → ShardFault → Type 0
IsListFault holds unreadable None inputs fault = ⊥
IsListFault holds unreadable (Some name) inputs fault = IsListUnread holds unreadable name fault ⊎ IsOtherList holds name inputs fault

-- ---- all

-- there is no request of a job whose outputs can be merged
abbrev pub IsFirstFault : List Told → ShardFault → Type 0
IsFirstFault vs NoShards = vs ≡ []
IsFirstFault vs NoRequest = (0 < length vs) × AsksNone (verdict_at vs 0)
IsFirstFault vs OutOfMemory = ⊤
IsFirstFault vs fault = ⊥

-- a verdict tells of more outputs than there are partitions, or of fewer, and those before of as many
abbrev pub IsMiscounted : List Told → ℕ → ShardFault → Type 0
IsMiscounted vs parts (OtherOutputs shard) =
    (shard < length vs) × AreCounted (take shard vs) parts × (length (verdict_at vs shard).outputs ≢ parts)
IsMiscounted vs parts fault = ⊥

-- an input has no beginning, or begins a file again, or has no end; those before have no such fault, nor has this one a fault
-- that comes before its own
abbrev pub IsInputFault : Bool → List RangeNote → ShardFault → Type 0
IsInputFault partial inputs (NoBeginning input) = IsFirstGap partial inputs (gap.NoBeginning input) × AreOnce (take input inputs)
IsInputFault partial inputs (RepeatedInput input) =
    IsRepeated inputs input × ((k : ℕ) → k < input → Stands partial inputs k) × BeginsWell partial inputs (gap.NoEnd input)
IsInputFault partial inputs (NoEnd input) = IsFirstGap partial inputs (gap.NoEnd input) × AreOnce (take (input + 1) inputs)
IsInputFault partial inputs fault = ⊥

-- the inputs can't be numbered; or they can, and one has a fault
abbrev pub IsInputsFault : Bool → List RangeNote → ShardFault → Type 0
IsInputsFault partial inputs TooManyFiles = 2 ^ 32 ≤ length inputs
IsInputsFault partial inputs OutOfMemory = ⊤
IsInputsFault partial inputs fault = (length inputs < 2 ^ 32) × IsInputFault partial inputs fault

-- the verdicts are not joined
abbrev pub IsUnjoined : RequestSpec → List Told → ShardFault → Type 0
IsUnjoined request vs (OtherRequest shard) = IsJoinFault request vs (join.OtherRequest shard)
IsUnjoined request vs TooManyPairs = IsJoinFault request vs join.TooManyPairs
IsUnjoined request vs (FarPlace shard) = IsJoinFault request vs (join.PlaceTooFar shard)
IsUnjoined request vs OutOfMemory = ⊤
IsUnjoined request vs fault = ⊥

-- they are not joined; or they are, and tell of other outputs; or not of others, and of inputs that don't tile files
abbrev pub IsJoinedFault : Bool → RequestSpec → List Told → ShardFault → Type 0
IsJoinedFault partial request vs fault = IsUnjoined request vs fault
    ⊎ ((m : Told) × IsJoined request vs m
    × (IsMiscounted vs request.parts fault ⊎ (AreCounted vs request.parts × IsInputsFault partial (inputs_of vs) fault)))

-- other inputs were meant; or just these, and the result would stand in a shard's folder; or in none, and over a file that is read
abbrev pub IsUnmeant : Stored → Faulty → (List ℕ → List ℕ → Type 0) → Known → List (List ℕ) → Option (List ℕ) → List ℕ → ℕ → List RangeNote → ShardFault → Type 0
IsUnmeant holds unreadable alike known names list dir parts inputs fault = IsListFault holds unreadable list inputs fault
    ⊎ (IsListed holds list inputs × (IsSameFolder alike names dir fault ⊎ (AreApart names dir × IsShared known names list dir parts fault)))

-- they are not joined; or they are, and were not meant so
abbrev pub IsRequestFault : Stored → Faulty → (List ℕ → List ℕ → Type 0) → Known → RequestSpec → List (List ℕ) → Option (List ℕ) → List ℕ → Bool → List Told → ShardFault → Type 0
IsRequestFault holds unreadable alike known request names list dir partial vs fault = IsJoinedFault partial request vs fault
    ⊎ ((m : Told) × IsJoinedOnce partial request vs m × IsUnmeant holds unreadable alike known names list dir request.parts m.inputs fault)

-- nothing is merged: there is no request, or under that of the first verdict there is no merge
abbrev pub IsMergingFault : Stored → Faulty → (List ℕ → List ℕ → Type 0) → Known → List (List ℕ) → Option (List ℕ) → List ℕ → Bool → List Told → ShardFault → Type 0
IsMergingFault holds unreadable alike known names list dir partial vs fault = (fault ≡ OutOfMemory) ⊎ (IsFirstFault vs fault
    ⊎ ((request : RequestSpec) × Asks (verdict_at vs 0) request × IsRequestFault holds unreadable alike known request names list dir partial vs fault))

-- ---- the result

-- nothing changed, as not all parts can be opened
abbrev pub IsUnbegun : Stored → Stored → Faulty → RequestSpec → List (List ℕ) → List Told → ShardFault → Type 0
IsUnbegun old new unreadable request names vs fault = ChangesAmong old new [] × AreUnopened old unreadable request.parts names vs fault

-- the verdict that stood in the folder is not emptied: it stands there as before, or empty; and nothing else changed
abbrev pub IsUnemptied : Stored → Stored → Faulty → List ℕ → ShardFault → Type 0
IsUnemptied old new unwritable dir fault = ChangesAmong old new (name_of_verdict dir ∷ [])
    × Begins old new (name_of_verdict dir) [] × ReportsUnwritten (unwritable (name_of_verdict dir)) (name_of_verdict dir) fault

-- the first partitions are merged, and their parts stand whole; the next one is not merged, or not written; the verdict is
-- empty, and all else stands as before
pub record IsCutShort (old new : Stored) (unreadable unwritable : Faulty) (request : RequestSpec) (names : List (List ℕ)) (vs : List Told) (dir : List ℕ) (fault : ShardFault) : Type 0 where
  pub texts : List (List ℕ)
  pub few : length texts < request.parts
  pub merged : ArePartitions old request.job names vs texts
  pub whole : Holding new (part_names dir (length texts)) texts
  pub emptied : new (name_of_verdict dir) []
  pub others : ChangesAmong old new (merged_names dir (length texts + 1))
  pub why : IsPartitionFault old unreadable request.job names vs (length texts) fault
      ⊎ ReportsUnwritten (unwritable (name_of_part dir (length texts))) (name_of_part dir (length texts)) fault

-- all partitions are merged, and the lines of a shard's parts state other pairs than its verdict
abbrev pub HasOtherPairs : Stored → Stored → RequestSpec → List (List ℕ) → List Told → List ℕ → ShardFault → Type 0
HasOtherPairs old new request names vs dir fault = (w : ArePartsWritten old new request names vs dir) × IsOtherPairs request.job vs w.parts fault

-- why there are no notes of all parts of the result
abbrev pub IsPartsFault : Stored → Stored → Faulty → Faulty → RequestSpec → List (List ℕ) → List Told → List ℕ → ShardFault → Type 0
IsPartsFault old new unreadable unwritable request names vs dir fault = IsUnbegun old new unreadable request names vs fault
    ⊎ (IsUnemptied old new unwritable dir fault
    ⊎ (IsCutShort old new unreadable unwritable request names vs dir fault ⊎ HasOtherPairs old new request names vs dir fault))

-- all is merged and the parts stand whole, and the verdict is not written: there stands what stood there, or a beginning of
-- its text
pub record IsUnnamed (old new : Stored) (unwritable : Faulty) (names : List (List ℕ)) (list : Option (List ℕ)) (partial : Bool) (vs : List Told) (dir : List ℕ) (fault : ShardFault) : Type 0 where
  pub joined : Told
  pub texts : List (List ℕ)
  pub merging : IsMerging old names list partial vs joined texts
  pub whole : Holding new (part_names dir (length texts)) texts
  pub begins : Begins old new (name_of_verdict dir) (spelling joined)
  pub others : ChangesAmong old new (merged_names dir (length texts))
  pub why : ReportsUnwritten (unwritable (name_of_verdict dir)) (name_of_verdict dir) fault

-- nothing changed, as the verdicts are not all read, or are not of shards that can be merged
abbrev pub IsUnmerged : Stored → Stored → Faulty → (List ℕ → List ℕ → Type 0) → Known → List (List ℕ) → Option (List ℕ) → List ℕ → Bool → ShardFault → Type 0
IsUnmerged old new unreadable alike known names list dir partial fault = ChangesAmong old new [] × (IsUngathered old unreadable names fault
    ⊎ ((vs : List Told) × AreHeard old names vs × IsMergingFault old unreadable alike known names list dir partial vs fault))

-- the verdicts can be merged to that folder, and the result is not all written
pub record IsUnfinished (old new : Stored) (unreadable unwritable : Faulty) (known : Known) (names : List (List ℕ)) (list : Option (List ℕ)) (dir : List ℕ) (partial : Bool) (fault : ShardFault) : Type 0 where
  pub verdicts : List Told
  pub request : RequestSpec
  pub joined : Told
  pub held : AreHeard old names verdicts
  pub ready : IsReady old known names list dir partial verdicts request joined
  pub why : IsPartsFault old new unreadable unwritable request names verdicts dir fault ⊎ IsUnnamed old new unwritable names list partial verdicts dir fault

abbrev pub IsShardRefusal : Stored → Stored → Faulty → Faulty → (List ℕ → List ℕ → Type 0) → Known → List (List ℕ) → Option (List ℕ) → List ℕ → Bool → ShardFault → Type 0
IsShardRefusal old new unreadable unwritable alike known names list dir partial fault =
    IsUnmerged old new unreadable alike known names list dir partial fault ⊎ IsUnfinished old new unreadable unwritable known names list dir partial fault
