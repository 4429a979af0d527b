-- Pairs that lines of outputs state.
use Rattle.std.specs.Prelude.{◌≡◌, ℕ, ◌+◌, ◌<◌, ◌≤◌, ◌^◌, ⊤, List, [], ◌∷◌, ◌++◌, Option, None, Some, MatchOption, decimal, length, slice_index_or}
use Rattle.std.specs.List.{AllByRecursion, flat_map}
use Rattle.mr_jobs.specs.JobSpec.{JobSpec, group_text_of}
use Rattle.mr_jobs.specs.declared.job.GroupText.{GroupText}
use Rattle.mr_jobs.specs.declared.job.GroupText.TheVariants.{Count, Lines, Files}
use Rattle.mr_shards.specs.declared.cursor.Held.{Held}
use Rattle.mr_shards.specs.Joined.{verdict_at}
use Rattle.mr_shards.specs.Lines.{EndsLine, lines}
use Rattle.mr_shards.specs.Verdict.{Told}
use Rattle.mr_shard_files.specs.declared.fault.ShardFault.{ShardFault}
use Rattle.mr_shard_files.specs.declared.fault.ShardFault.TheVariants.{OtherTotal}

-- the line is a key, a tab, and a number that fits in 64 bits
abbrev pub EndsInCount : List ℕ → ℕ → Type 0
EndsInCount line n = (n < 2 ^ 64) × ((key : List ℕ) × (line ≡ key ++ 9 ∷ decimal n))

-- the line states so many pairs: its count, or one; a line of an index states none
abbrev pub StatesFor : GroupText → List ℕ → ℕ → Type 0
StatesFor Count line n = EndsInCount line n
StatesFor Lines line n = n ≡ 1
StatesFor Files line n = n ≡ 0

-- a line of the job states so many pairs
abbrev pub States : JobSpec → List ℕ → ℕ → Type 0
States job line n = StatesFor (group_text_of job) line n

-- the lines state so many together
abbrev pub StateTogether : JobSpec → List (List ℕ) → ℕ → Type 0
StateTogether job [] n = n ≡ 0
StateTogether job (l ∷ ls) n = (k : ℕ) × (m : ℕ) × States job l k × StateTogether job ls m × (n ≡ k + m)

-- this is how many they state, or none fits in 64 bits
abbrev pub IsTotal : JobSpec → List (List ℕ) → Option ℕ → Type 0
IsTotal job ls total = MatchOption total ((n : ℕ) → n < 2 ^ 64 → StateTogether job ls n → ⊥) (StateTogether job ls)

-- the texts are whole lines, which state so many pairs together
abbrev pub HaveTotal : JobSpec → List (List ℕ) → ℕ → Type 0
HaveTotal job texts n = AllByRecursion EndsLine texts × StateTogether job (flat_map lines texts) n

-- this is how many the texts state, or none fits
abbrev pub IsTotalOf : JobSpec → List (List ℕ) → Option ℕ → Type 0
IsTotalOf job texts total = MatchOption total ((n : ℕ) → n < 2 ^ 64 → HaveTotal job texts n → ⊥) (HaveTotal job texts)

-- the fact holds where lines tell pairs; those of an index tell none
abbrev pub UnlessFiles : GroupText → Type 0 → Type 0
UnlessFiles Count fact = fact
UnlessFiles Lines fact = fact
UnlessFiles Files fact = ⊤

-- so many pairs are what the texts state; those of an index tell no number of pairs
abbrev pub TotalFits : JobSpec → List (List ℕ) → ℕ → Type 0
TotalFits job texts n = UnlessFiles (group_text_of job) (HaveTotal job texts n)

-- the lines of a shard's parts state the pairs that its verdict tells
abbrev pub StatesPairs : JobSpec → List Told → List (List (List ℕ)) → ℕ → Type 0
StatesPairs job vs parts shard = TotalFits job (slice_index_or parts shard []) (verdict_at vs shard).pairs

-- those of that shard don't, and those of the shards before do
abbrev pub IsOtherPairs : JobSpec → List Told → List (List (List ℕ)) → ShardFault → Type 0
IsOtherPairs job vs parts (OtherTotal shard) =
    (shard < length vs) × ((i : ℕ) → i < shard → StatesPairs job vs parts i) × (StatesPairs job vs parts shard → ⊥)
IsOtherPairs job vs parts fault = ⊥

-- ---- sums

-- the sum, if both are there and it fits
abbrev pub IsSumOf : Option ℕ → Option ℕ → Option ℕ → Type 0
IsSumOf a b sum = MatchOption sum ((m n : ℕ) → a ≡ Some m → b ≡ Some n → 2 ^ 64 ≤ m + n)
    (λ k. (m : ℕ) × (n : ℕ) × (a ≡ Some m) × (b ≡ Some n) × (k ≡ m + n))

-- what was counted of a shard is added to its total
abbrev pub IsAdded : Held → Option ℕ → Option ℕ → Type 0
IsAdded h old new = IsSumOf old h.pairs new

-- texts that state so many are those of so many pairs, or are not
abbrev pub Fits : JobSpec → Option ℕ → ℕ → Type 0
Fits job total n = (texts : List (List ℕ)) → IsTotalOf job texts total → TotalFits job texts n

abbrev pub FitsNot : JobSpec → Option ℕ → ℕ → Type 0
FitsNot job total n = (texts : List (List ℕ)) → IsTotalOf job texts total → TotalFits job texts n → ⊥

abbrev pub total_at : List (Option ℕ) → ℕ → Option ℕ
total_at totals shard = slice_index_or totals shard None

-- the total of that shard fits its verdict
abbrev pub FitsAt : JobSpec → List Told → List (Option ℕ) → ℕ → Type 0
FitsAt job vs totals shard = Fits job (total_at totals shard) (verdict_at vs shard).pairs

-- that of this one doesn't, and those of the shards before do
abbrev pub IsUnfit : JobSpec → List Told → List (Option ℕ) → ShardFault → Type 0
IsUnfit job vs totals (OtherTotal shard) =
    (shard < length vs) × ((i : ℕ) → i < shard → FitsAt job vs totals i) × FitsNot job (total_at totals shard) (verdict_at vs shard).pairs
IsUnfit job vs totals fault = ⊥
