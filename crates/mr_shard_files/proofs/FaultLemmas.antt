-- Faults, handed on from stage to stage.
use Rattle.std.proofs.Common.{◌≡◌, ◌<◌, ◌≤◌, ◌+◌, ◌^◌, ℕ, Bool, true, false, cond, None, Some, List, [], ◌∷◌, ap, length, length-append, refl, arith}
use Rattle.std.proofs.lemmas.List.Sums.{sum_by-cons}
use Rattle.mr_jobs.specs.JobSpec.{JobSpec}
use Rattle.mr_shards.specs.declared.merger.MergeFault.{MergeFault}
use Rattle.mr_shards.specs.declared.merger.MergeFault.TheVariants as merge
use Rattle.mr_shards.specs.declared.shift.ShardFiles.{ShardFiles}
use Rattle.mr_shards.specs.declared.merger.ShardText.{ShardText}
use Rattle.mr_shards.specs.Refused.{Blames, files_in}
use Rattle.mr_shards.specs.Portions.{past_cut, past_shard}
use Rattle.mr_shards.specs.Joined.{inputs_of}
use Rattle.mr_shards.specs.RangeNotes.{RangeNote}
use Rattle.mr_shards.specs.RangeVerdicts.{file_lengths, files_of, last_goes_on, last_number}
use Rattle.mr_shards.specs.Verdict.{Told}
use Rattle.mr_shards.proofs.PastLemmas.{few-lengths}
use Rattle.mr_shard_files.specs.Beside.{AreOutputs}
use Rattle.mr_shard_files.specs.Told.{told_of_merge}
use Rattle.mr_shard_files.specs.Faults.{IsBlamed}

-- ranges make up no more files than they are
past_few : (ms ns : List RangeNote) → (past_shard (files_of ms ns)).files ≤ length ms
past_few ms ns = by (last_goes_on ms ns)
  where
    by : (b : Bool) → (past_cut (length (file_lengths ms)) (cond b (Some (last_number (file_lengths ms))) None)).files ≤ length ms
    by true = omega (arith, few-lengths ms)
    by false = omega (arith, few-lengths ms)

-- the outputs are of no more files than the verdicts have inputs
files_few : (vs : List Told) (ts : List (List ℕ)) (os : List ShardText) → AreOutputs vs ts os → files_in os ≤ length (inputs_of vs)
files_few [] [] [] a = omega arith
files_few [] [] (o ∷ os) a = absurd a
files_few [] (t ∷ ts) os a = absurd a
files_few (v ∷ vs) [] os a = absurd a
files_few (v ∷ vs) (t ∷ ts) [] a = absurd a
files_few (v ∷ vs) (t ∷ ts) (o ∷ os) a =
    let rest = files_few vs ts os a.2 in
    let both = length-append v.inputs (inputs_of vs) in
    let first : files_in (o ∷ os) ≡ (past_shard o.files).files + files_in os = sum_by-cons (λ (q : ShardText). (past_shard q.files).files) o os in
    let here : (past_shard o.files).files ≡ (past_shard (files_of v.inputs (inputs_of vs))).files = ap (λ (f : ShardFiles). (past_shard f).files) a.0 in
    let few = past_few v.inputs (inputs_of vs) in
    omega (arith, first, rest, both, here, few)

pub blamed : (job : JobSpec) (vs : List Told) (ts : List (List ℕ)) (os : List ShardText) (p : ℕ) (e : MergeFault) → length (inputs_of vs) < 2 ^ 32 → AreOutputs vs ts os
    → Blames job os e → IsBlamed job os p (told_of_merge p e)
blamed job vs ts os p (merge.BadLine shard line) few a h = (refl, h)
blamed job vs ts os p merge.TotalTooLarge few a h = (refl, h)
blamed job vs ts os p merge.TooManyFiles few a h = absurd (omega (arith, few, h, files_few vs ts os a))
blamed job vs ts os p (merge.NoSuchFile shard) few a h = (refl, h)
blamed job vs ts os p merge.PlaceTooFar few a h = (refl, h)
blamed job vs ts os p merge.OutOfMemory few a h = tt
