-- What `merge` answers, over the files of a store.
use Rattle.std.specs.Prelude.{◌≡◌, ℕ, List, Option, codes, length, map, option_map}
use Rattle.mr_files.specs.Holding.{Faulty, Stored}
use Rattle.mr_files.specs.Identities.{Known}
use Rattle.mr_shards.specs.Verdict.{Told}
use Rattle.mr_shard_files.specs.Faults.{IsShardRefusal}
use Rattle.mr_shard_files.specs.Merging.{IsMerged}
use Rattle.mr_shard_files.specs.declared.fault.ShardFault.{ShardFault}
use Rattle.mr_args.specs.declared.request.MergeOptions.{MergeOptions}
use Rattle.mr_args.specs.declared.fault.Fault.{Fault}
use Rattle.mr_args.specs.Statuses.{ReportsShards}
use Rattle.mr_commands.specs.Outcomes.{counts_line}

-- what is said of a result by a word: its files, its pairs, and the records that are left out, as its verdict tells them
abbrev pub result_line : List ℕ → Told → List ℕ
result_line word v = counts_line word (length v.outputs) v.pairs (length v.left_out)

-- the names of the verdicts, in order
abbrev pub verdict_names : MergeOptions → List (List ℕ)
verdict_names o = map (λ s. s.now) o.verdicts.items

-- the name of the list of the inputs that are meant, where one is given
abbrev pub list_name : MergeOptions → Option (List ℕ)
list_name o = option_map (λ s. s.now) o.inputs

-- what `merge` did where it answers: the shards whose verdicts are named were merged in their order, the result stands in the
-- directory that is named, and the text tells the outputs, the pairs and the left-out records of its verdict
pub record AnswersMerge (old new : Stored) (known : Known) (o : MergeOptions) (text : List ℕ) : Type 0 where
  pub joined : Told
  pub merged : IsMerged old new known (verdict_names o) (list_name o) o.out.now o.partial joined
  pub said : text ≡ result_line (codes "merged: ") joined

-- why `merge` doesn't answer, as the merge of these shards tells it, and what stands then
abbrev pub IsMergeUnanswered : Stored → Stored → Faulty → Faulty → (List ℕ → List ℕ → Type 0) → Known → MergeOptions → Fault → Type 0
IsMergeUnanswered old new unreadable unwritable alike known o fault =
    (e : ShardFault) × ReportsShards e fault × IsShardRefusal old new unreadable unwritable alike known (verdict_names o) (list_name o) o.out.now o.partial e
