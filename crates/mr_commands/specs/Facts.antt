-- What a command knows beside its text, for who reports it.
use Rattle.std.specs.Prelude.{◌≡◌, Bool, ℕ, ◌<◌, Option, None, Some, Result, Ok, Err, List, [], length, map, option_map, string_bytes, vec_len}
use Rattle.mr_bytes.specs.declared.RecordName.{RecordName}
use Rattle.mr_input.specs.Files.{contents, nth_file}
use Rattle.mr_splits.specs.Named.{named_records}
use Rattle.mr_sequential.specs.Emitted.{silent_count}
use Rattle.mr_sequential.specs.Sequential.{sequential}
use Rattle.mr_store.specs.Devices.{Seen}
use Rattle.mr_files.specs.Holding.{Stored}
use Rattle.mr_files.specs.Identities.{Known}
use Rattle.mr_shard_files.specs.Merging.{IsMerged}
use Rattle.mr_shard_files.specs.Verified.{IsVerified}
use Rattle.mr_shard_files.specs.declared.verifying.VerifyPlan.{VerifyPlan}
use Rattle.mr_explain.specs.Explained.{kept_of, left_out_of}
use Rattle.mr_explain.specs.Walking.{AreCounts}
use Rattle.mr_explain.specs.declared.query.Explained.{Explained}
use Rattle.mr_explain.specs.declared.query.Query.{Query}
use Rattle.mr_verdict.specs.declared.answers.No.{No}
use Rattle.mr_verdict.specs.declared.answers.Yes.{Yes}
use Rattle.mr_args.specs.declared.request.ExplainOptions.{ExplainOptions}
use Rattle.mr_args.specs.declared.request.MergeOptions.{MergeOptions}
use Rattle.mr_args.specs.declared.request.Options.{Options}
use Rattle.mr_args.specs.declared.request.RunOptions.{RunOptions}
use Rattle.mr_args.specs.declared.request.SeqOptions.{SeqOptions}
use Rattle.mr_args.specs.declared.request.Subcommand.{Subcommand}
use Rattle.mr_args.specs.declared.request.Subcommand.TheVariants as asks
use Rattle.mr_args.specs.Asked.{request_asked}
use Rattle.mr_args.specs.SkipList.{SpellsNames}
use Rattle.mr_commands.specs.Answers.{pairs_asked}
use Rattle.mr_commands.specs.Explains.{IsQueryOf}
use Rattle.mr_commands.specs.Inputs.{IsInput, IsTakenInput}
use Rattle.mr_commands.specs.Merges.{list_name, verdict_names}
use Rattle.mr_commands.specs.Named.{stretch_of}
use Rattle.mr_commands.specs.Outcomes.{done_line}
use Rattle.mr_commands.specs.HistoryLines.{history_text}
use Rattle.mr_commands.specs.Runs.{ReportsRan, Runs, history_of}
use Rattle.mr_commands.specs.Checks.{SaysAnswer}
use Rattle.mr_commands.specs.declared.counts.Facts.{Facts}
use Rattle.mr_commands.specs.declared.counts.Facts.TheVariants.{Job, Verdict, Evidence, Nothing}
use Rattle.mr_commands.specs.declared.counts.JobFacts.{JobFacts}
use Rattle.mr_commands.specs.declared.running.RunOutcome.{RunOutcome}
use Rattle.mr_commands.specs.declared.running.RunOutcome.TheVariants.{Certified}

-- how many bytes each file has
abbrev pub sizes : List (List ℕ) → List ℕ
sizes files = map length files

-- what is known of a job over these files that writes these outputs, with these counts
pub record KnowsJob (files outputs : List (List ℕ)) (records silent left_out pairs : Option ℕ) (job : JobFacts) : Type 0 where
  pub inputs : job.inputs.items ≡ sizes files
  pub parts : job.parts.items ≡ sizes outputs
  pub records_are : job.records ≡ records
  pub silent_are : job.silent ≡ silent
  pub left_out_are : job.left_out ≡ left_out
  pub pairs_are : job.pairs ≡ pairs

-- so many bytes are taken of each file that stands under a name of the input
abbrev pub AreLengths : Stored → Options → List ℕ → Type 0
AreLengths holds o lengths = (files : List (List ℕ)) × IsInput holds (stretch_of o) o.split files × (lengths ≡ sizes files)

-- ---- of `seq`: the records of what stands under the names of the input, those that are kept and give nothing, the left-out
-- records, and the pairs that the text tells too

abbrev pub KnowsWork : Options → List (List ℕ) → List RecordName → List (List ℕ) → JobFacts → Type 0
KnowsWork o files names outputs job =
    KnowsJob files outputs (Some (length (named_records o.split files))) (Some (silent_count (request_asked o).job o.split files names))
    (Some (length names)) (Some (pairs_asked o files names)) job

pub record IsKnownWork (holds : Stored) (o : SeqOptions) (text : List ℕ) (job : JobFacts) : Type 0 where
  pub files : List (List ℕ)
  pub names : List RecordName
  pub outputs : List (List ℕ)
  pub input : IsInput holds (stretch_of o.options) o.options.split files
  pub spelled : SpellsNames o.skips.now names
  pub texts : (p : ℕ) → p < o.options.parts → nth_file outputs p ≡ sequential (request_asked o.options) files names p
  pub said : text ≡ done_line o.options.parts (pairs_asked o.options files names) (length names)
  pub knows : KnowsWork o.options files names outputs job

abbrev pub AreSeqFacts : Stored → SeqOptions → List ℕ → Facts → Type 0
AreSeqFacts holds o text (Job job) = IsKnownWork holds o text job
AreSeqFacts holds o text facts = ⊥

-- ---- of `run`: no records are counted, and nothing where no result is certified

abbrev pub KnowsRan : List (List ℕ) → RunOutcome → JobFacts → Type 0
KnowsRan files (Certified c) job = KnowsJob files (contents c.outputs.items) None None (Some (vec_len c.skips)) (Some c.pairs) job
KnowsRan files ran job = KnowsJob files [] None None None None job

abbrev pub AreRanFacts : List (List ℕ) → RunOutcome → Facts → Type 0
AreRanFacts files ran (Job job) = KnowsRan files ran job
AreRanFacts files ran facts = ⊥

-- the text of the history, where a page is made of it
abbrev pub KnowsHistory : {A : Type 0} → Option A → RunOutcome → Facts → Type 0
KnowsHistory page ran (Job job) = option_map string_bytes job.history ≡ option_map (λ p. history_text (history_of ran)) page
KnowsHistory page ran facts = ⊥

pub record AreRunFacts (holds : Stored) (known : Known) (o : RunOptions) (text : List ℕ) (status : ℕ) (facts : Facts) : Type 0 where
  pub ran : RunOutcome
  pub files : List (List ℕ)
  pub runs : Runs holds known o ran
  pub input : IsInput holds (stretch_of o.options) o.options.split files
  pub told : ReportsRan ran text status
  pub knows : AreRanFacts files ran facts
  pub history : KnowsHistory o.picture ran facts

-- ---- of `check`: nothing is counted of a no

abbrev pub KnowsAnswer : List (List ℕ) → Result Yes No → JobFacts → Type 0
KnowsAnswer files (Ok y) job = KnowsJob files [] None None (Some (length y.skips.items)) (Some y.pairs) job
KnowsAnswer files (Err e) job = KnowsJob files [] None None None None job

abbrev pub AreAnswerFacts : List (List ℕ) → Result Yes No → Facts → Type 0
AreAnswerFacts files answer (Job job) = KnowsAnswer files answer job
AreAnswerFacts files answer facts = ⊥

pub record AreCheckFacts (holds : Stored) (o : Options) (text : List ℕ) (status : ℕ) (facts : Facts) : Type 0 where
  pub files : List (List ℕ)
  pub ends : Bool
  pub answer : Result Yes No
  pub input : IsTakenInput holds (stretch_of o) o.split files ends
  pub said : SaysAnswer answer text status
  pub knows : AreAnswerFacts files answer facts

-- ---- of `merge` and `verify`: the verdict that was written, or read

abbrev pub AreMergeFacts : Stored → Stored → Known → MergeOptions → Facts → Type 0
AreMergeFacts old new known o (Verdict v) = IsMerged old new known (verdict_names o) (list_name o) o.out.now o.partial v
AreMergeFacts old new known o facts = ⊥

abbrev pub AreVerifyFacts : Stored → VerifyPlan → Facts → Type 0
AreVerifyFacts holds o (Verdict v) = IsVerified holds o.verdict.now (option_map (λ s. s.now) o.out) o.inputs v
AreVerifyFacts holds o facts = ⊥

-- ---- of `explain`: how many records are looked for, and their pairs, of those that are kept and of those that are left out

pub record KnowsEvidence (holds : Stored) (o : ExplainOptions) (inputs : List ℕ) (e : Explained) : Type 0 where
  pub query : Query
  pub asked : IsQueryOf holds o query
  pub lengths : inputs ≡ sizes query.plan.now.files
  pub kept : AreCounts query.job.now query.wanted (kept_of query) e.kept
  pub left_out : AreCounts query.job.now query.wanted (left_out_of query) e.left_out

-- what was counted of a query over files of which so many bytes are taken
abbrev pub IsCounted : Query → List ℕ → Facts → Type 0
IsCounted q lengths (Evidence inputs e) =
    (inputs.items ≡ lengths) × AreCounts q.job.now q.wanted (kept_of q) e.kept × AreCounts q.job.now q.wanted (left_out_of q) e.left_out
IsCounted q lengths facts = ⊥

abbrev pub AreExplainFacts : Stored → ExplainOptions → Facts → Type 0
AreExplainFacts holds o (Evidence inputs e) = KnowsEvidence holds o inputs.items e
AreExplainFacts holds o facts = ⊥

-- ---- of every command

abbrev pub HasFacts : Stored → Stored → Known → Subcommand → Seen → Seen → List ℕ → ℕ → Facts → Type 0
HasFacts old new known (asks.Seq o) before after text status facts = AreSeqFacts old o text facts
HasFacts old new known (asks.Run o) before after text status facts = AreRunFacts old known o text status facts
HasFacts old new known (asks.Check o) before after text status facts = AreCheckFacts old o.options text status facts
HasFacts old new known (asks.Merge o) before after text status facts = AreMergeFacts old new known o facts
HasFacts old new known (asks.Verify o) before after text status facts = AreVerifyFacts old o facts
HasFacts old new known (asks.Explain o) before after text status facts = AreExplainFacts old o facts
HasFacts old new known (asks.Picture o) before after text status facts = facts ≡ Nothing
