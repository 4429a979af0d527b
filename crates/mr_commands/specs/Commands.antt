-- What is answered to each command, over the files of a store.
use Rattle.std.specs.Prelude.{◌≡◌, ℕ, List, [], ◌∷◌, ⊤}
use Rattle.mr_files.specs.Holding.{ChangesAmong, Faulty, Stored}
use Rattle.mr_files.specs.Identities.{Known}
use Rattle.mr_files.specs.Names.{result_names}
use Rattle.mr_shard_files.specs.Merging.{ChangesResult}
use Rattle.mr_args.specs.declared.fault.Fault.{Fault}
use Rattle.mr_args.specs.declared.request.Subcommand.{Subcommand}
use Rattle.mr_args.specs.declared.request.Subcommand.TheVariants.{Seq, Run, Check, Merge, Verify, Explain, Picture}
use Rattle.mr_commands.specs.Answers.{AnswersSeq, IsSeqRefusal}
use Rattle.mr_store.specs.Devices.{Seen}
use Rattle.mr_commands.specs.Explains.{AnswersExplain, IsExplainUnanswered}
use Rattle.mr_commands.specs.Merges.{AnswersMerge, IsMergeUnanswered}
use Rattle.mr_commands.specs.Verifies.{AnswersVerify, IsVerifyUnanswered}
use Rattle.mr_commands.specs.OldVerdicts.{ChangesOver}
use Rattle.mr_commands.specs.Pictures.{AnswersPicture, IsPictureUnanswered}
use Rattle.mr_commands.specs.Runs.{AnswersRun, IsRunUnanswered, written_by_run}
use Rattle.mr_commands.specs.Named.{written_by_check}
use Rattle.mr_commands.specs.Verdicts.{KeepsVerdict, IsCheckUnanswered}

-- nothing changed but what the command writes: the result, with a run's history, and a verdict that stood there; for `check` the verdict; for `merge` a
-- merged result, of so many parts as the verdicts tell; for `picture` its page; `verify` and `explain` write nothing
abbrev pub ChangesOwn : Stored → Stored → Subcommand → Type 0
ChangesOwn old new (Seq o) = ChangesOver old new o.options.out.now (result_names o.options.out.now o.options.parts)
ChangesOwn old new (Run o) = ChangesOver old new o.options.out.now (written_by_run o)
ChangesOwn old new (Check o) = ChangesAmong old new (written_by_check o)
ChangesOwn old new (Merge o) = ChangesResult old new o.out.now
ChangesOwn old new (Verify o) = ChangesAmong old new []
ChangesOwn old new (Explain o) = ChangesAmong old new []
ChangesOwn old new (Picture o) = ChangesAmong old new (o.page.now ∷ [])

-- `explain` alone prints while it works
abbrev pub PrintsOwn : Subcommand → Seen → Seen → Type 0
PrintsOwn (Explain o) before after = ⊤
PrintsOwn asked before after = after ≡ before

-- what is answered where the line was understood and no fault was met
abbrev pub Answers : Stored → Stored → Faulty → Known → Subcommand → Seen → Seen → List ℕ → ℕ → Type 0
Answers old new unreadable known (Seq o) before after text status = (status ≡ 0) × AnswersSeq old new unreadable known o text
Answers old new unreadable known (Run o) before after text status = AnswersRun old new unreadable known o text status
Answers old new unreadable known (Check o) before after text status = KeepsVerdict old new known o text status
Answers old new unreadable known (Merge o) before after text status = (status ≡ 0) × AnswersMerge old new known o text
Answers old new unreadable known (Verify o) before after text status = (status ≡ 0) × AnswersVerify old o text
Answers old new unreadable known (Explain o) before after text status = (text ≡ []) × AnswersExplain old o before after status
Answers old new unreadable known (Picture o) before after text status = (status ≡ 0) × AnswersPicture old new known o text

-- why nothing is answered, and what was changed then
abbrev pub IsRefusal : Stored → Stored → Faulty → Faulty → (List ℕ → List ℕ → Type 0) → Known → Subcommand → Seen → Seen → Fault → Type 0
IsRefusal old new unreadable unwritable alike known (Seq o) before after fault = IsSeqRefusal old new unreadable unwritable known o fault
IsRefusal old new unreadable unwritable alike known (Run o) before after fault = IsRunUnanswered old new unreadable unwritable alike known o fault
IsRefusal old new unreadable unwritable alike known (Check o) before after fault = IsCheckUnanswered old new unreadable unwritable known o fault
IsRefusal old new unreadable unwritable alike known (Merge o) before after fault = IsMergeUnanswered old new unreadable unwritable alike known o fault
IsRefusal old new unreadable unwritable alike known (Verify o) before after fault = IsVerifyUnanswered old unreadable o fault
IsRefusal old new unreadable unwritable alike known (Explain o) before after fault = IsExplainUnanswered old unreadable known o before after fault
IsRefusal old new unreadable unwritable alike known (Picture o) before after fault = IsPictureUnanswered old new unreadable unwritable known o fault
