-- What `verify` answers, over the files of a store.
use Rattle.std.specs.Prelude.{◌≡◌, ℕ, List, codes, option_map}
use Rattle.mr_files.specs.Holding.{Faulty, Stored}
use Rattle.mr_shards.specs.Verdict.{Told}
use Rattle.mr_shard_files.specs.Verified.{IsUnverified, IsVerified}
use Rattle.mr_shard_files.specs.declared.fault.ShardFault.{ShardFault}
use Rattle.mr_shard_files.specs.declared.verifying.VerifyPlan.{VerifyPlan}
use Rattle.mr_args.specs.declared.fault.Fault.{Fault}
use Rattle.mr_args.specs.Statuses.{ReportsVerify}
use Rattle.mr_commands.specs.Merges.{result_line}

-- where `verify` answers: the verdict of that name is true of the files, and the text tells what it counts
pub record AnswersVerify (holds : Stored) (o : VerifyPlan) (text : List ℕ) : Type 0 where
  pub verdict : Told
  pub verified : IsVerified holds o.verdict.now (option_map (λ s. s.now) o.out) o.inputs verdict
  pub said : text ≡ result_line (codes "verified: ") verdict

-- why `verify` doesn't answer
abbrev pub IsVerifyUnanswered : Stored → Faulty → VerifyPlan → Fault → Type 0
IsVerifyUnanswered holds unreadable o fault =
    (e : ShardFault) × ReportsVerify e fault × IsUnverified holds unreadable o.verdict.now (option_map (λ s. s.now) o.out) o.inputs e
