-- The exit statuses.
use Rattle.std.specs.Prelude.{◌≡◌, ℕ}
use Rattle.mr_args.specs.declared.fault.Fault.{Fault}
use Rattle.mr_args.specs.declared.fault.Fault.TheVariants.{Job, Run, NoPairs, BadHistory, Script, Shards, Verified, CannotRead, CannotWrite, CannotPrint, SameFile, OutOfMemory}
use Rattle.mr_files.specs.declared.store.FileFault.{FileFault}
use Rattle.mr_files.specs.declared.store.FileFault.TheVariants as file
use Rattle.mr_jobs.specs.declared.job.JobFault.{JobFault}
use Rattle.mr_jobs.specs.declared.job.JobFault.TheVariants as job
use Rattle.mr_script.specs.declared.script.ScriptFault.{ScriptFault}
use Rattle.mr_script.specs.declared.script.ScriptFault.TheVariants as script
use Rattle.mr_sequential.specs.declared.sequence.RunFault.{RunFault}
use Rattle.mr_sequential.specs.declared.sequence.RunFault.TheVariants as run
use Rattle.mr_shard_files.specs.declared.fault.ShardFault.{ShardFault}
use Rattle.mr_shard_files.specs.declared.fault.ShardFault.TheVariants as shards

-- 1 where the shards aren't what their verdicts say, or not shards of the whole that is meant; 2 for usage or a limit
abbrev pub status_of_shards : ShardFault → ℕ
status_of_shards (shards.BadVerdict shard line) = 1
status_of_shards (shards.OldVerdict shard) = 1
status_of_shards shards.NoRequest = 1
status_of_shards (shards.OtherRequest shard) = 1
status_of_shards (shards.NoBeginning input) = 1
status_of_shards (shards.RepeatedInput input) = 1
status_of_shards (shards.NoEnd input) = 1
status_of_shards (shards.OtherInputs line) = 1
status_of_shards (shards.OtherPart shard partition) = 1
status_of_shards (shards.BadLine shard partition line) = 1
status_of_shards (shards.NoSuchFile shard partition) = 1
status_of_shards (shards.OtherOutputs shard) = 1
status_of_shards (shards.OtherTotal shard) = 1
status_of_shards (shards.OtherInput input) = 1
status_of_shards fault = 2

-- 3 for a file or standard output, 4 for want of memory, 1 for shards that aren't those of one whole, where pairs are missing, and for a bad history, 2 for usage or a limit
abbrev pub status_of : Fault → ℕ
status_of (CannotRead name) = 3
status_of (CannotWrite name) = 3
status_of CannotPrint = 3
status_of OutOfMemory = 4
status_of (Shards fault) = status_of_shards fault
status_of (Verified fault) = status_of_shards fault
status_of NoPairs = 1
status_of (BadHistory line) = 1
status_of fault = 2

-- want of memory is told as itself, wherever it was met
abbrev pub ReportsJob : JobFault → Fault → Type 0
ReportsJob job.OutOfMemory told = told ≡ OutOfMemory
ReportsJob fault told = told ≡ Job fault

abbrev pub ReportsRun : RunFault → Fault → Type 0
ReportsRun run.OutOfMemory told = told ≡ OutOfMemory
ReportsRun fault told = told ≡ Run fault

abbrev pub ReportsScript : ScriptFault → Fault → Type 0
ReportsScript script.OutOfMemory told = told ≡ OutOfMemory
ReportsScript fault told = told ≡ Script fault

-- a file that can't be read or written too, and one that would be written over
abbrev pub ReportsShards : ShardFault → Fault → Type 0
ReportsShards (shards.CannotRead name) told = told ≡ CannotRead name
ReportsShards (shards.CannotWrite name) told = told ≡ CannotWrite name
ReportsShards (shards.SameFile name) told = told ≡ SameFile name
ReportsShards shards.OutOfMemory told = told ≡ OutOfMemory
ReportsShards fault told = told ≡ Shards fault

-- so is a file that can't be read
abbrev pub ReportsVerify : ShardFault → Fault → Type 0
ReportsVerify (shards.CannotRead name) told = told ≡ CannotRead name
ReportsVerify shards.OutOfMemory told = told ≡ OutOfMemory
ReportsVerify fault told = told ≡ Verified fault

-- a fault of files is told as itself
abbrev pub ReportsFile : FileFault → Fault → Type 0
ReportsFile (file.CannotRead name) told = told ≡ CannotRead name
ReportsFile (file.CannotWrite name) told = told ≡ CannotWrite name
ReportsFile file.OutOfMemory told = told ≡ OutOfMemory
