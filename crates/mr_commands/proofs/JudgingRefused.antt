-- Why `check` says nothing.
use Rattle.std.proofs.Common.{◌≡◌, ◌↔◌, ℕ, List, Result, Ok, Err, inl, inr, ap, subst}
use Rattle.mr_files.specs.Refusals.{IsWriteRefusal}
use Rattle.mr_files.specs.declared.store.FileFault.{FileFault}
use Rattle.mr_files.specs.declared.store.FileFault.TheVariants as file
use Rattle.mr_args.specs.declared.fault.Fault.{Fault}
use Rattle.mr_args.specs.declared.fault.Fault.TheVariants.{OtherJobsOption}
use Rattle.mr_args.specs.declared.request.CheckOptions.{CheckOptions}
use Rattle.mr_args.specs.declared.request.Options.{Options}
use Rattle.mr_jobs.specs.JobSpec.{RequestSpec}
use Rattle.mr_files.specs.Names.{result_names}
use Rattle.mr_args.specs.Asked.{AsksForOtherJob, RangeStands, WithinLimits, request_asked}
use Rattle.mr_files.specs.Holding.{Faulty, Stored}
use Rattle.mr_files.specs.Identities.{AreApart, Known}
use Rattle.mr_commands.specs.Checks.{AreGood, IsOptionRefusal, IsResultRefusal, IsCheckRefusal}
use Rattle.mr_commands.specs.Inputs.{IsAsked, IsInput, IsInputRefusal, IsStopped}
use Rattle.mr_commands.specs.Named.{read_by_check, stretch_of, written_by_check}
use Rattle.mr_args.specs.Statuses.{ReportsFile}

pub asked : {A : Type 0} (o : Options) (r : A) → ((◌≡◌ {A = Result A Fault} (Ok r) (Err OtherJobsOption)) ↔ AsksForOtherJob o) → WithinLimits (request_asked o) → RangeStands o → IsAsked o
asked o r other within range = record { own = λ a. cc (other.1 a); within = within; range = range }

-- a fact about names that are read besides and names that are written
pub by_names : (P : List (List ℕ) → List (List ℕ) → Type 0) (b besides w written : List (List ℕ)) → b ≡ besides → w ≡ written → P b w → P besides written
by_names P b besides w written e f h = subst (λ (x : List (List ℕ)). P besides x) f (subst (λ (x : List (List ℕ)). P x w) e h)

pub option_stage : (holds : Stored) (unreadable : Faulty) (known : Known) (asked : CheckOptions) (e : Fault)
    → IsAsked asked.options → IsOptionRefusal asked e → IsCheckRefusal holds unreadable known asked e
option_stage holds unreadable known asked e a h = inr (inl (a, h))

pub input_stage : (holds : Stored) (unreadable : Faulty) (known : Known) (asked : CheckOptions) (request : RequestSpec) (e : Fault) → request ≡ request_asked asked.options → AreGood asked
    → IsInputRefusal holds unreadable known (stretch_of asked.options) (read_by_check asked) (written_by_check asked) request.split e → IsCheckRefusal holds unreadable known asked e
input_stage holds unreadable known asked request e r a h =
    inr (inr (inl (a, subst (λ (s : ℕ). IsInputRefusal holds unreadable known (stretch_of asked.options) (read_by_check asked) (written_by_check asked) s e) (ap (λ (v : RequestSpec). v.split) r) h)))

pub result_stage : (holds : Stored) (unreadable : Faulty) (known : Known) (asked : CheckOptions) (files : List (List ℕ)) (request : RequestSpec) (f : Fault)
    → request ≡ request_asked asked.options → AreGood asked → IsInput holds (stretch_of asked.options) request.split files → AreApart known (read_by_check asked) (written_by_check asked)
    → IsResultRefusal unreadable (result_names asked.options.out.now asked.options.parts) f → IsCheckRefusal holds unreadable known asked f
result_stage holds unreadable known asked files request f r a i apart h =
    inr (inr (inr (a, (files, subst (λ (s : ℕ). IsInput holds (stretch_of asked.options) s files) (ap (λ (v : RequestSpec). v.split) r) i), apart, h)))

pub stopped_as : (old new : List ℕ → List ℕ → Type 0) (unwritable : List ℕ → Type 0) (names texts : List (List ℕ)) (e : FileFault) (f : Fault) → IsWriteRefusal old new unwritable names texts e → ReportsFile e f → IsStopped old new unwritable names texts f
stopped_as old new unwritable names texts (file.CannotRead name) f h t = absurd h
stopped_as old new unwritable names texts (file.CannotWrite name) f h t = rw t h
stopped_as old new unwritable names texts file.OutOfMemory f h t = rw t tt
