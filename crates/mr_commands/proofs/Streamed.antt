-- From what the judge over readers answers to what is said of a result.
use Rattle.std.proofs.Common.{◌≡◌, ◌⊎◌, ℕ, Option, Some, None, List, [], ◌∷◌, refl, sym, subst}
use Rattle.std.specs.Prelude.{IfSome, Result, Ok, Err}
use Rattle.mr_jobs.specs.JobSpec.{RequestSpec}
use Rattle.mr_certform.specs.Streaming.{Agrees as MayBe}
use Rattle.mr_verdict.specs.declared.answers.No.{No}
use Rattle.mr_verdict.specs.declared.answers.No.TheVariants.{Device, OutOfMemory}
use Rattle.mr_verdict.specs.declared.answers.Source.{Source}
use Rattle.mr_verdict.specs.declared.answers.Yes.{Yes}
use Rattle.mr_judge.specs.From.{AgreeAll, IsVerdictFrom, Judged}
use Rattle.mr_verdict.specs.Verdict.{verdict_of}
use Rattle.mr_check.specs.Accepted.{AcceptsRead}
use Rattle.mr_files.specs.Holding.{Agrees, AllAgree, Holding, Stored}
use Rattle.mr_files.specs.Names.{name_of_certificate, part_names}
use Rattle.mr_files.specs.Refusals.{IsOneUnread, IsUnreadAmong, ReportsCause}
use Rattle.mr_files.specs.declared.store.FileFault.{FileFault}
use Rattle.mr_files.specs.declared.store.FileFault.TheVariants as file
use Rattle.mr_args.specs.declared.fault.Fault.{Fault}
use Rattle.mr_args.specs.Statuses.{ReportsFile}
use Rattle.mr_commands.specs.Judgements.{AnswersResult}
use Rattle.mr_commands.specs.Streamed.{GivesAnswer, ReportsOther, ReportsRead}
use Rattle.mr_commands.specs.declared.check_job.CheckJob.{CheckJob}

-- two words for what readers may give
agree_one : (known : Option (List ℕ)) (bytes : List ℕ) → MayBe known bytes → Agrees known bytes
agree_one None bytes a = tt
agree_one (Some xs) bytes a = sym a

agree_all : (known : List (Option (List ℕ))) (outs : List (List ℕ)) → AgreeAll known outs → AllAgree known outs
agree_all [] [] a = tt
agree_all [] (b ∷ outs) a = absurd a
agree_all (k ∷ known) [] a = absurd a
agree_all (k ∷ known) (b ∷ outs) a = (agree_one k b a.0, agree_all known outs a.1)

-- no read failed, and so the fault is one of the result, or memory was wanting
no_read : (request : RequestSpec) (files outs : List (List ℕ)) (bytes : List ℕ) (e : No) → ((s : Source) → e ≡ Device s → ⊥) → IsVerdictFrom request files outs bytes (Err e)
    → (e ≡ OutOfMemory) ⊎ (verdict_of request files outs bytes ≡ Err e)
no_read request files outs bytes (Device s) other h = absurd (other s refl)
no_read request files outs bytes e other h = h

module _ (request : RequestSpec) (files : List (List ℕ)) (parts : List (Option (List ℕ))) (certificate : Option (List ℕ)) where
  pub yes_given : (y : Yes) → Judged request files parts certificate (Ok y) → GivesAnswer request files parts certificate (Ok y)
  yes_given y j = (j.outs, j.bytes, agree_all parts j.outs j.given.outputs_agree, agree_one certificate j.bytes j.given.certificate_agrees, record { verdict = j.verdict; certified = j.headline })

  pub no_given : (e told : No) → Judged request files parts certificate (Err e) → ReportsOther e told → GivesAnswer request files parts certificate (Err told)
  no_given e told j t = (
    j.outs,
    j.bytes,
    agree_all parts j.outs j.given.outputs_agree,
    agree_one certificate j.bytes j.given.certificate_agrees,
    subst (λ (x : No). (x ≡ OutOfMemory) ⊎ (verdict_of request files j.outs j.bytes ≡ Err x)) (sym t.0) (no_read request files j.outs j.bytes e t.1 j.verdict),
  )

-- what the readers of a result give stands under its names
pub answered : (holds : Stored) (job : CheckJob) (readers parts : List (Option (List ℕ))) (certificate : Option (List ℕ)) (answer : Result Yes No) → parts ≡ readers
    → ((outs : List (List ℕ)) → AllAgree readers outs → Holding holds (part_names job.asked.now.options.out.now job.asked.now.options.parts) outs)
    → ((bytes : List ℕ) → Agrees certificate bytes → holds (name_of_certificate job.asked.now.options.out.now) bytes)
    → GivesAnswer job.request.now job.input.now parts certificate answer → AnswersResult holds job answer
answered holds job readers parts certificate answer same held held_last (outs, bytes, agree, agrees, a) =
    (outs, bytes, (held outs (subst (λ (v : List (Option (List ℕ))). AllAgree v outs) same agree), held_last bytes agrees), a)

-- a yes of the fast judge is an answer on what stands under the names
pub accepted_answers : (holds : Stored) (job : CheckJob) (outs : List (List ℕ)) (certificate : Option (List ℕ)) (accepted : Option Yes)
    → Holding holds (part_names job.asked.now.options.out.now job.asked.now.options.parts) outs
    → ((bytes : List ℕ) → Agrees certificate bytes → holds (name_of_certificate job.asked.now.options.out.now) bytes)
    → IfSome accepted (AcceptsRead job.request.now job.input.now outs certificate) → IfSome accepted (λ y. AnswersResult holds job (Ok y))
accepted_answers holds job outs certificate None held held_last a = tt
accepted_answers holds job outs certificate (Some y) held held_last a =
    (outs, a.bytes, (held, held_last a.bytes (agree_one certificate a.bytes a.agrees)), record { verdict = a.verdict; certified = a.headline })

-- a file that can't be read is one of which the cause is known
pub unread_told : (unreadable : List ℕ → Type 0) (names : List (List ℕ)) (cause : List ℕ → Type 0) (e : FileFault) → ((n : List ℕ) → IsUnreadAmong unreadable names n → cause n) → IsOneUnread unreadable names e → ReportsCause cause e
unread_told unreadable names cause (file.CannotRead name) known h = known _ h
unread_told unreadable names cause (file.CannotWrite name) known h = absurd h
unread_told unreadable names cause file.OutOfMemory known h = tt

pub read_told : (cause : List ℕ → Type 0) (e : FileFault) (f : Fault) → ReportsCause cause e → ReportsFile e f → ReportsRead cause f
read_told cause (file.CannotRead name) f h t = rw t h
read_told cause (file.CannotWrite name) f h t = absurd h
read_told cause file.OutOfMemory f h t = rw t tt
