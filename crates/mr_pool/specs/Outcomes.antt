-- What a run answers.
use Rattle.std.specs.Prelude.{◌≡◌, ◌≤◌, ◌^◌, ℕ, Bool, List, Some, Ok, Err, ◌⊎◌, IsTrue}
use Rattle.mr_input.specs.Files.{contents, split_total}
use Rattle.mr_jobs.specs.JobSpec.{RequestSpec}
use Rattle.mr_certform.specs.Value.{Contents, Spells, SpellsIn}
use Rattle.mr_certform.specs.declared.version.Version.{Version}
use Rattle.mr_script.specs.declared.script.Directive.{Directive}
use Rattle.mr_core.specs.declared.event.Shape.{Shape}
use Rattle.mr_core.specs.declared.event.End.{End}
use Rattle.mr_core.specs.declared.event.JobFault.{JobFault}
use Rattle.mr_core.specs.Core.{InLimits}
use Rattle.mr_core.specs.Master.{State, Run, opening}
use Rattle.mr_core.specs.Promises.{Promises}
use Rattle.mr_book.specs.Assembled.{assembled_certificate, assembled_outputs}
use Rattle.mr_book.specs.View.{StoresAccepted}
use Rattle.mr_book.specs.Assembling.{reduced_under}
use Rattle.mr_book.specs.Calls.{has_damage}
use Rattle.mr_book.specs.Faithful.{IsOpenedFor}
use Rattle.mr_book.specs.declared.book.History.{History}
use Rattle.mr_sequential.specs.Good.{IsGoodResult}
use Rattle.mr_verdict.specs.declared.answers.No.{No}
use Rattle.mr_verdict.specs.declared.answers.No.TheVariants.{OtherJob}
use Rattle.mr_verdict.specs.Headline.{IsCertified}
use Rattle.mr_verdict.specs.Verdict.{verdict_of}
use Rattle.mr_pool.specs.Accounts.{accounts}
use Rattle.mr_pool.specs.declared.running.Certified.{Certified}
use Rattle.mr_pool.specs.declared.running.RunFault.{RunFault}
use Rattle.mr_pool.specs.declared.running.RunFault.TheVariants.{Failed, Uncertified, OutOfMemory}

-- what the book of a run is opened with
abbrev pub run_shape : RequestSpec → List (List ℕ) → ℕ → ℕ → Shape
run_shape request files workers attempts = record {
  maps = split_total request.split files;
  parts = request.parts;
  workers = workers;
  limits = record { attempts = attempts; skips = request.skips };
}

-- the input fits, and the shape is within the limits, and is the request's over this input
pub record IsRunnable (request : RequestSpec) (files : List (List ℕ)) (sh : Shape) : Type 0 where
  pub fits : split_total request.split files ≤ 2 ^ 20
  pub limits : InLimits sh
  pub opened : IsOpenedFor request files sh

-- a closed book of this shape: its history is a run of the master that leads to the state, so that the master's promises
-- hold of it, and its stored outputs are just those that the history accepted
pub record IsHistory (sh : Shape) (h : History) (st : State) : Type 0 where
  pub shape : h.shape ≡ sh
  pub run : Run sh (opening sh) h.entries.items st
  pub promises : Promises sh h.entries.items st
  pub stored : StoresAccepted h.entries.items h.maps.items h.reduces.items

-- a history that ends done, with the files, and bytes of the certificate in one of the versions, that are assembled from it
pub record IsDoneRun (request : RequestSpec) (files : List (List ℕ)) (sh : Shape) (h : History) (outputs : List (List ℕ)) (bytes : List ℕ) : Type 0 where
  pub state : State
  pub history : IsHistory sh h state
  pub ends : state.end ≡ Some End.Done
  pub outputs_are : outputs ≡ assembled_outputs (reduced_under h.reduces.items) state
  pub certificate_is : Spells bytes (assembled_certificate request files (reduced_under h.reduces.items) state)

-- the verdict on just these files and these bytes is yes, with these left-out records and so many pairs, and they are a
-- good result; they are assembled from a history of this shape that ends done, and the bytes spell its certificate in the
-- version asked for
pub record IsCertifiedRun (request : RequestSpec) (files : List (List ℕ)) (sh : Shape) (version : Version) (c : Certified) : Type 0 where
  pub verdict : verdict_of request files (contents c.outputs.items) c.certificate.items ≡ Ok (record { skips = c.skips.items; pairs = c.pairs })
  pub good : IsGoodResult request files (contents c.outputs.items) c.certificate.items
  pub judged : IsCertified request files (contents c.outputs.items) c.certificate.items c.skips.items c.pairs
  pub done : IsDoneRun request files sh c.history (contents c.outputs.items) c.certificate.items
  pub in_version : SpellsIn version c.certificate.items (assembled_certificate request files (reduced_under c.history.reduces.items) done.state)

-- the job failed by this fault, and the script accounts for it, or what the store may do or the history tells
pub record IsFailedRun (script : List Directive) (steady : Bool) (sh : Shape) (fault : JobFault) (h : History) : Type 0 where
  pub state : State
  pub history : IsHistory sh h state
  pub ends : state.end ≡ Some (End.Failed fault)
  pub accounted : IsTrue (accounts script (has_damage h.entries.items) steady sh.workers fault)

-- the verdict over the files and the bytes that are assembled from the history is this no
pub record IsRefusedRun (request : RequestSpec) (files : List (List ℕ)) (sh : Shape) (verdict : No) (h : History) : Type 0 where
  pub outputs : List (List ℕ)
  pub bytes : List ℕ
  pub done : IsDoneRun request files sh h outputs bytes
  pub refused : verdict_of request files outputs bytes ≡ Err verdict

-- the history has another shape, or has not ended done, or failed without the script's account
abbrev pub IsAstray : List Directive → Bool → Shape → History → Type 0
IsAstray script steady sh h = (st : State) × Run h.shape (opening h.shape) h.entries.items st
    × ((h.shape ≡ sh) → (st.end ≡ Some End.Done → ⊥) × ((fault : JobFault) → st.end ≡ Some (End.Failed fault) → IsTrue (accounts script (has_damage h.entries.items) steady sh.workers fault) → ⊥))

abbrev pub IsRunFault : RequestSpec → List (List ℕ) → List Directive → Bool → Shape → RunFault → Type 0
IsRunFault request files script steady sh (Failed fault h) = IsFailedRun script steady sh fault h
IsRunFault request files script steady sh (Uncertified verdict h) = IsRefusedRun request files sh verdict h ⊎ ((verdict ≡ OtherJob) × IsAstray script steady sh h)
IsRunFault request files script steady sh OutOfMemory = Unit {0}

-- of no public promise: what certificate the bytes spell, they spell in this version
abbrev pub IsInVersion : Version → List ℕ → Type 0
IsInVersion version bytes = (c : Contents) → Spells bytes c → SpellsIn version bytes c
