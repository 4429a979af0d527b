-- What the assembled result of a done job is worth.
use Rattle.std.specs.Prelude.{◌≡◌, ℕ, suc, ◌<◌, ◌≤◌, Some, List, [], ◌∷◌, length, map, slice_index_or}
use Rattle.std.specs.List.{flat_map}
use Rattle.mr_bytes.specs.declared.Value.{Value}
use Rattle.mr_bytes.specs.Lists.{Has, Rises}
use Rattle.mr_bytes.specs.Order.{name_order}
use Rattle.mr_bytes.specs.Pairs.{Triple}
use Rattle.mr_spill.specs.Column.{names_of}
use Rattle.mr_input.specs.Files.{nth_file, split_total}
use Rattle.mr_jobs.specs.JobSpec.{RequestSpec}
use Rattle.mr_certform.specs.Value.{Spells}
use Rattle.mr_sequential.specs.Rules.{Key, Text, rules_of}
use Rattle.mr_sequential.specs.Emitted.{emitted}
use Rattle.mr_sequential.specs.Sequential.{sequential}
use Rattle.mr_sequential.specs.Certified.{certificate_of, groups_of}
use Rattle.mr_sequential.specs.Good.{IsGood, IsGoodResult}
use Rattle.mr_task.specs.Values.{Reduced, IsCutOf, emitted_in, reduce_value}
use Rattle.mr_core.specs.declared.event.Shape.{Shape}
use Rattle.mr_core.specs.declared.event.Event.{Event}
use Rattle.mr_core.specs.declared.event.Reply.{Reply}
use Rattle.mr_core.specs.declared.event.End.{End}
use Rattle.mr_core.specs.Master.{State, Run, opening}
use Rattle.mr_core.specs.Laws.{IsReduceOf}
use Rattle.mr_book.specs.Assembled.{records_from, fixed_sets, left_out_records, assembled_outputs, assembled_certificate}
use Rattle.mr_book.specs.Faithful.{IsFaithful, IsOpenedFor, IsValueOf, map_values, value_over}

-- ---- values

-- what the sequential execution has for a partition: its text, and the names of its groups' pairs
abbrev pub sequential_value : RequestSpec → List (List ℕ) → List (List ℕ) → ℕ → Reduced
sequential_value request files sets p = record {
  output = sequential request files (records_from 0 sets) p;
  groups = groups_of (rules_of request).part (emitted request.job request.split files (records_from 0 sets)) p;
}

-- the reduce value over the map values of all splits is that of the sequential execution without their sets
abbrev pub ValuesAreSequential : Type 0
ValuesAreSequential = (request : RequestSpec) (files sets : List (List ℕ)) (p : ℕ) → 0 < request.split
    → length sets ≡ split_total request.split files → value_over request files sets p ≡ sequential_value request files sets p

-- what the map tasks of all splits gave, however they cut it into runs, the first split being this
abbrev pub AreCutsOf : (Key → ℕ) → ℕ → List Triple → ℕ → List (List ℕ) → List (List (List (List Triple))) → Type 0
AreCutsOf part parts ts split [] [] = Unit {0}
AreCutsOf part parts ts split (set ∷ sets) (o ∷ os) = IsCutOf part parts (emitted_in ts split set) o × AreCutsOf part parts ts (suc split) sets os
AreCutsOf part parts ts split _ _ = ⊥

-- the regions of partition `p` of all these outputs
abbrev pub regions_for : ℕ → List (List (List (List Triple))) → List (List Triple)
regions_for p outputs = flat_map (λ o. slice_index_or o p []) outputs

-- however the map tasks cut their pairs into runs, the reduce value over their regions is that over their values
abbrev pub CutsDontMatter : Type 0
CutsDontMatter = (part : Key → ℕ) (text : Key → List Value → Text) (ts : List Triple) (sets : List (List ℕ)) (parts p : ℕ)
    (outputs : List (List (List (List Triple)))) → Rises name_order (names_of ts) → p < parts → AreCutsOf part parts ts 0 sets outputs
    → reduce_value text (regions_for p outputs) ≡ reduce_value text (map_values part ts 0 sets p)

-- ---- attempts

-- the value of a reduce attempt is that over the sets that are fixed for the splits, and no other
abbrev pub AttemptsHaveOneValue : Type 0
AttemptsHaveOneValue = (request : RequestSpec) (files : List (List ℕ)) (sh : Shape) (h : List (Event × Reply)) (st : State) (a p : ℕ) (v : Reduced)
    → Run sh (opening sh) h st → IsReduceOf st a p → IsValueOf request files h st a v → v ≡ value_over request files (fixed_sets st) p

-- each committed attempt has that value
abbrev pub CommittedHaveAValue : Type 0
CommittedHaveAValue = (request : RequestSpec) (files : List (List ℕ)) (sh : Shape) (h : List (Event × Reply)) (st : State) (a o p : ℕ)
    → 1 ≤ sh.parts → 1 ≤ sh.limits.attempts → Run sh (opening sh) h st → Has h (Event.ReduceDone a o, Reply.Accepted) → IsReduceOf st a p
    → IsValueOf request files h st a (value_over request files (fixed_sets st) p)

-- ---- done jobs

-- once a job is done, the left-out set of each split is fixed: the result leaves out all records of all sets
abbrev pub DoneSetsAreFixed : Type 0
DoneSetsAreFixed = (sh : Shape) (h : List (Event × Reply)) (st : State) → 1 ≤ sh.parts → 1 ≤ sh.limits.attempts → Run sh (opening sh) h st
    → st.end ≡ Some End.Done → left_out_records st ≡ records_from 0 (map (λ sp. sp.skips) st.splits)

-- a run of a job that ends done, of faithful workers
pub record IsDone (request : RequestSpec) (files : List (List ℕ)) (sh : Shape) (h : List (Event × Reply)) (st : State) (what : ℕ → Reduced) : Type 0 where
  pub split : 0 < request.split
  pub parts : 1 ≤ sh.parts
  pub attempts : 1 ≤ sh.limits.attempts
  pub opened : IsOpenedFor request files sh
  pub run : Run sh (opening sh) h st
  pub ends : st.end ≡ Some End.Done
  pub faithful : IsFaithful request files h st what

-- its assembled files are those of the sequential execution without the fixed sets
abbrev pub DoneIsSequential : Type 0
DoneIsSequential = (request : RequestSpec) (files : List (List ℕ)) (sh : Shape) (h : List (Event × Reply)) (st : State) (what : ℕ → Reduced)
    → IsDone request files sh h st what → (p : ℕ) → p < request.parts
    → nth_file (assembled_outputs what st) p ≡ sequential request files (left_out_records st) p

-- its assembled certificate is that of the sequential execution
abbrev pub DoneIsCertified : Type 0
DoneIsCertified = (request : RequestSpec) (files : List (List ℕ)) (sh : Shape) (h : List (Event × Reply)) (st : State) (what : ℕ → Reduced)
    → IsDone request files sh h st what → assembled_certificate request files what st ≡ certificate_of request files (left_out_records st)

-- with it the files are good
abbrev pub DoneIsGood : Type 0
DoneIsGood = (request : RequestSpec) (files : List (List ℕ)) (sh : Shape) (h : List (Event × Reply)) (st : State) (what : ℕ → Reduced)
    → IsDone request files sh h st what → IsGood request files (assembled_outputs what st) (assembled_certificate request files what st)

-- and bytes that spell it are a good result with them
abbrev pub DoneIsAGoodResult : Type 0
DoneIsAGoodResult = (request : RequestSpec) (files : List (List ℕ)) (sh : Shape) (h : List (Event × Reply)) (st : State) (what : ℕ → Reduced)
    → IsDone request files sh h st what → (bytes : List ℕ) → Spells bytes (assembled_certificate request files what st)
    → IsGoodResult request files (assembled_outputs what st) bytes
