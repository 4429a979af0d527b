-- When workers did their tasks: each committed reduce output is the value of its attempt, and each accepted failure
-- named a record of its split (OSDI 2004, sections 3.3 and "Skipping Bad Records").
use Rattle.std.specs.Prelude.{◌≡◌, ℕ, suc, Some, List, [], ◌∷◌, length, slice_get, IsTrue}
use Rattle.mr_bytes.specs.Lists.{Has}
use Rattle.mr_bytes.specs.Pairs.{Triple}
use Rattle.mr_input.specs.Files.{split_total}
use Rattle.mr_jobs.specs.JobSpec.{RequestSpec}
use Rattle.mr_splits.specs.Named.{named_records}
use Rattle.mr_splits.specs.Cut.{is_record}
use Rattle.mr_sequential.specs.Emitted.{emitted}
use Rattle.mr_sequential.specs.Rules.{Key, rules_of}
use Rattle.mr_task.specs.Values.{Reduced, map_value, reduce_value}
use Rattle.mr_core.specs.declared.event.Shape.{Shape}
use Rattle.mr_core.specs.declared.event.Event.{Event}
use Rattle.mr_core.specs.declared.event.Event.TheVariants.{Fetch, MapDone, MapFailed, ReduceDone}
use Rattle.mr_core.specs.declared.event.Reply.{Reply}
use Rattle.mr_core.specs.declared.event.Reply.TheVariants.{Accepted, Region}
use Rattle.mr_core.specs.Master.{State}
use Rattle.mr_core.specs.Laws.{IsMapOf, IsReduceOf}
use Rattle.mr_book.specs.Assembled.{in_split}

-- what the map tasks of all splits have for partition `p`, each without its set, the first split being this
abbrev pub map_values : (Key → ℕ) → List Triple → ℕ → List (List ℕ) → ℕ → List (List Triple)
map_values part ts split [] p = []
map_values part ts split (set ∷ sets) p = map_value part ts split set p ∷ map_values part ts (suc split) sets p

-- the value of the reduce task of partition `p` over the map tasks' values, the splits leaving out these sets
abbrev pub value_over : RequestSpec → List (List ℕ) → List (List ℕ) → ℕ → Reduced
value_over request files sets p =
    reduce_value (rules_of request).text (map_values (rules_of request).part (emitted request.job request.split files []) 0 sets p)

-- from each split the attempt fetched an output that was accepted of a map attempt which left out this set
pub record IsHandedTo (h : List (Event × Reply)) (st : State) (a : ℕ) (sets : List (List ℕ)) : Type 0 where
  pub one_each : length sets ≡ length st.splits
  pub each : (s : ℕ) (set : List ℕ) → slice_get sets s ≡ Some set
      → (x : ℕ) × Has h (Fetch a s, Region x) × (b : ℕ) × Has h (MapDone b x, Accepted) × IsMapOf st b s set

-- the value of a reduce attempt: over the values of those map attempts whose outputs it fetched
pub record IsValueOf (request : RequestSpec) (files : List (List ℕ)) (h : List (Event × Reply)) (st : State) (a : ℕ) (v : Reduced) : Type 0 where
  pub partition : ℕ
  pub sets : List (List ℕ)
  pub reduce : IsReduceOf st a partition
  pub handed : IsHandedTo h st a sets
  pub is : v ≡ value_over request files sets partition

-- the master was opened for this request and these files
pub record IsOpenedFor (request : RequestSpec) (files : List (List ℕ)) (sh : Shape) : Type 0 where
  pub maps : sh.maps ≡ split_total request.split files
  pub parts : sh.parts ≡ request.parts
  pub skips : sh.limits.skips ≡ request.skips

-- each committed reduce output is its attempt's value, and each accepted failure names a record of its split; `what`
-- gives the output under each number
pub record IsFaithful (request : RequestSpec) (files : List (List ℕ)) (h : List (Event × Reply)) (st : State) (what : ℕ → Reduced) : Type 0 where
  pub values : (a o : ℕ) → Has h (ReduceDone a o, Accepted) → IsValueOf request files h st a (what o)
  pub failures : (a r s : ℕ) (set : List ℕ) → Has h (MapFailed a r, Accepted) → IsMapOf st a s set
      → IsTrue (is_record (named_records request.split files) (in_split s r))
