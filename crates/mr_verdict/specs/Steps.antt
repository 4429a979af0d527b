-- Of no public promise: what the judge's functions say of the tests: the first of the faults, and how far the items were walked.
use Rattle.std.specs.Prelude.{◌≡◌, ◌⊎◌, ◌<◌, ◌≤◌, ◌^◌, ℕ, zero, suc, ◌+◌, Bool, true, false, if◌then◌else◌, nat_le, Option, Some, None, Result, Ok, Err, List, [], ◌∷◌}
use Rattle.std.specs.Prelude.{◌++◌, length}
use Rattle.mr_bytes.specs.declared.RecordName.{RecordName}
use Rattle.mr_jobs.specs.JobSpec.{RequestSpec}
use Rattle.mr_splits.specs.Named.{NamedRecord}
use Rattle.mr_splits.specs.Cut.{is_record}
use Rattle.mr_certform.specs.declared.grammar_state.Item.{Item}
use Rattle.mr_certform.specs.declared.grammar_state.Item.TheVariants.{Skips, Skip, Groups}
use Rattle.mr_bytes.specs.Pairs.{Triple}
use Rattle.mr_sequential.specs.Rules.{rules_of}
use Rattle.mr_splits.specs.Kept.{is_past}
use Rattle.mr_verdict.specs.declared.answers.No.{No}
use Rattle.mr_verdict.specs.declared.answers.No.TheVariants.{OtherJob, OtherInput, Malformed, SkipOrder, NoSuchRecord, TooManySkips, OutOfMemory}
use Rattle.mr_verdict.specs.Verdict.{first, WalkCase, Reached, Subject, item_eq, last_of, job_wanted, input_wanted}

-- an answer for these faults: the first of them, or want of memory
abbrev pub Answers : List No → No → Type 0
Answers fs e = (e ≡ OutOfMemory) ⊎ (first fs ≡ Some e)

-- what the groups are judged against: the order, and all that is emitted
pub record Ground : Type 0 where
  pub request : RequestSpec
  pub triples : List Triple

-- the subject, with these outputs
abbrev pub subject_with : Ground → List (List ℕ) → Subject
subject_with b outputs = record {
  triples = b.triples;
  rules = rules_of b.request;
  outputs = outputs;
}

-- what is known when the partitions are judged: the order, all that is emitted, and the outputs
pub record Known : Type 0 where
  pub request : RequestSpec
  pub triples : List Triple
  pub outputs : List (List ℕ)

abbrev pub subject : Known → Subject
subject k = record {
  triples = k.triples;
  rules = rules_of k.request;
  outputs = k.outputs;
}

-- the item opens a partition
abbrev pub opens : Item → Bool
opens (Groups n) = true
opens i = false

-- counters that can go on
pub record HasRoom (st : Reached) : Type 0 where
  pub next : st.next + 1 < 2 ^ 64
  pub group : st.group + 1 < 2 ^ 64
  pub entry : st.entry + 1 < 2 ^ 64
  pub named : st.named + 1 < 2 ^ 64
  pub values : length st.values + 1 < 2 ^ 64

-- each counter plus what is to come is at most so many
pub record Room (st : Reached) (more : ℕ) (all : ℕ) : Type 0 where
  pub next : st.next + more ≤ all
  pub group : st.group + more ≤ all
  pub entry : st.entry + more ≤ all
  pub named : st.named + more ≤ all
  pub values : length st.values + more ≤ all

-- the items begin with the wanted ones: those behind them, or the fault
abbrev pub met : ℕ → List Item → No → List Item → Result (List Item) No
met at [] fault is = Ok is
met at (w ∷ wanted) fault [] = Err (Malformed at)
met at (w ∷ wanted) fault (i ∷ is) = if item_eq i w then met at wanted fault is else Err fault

-- the items behind those that an order and files fix, or the fault
abbrev pub met_behind : ℕ → List (List ℕ) → Result (List Item) No → Result (List Item) No
met_behind at files (Ok is) = met at (input_wanted files) OtherInput is
met_behind at files (Err e) = Err e

abbrev pub header_met : ℕ → RequestSpec → List (List ℕ) → List Item → Result (List Item) No
header_met at request files is = met_behind at files (met at (job_wanted request) OtherJob is)

-- how many records are left out, and the items behind it
pub record Counted : Type 0 where
  pub many : ℕ
  pub behind : List Item

-- the items begin with how many records are left out, at most so many; or the fault
abbrev pub counted : ℕ → ℕ → List Item → Result Counted No
counted at most (Skips n ∷ is) = if nat_le n most then Ok (record { many = n; behind = is }) else Err (TooManySkips n)
counted at most is = Err (Malformed at)

-- left-out records, and the items behind them
pub record Listed : Type 0 where
  pub skips : List RecordName
  pub behind : List Item

-- the fault of a left-out record with this number: its order before its existence
abbrev pub skip_fault : List NamedRecord → Option RecordName → RecordName → ℕ → Option No
skip_fault rs before s n = if is_past before s then (if is_record rs s then None else Some (NoSuchRecord n)) else Some (SkipOrder n)

-- where there is no fault this answer
abbrev pub unless : {A : Type 0} → Option No → Result A No → Result A No
unless None r = r
unless (Some e) r = Err e

-- so many left-out records, behind those that came before, and the items behind them; or the first fault
abbrev pub listed : List NamedRecord → ℕ → ℕ → List RecordName → List Item → Result Listed No
listed rs at zero skips is = Ok (record { skips = skips; behind = is })
listed rs at (suc n) skips [] = Err (Malformed at)
listed rs at (suc n) skips (Skip s ∷ is) = unless (skip_fault rs (last_of skips) s (length skips)) (listed rs at n (skips ++ s ∷ []) is)
listed rs at (suc n) skips is = Ok (record { skips = skips; behind = is })

-- no left-out record is listed
abbrev pub no_skip : List Item → Bool
no_skip [] = true
no_skip (Skip s ∷ is) = false
no_skip (i ∷ is) = no_skip is

-- so many left-out records are listed in front, as far as the items go, and none behind them
abbrev pub skips_in_front : ℕ → List Item → Bool
skips_in_front zero is = no_skip is
skips_in_front (suc n) [] = true
skips_in_front (suc n) (Skip s ∷ is) = skips_in_front n is
skips_in_front (suc n) (i ∷ is) = false

-- the number of left-out records comes next, and so many are listed behind it
abbrev pub awaits_skips : List Item → Bool
awaits_skips [] = true
awaits_skips (Skips n ∷ is) = skips_in_front n is
awaits_skips is = false

-- what is judged, by where the items stop
abbrev pub case_at : RequestSpec → List (List ℕ) → List (List ℕ) → ℕ → WalkCase
case_at request files outputs at = record { request = request; files = files; outputs = outputs; stop = at }
