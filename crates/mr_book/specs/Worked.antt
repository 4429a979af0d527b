-- A worked run: the words of `a b` and `c`, of which record 0 fails twice and is left out.
use Rattle.std.specs.Prelude.{◌≡◌, ℕ, false, Some, List, [], ◌∷◌}
use Rattle.std.specs.Option.{option_map, unwrap_or}
use Rattle.mr_bytes.specs.declared.By.TheVariants.{Key}
use Rattle.mr_bytes.specs.declared.Name.{Name}
use Rattle.mr_bytes.specs.declared.Value.TheVariants.{One}
use Rattle.mr_bytes.specs.Pairs.{Triple}
use Rattle.mr_jobs.specs.JobSpec.{RequestSpec, WordCount}
use Rattle.mr_sequential.specs.Rules.{rules_of}
use Rattle.mr_task.specs.Values.{Reduced, map_value, reduce_value}
use Rattle.mr_core.specs.declared.event.Event.{Event}
use Rattle.mr_core.specs.declared.event.Reply.{Reply}
use Rattle.mr_core.specs.declared.event.End.{End}
use Rattle.mr_core.specs.Master.{State, opening, replay}
use Rattle.mr_core.specs.Worked.{shape}
use Rattle.mr_book.specs.Assembled.{in_split, assembled_certificate, assembled_outputs}
use Rattle.mr_book.specs.Faithful.{map_values, value_over}
use Rattle.mr_book.specs.AssembledLaws.{IsDone}

-- ---- a split that emits `b`, `a`, `b`

abbrev pub at_place : ℕ → Name
at_place place = record { split = 0; rec = 0; place = place }

abbrev pub word : ℕ → ℕ → Triple
word letter place = record { key = letter ∷ []; value = One; name = at_place place }

abbrev pub b_a_b : List Triple
b_a_b = word 98 0 ∷ word 97 1 ∷ word 98 2 ∷ []

abbrev pub one_part : List ℕ → ℕ
one_part key = 0

-- its map value: by key, then by name
abbrev pub WorkedRegion : Type 0
WorkedRegion = map_value one_part b_a_b 0 [] 0 ≡ word 97 1 ∷ word 98 0 ∷ word 98 2 ∷ []

-- without its one record it has none
abbrev pub WorkedWithout : Type 0
WorkedWithout = map_value one_part b_a_b 0 (0 ∷ []) 0 ≡ []

-- `a` tab 1, `b` tab 2, and their names
abbrev pub bab_value : Reduced
bab_value = record { output = 97 ∷ 9 ∷ 49 ∷ 10 ∷ 98 ∷ 9 ∷ 50 ∷ 10 ∷ []; groups = (at_place 1 ∷ []) ∷ (at_place 0 ∷ at_place 2 ∷ []) ∷ [] }

-- ---- a run that leaves out a record

abbrev pub one_request : RequestSpec
one_request = record { job = WordCount false; by = Key; parts = 1; split = 64; skips = 1 }

-- its reduce value, of whatever regions
abbrev pub WorkedValue : Type 0
WorkedValue = reduce_value (rules_of one_request).text (map_values one_part b_a_b 0 ([] ∷ []) 0) ≡ bab_value

abbrev pub WorkedCut : Type 0
WorkedCut = reduce_value (rules_of one_request).text ((word 98 2 ∷ []) ∷ (word 97 1 ∷ word 98 0 ∷ []) ∷ []) ≡ bab_value

-- `a b` and `c`, each with a line feed
abbrev pub two_lines : List (List ℕ)
two_lines = (97 ∷ 32 ∷ 98 ∷ 10 ∷ 99 ∷ 10 ∷ []) ∷ []

abbrev pub one_left_out : List (Event × Reply)
one_left_out =
    (Event.Ask 0, Reply.Map 0 0 [])
    ∷ (Event.MapFailed 0 0, Reply.Accepted)
    ∷ (Event.Ask 0, Reply.Map 1 0 [])
    ∷ (Event.MapFailed 1 0, Reply.Accepted)
    ∷ (Event.Ask 0, Reply.Map 2 0 (0 ∷ []))
    ∷ (Event.MapDone 2 5, Reply.Accepted)
    ∷ (Event.Ask 0, Reply.Reduce 3 0)
    ∷ (Event.Fetch 3 0, Reply.Region 5)
    ∷ (Event.ReduceDone 3 8, Reply.Accepted)
    ∷ []

abbrev pub last_state : State
last_state = unwrap_or (replay (shape 1 1 1 8 1) one_left_out) (opening (shape 1 1 1 8 1))

-- the one reduce output is its attempt's value, whatever its number
abbrev pub its_value : ℕ → Reduced
its_value n = value_over one_request two_lines ((0 ∷ []) ∷ []) 0

-- it ends done
abbrev pub WorkedEnd : Type 0
WorkedEnd = option_map (λ st. st.end) (replay (shape 1 1 1 8 1) one_left_out) ≡ Some (Some End.Done)

-- its file is `c` tab 1
abbrev pub WorkedOutput : Type 0
WorkedOutput = assembled_outputs its_value last_state ≡ (99 ∷ 9 ∷ 49 ∷ 10 ∷ []) ∷ []

-- its certificate lists the record left out, and the one entry
abbrev pub WorkedCertificate : Type 0
WorkedCertificate = assembled_certificate one_request two_lines its_value last_state ≡ record {
  job = 1;
  flags = 0;
  literal = [];
  parts = 1;
  split_size = 64;
  lengths = 6 ∷ [];
  skips = in_split 0 0 ∷ [];
  groups = ((record { split = 0; rec = 1; place = 0 } ∷ []) ∷ []) ∷ [];
}

-- it meets the premises of the laws on done jobs, all together
abbrev pub WorkedIsDone : Type 0
WorkedIsDone = IsDone one_request two_lines (shape 1 1 1 8 1) one_left_out last_state its_value
