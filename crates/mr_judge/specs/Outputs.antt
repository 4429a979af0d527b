-- Of no public promise: outputs that are compared in turn, whatever holds them, and what an answer says of them.
use Rattle.std.specs.Prelude.{◌≡◌, ◌⊎◌, None, ℕ, zero, suc, ◌+◌, ◌-◌, ◌≤◌, ◌==◌, Bool, true, false, List, [], ◌∷◌, ◌++◌, length, drop, nat_eq, Result, Ok, Err}
use Rattle.std.specs.List.{common_prefix_len}
use Rattle.mr_store.specs.Devices.{counted}
use Rattle.mr_input.specs.Files.{nth_file}
use Rattle.mr_certform.specs.declared.grammar_state.Item.{Item}
use Rattle.mr_certform.specs.declared.grammar_state.Item.TheVariants.{Groups, End}
use Rattle.mr_verdict.specs.declared.answers.No.{No}
use Rattle.mr_verdict.specs.declared.answers.No.TheVariants.{OutputDiffers, OutOfMemory}
use Rattle.mr_verdict.specs.declared.items.JudgeError.{JudgeError}
use Rattle.mr_verdict.specs.declared.items.JudgeError.TheVariants.{Fault, Device as NoItem, TooLong as LongItems, Output, LongOutput}
use Rattle.mr_judge.specs.declared.outputs.OutputError.{OutputError}
use Rattle.mr_judge.specs.declared.outputs.OutputError.TheVariants.{Device, TooLong}
use Rattle.mr_jobs.specs.JobSpec.{RequestSpec}
use Rattle.mr_certform.specs.Grammar.{AreBytes}
use Rattle.mr_certform.specs.Spelling.{items_of, stop}
use Rattle.mr_verdict.specs.Verdict.{Reached, Subject, Accepted, start, passes, part_faults, count_faults, accepted_by, entries_in, first, verdict_of}
use Rattle.mr_verdict.specs.Steps.{Answers, case_at}
use Rattle.mr_verdict.specs.declared.answers.Yes.{Yes}
use Rattle.mr_verdict.specs.Headline.{accepted_of}
use Rattle.mr_verdict.specs.Items.{Coming}

-- what may be still to come of the output that is open, and which outputs behind it
abbrev pub Ahead : Type 1
Ahead = List ℕ → List (List ℕ) → Type 0

-- there are such
abbrev pub CanCome : Ahead → Type 0
CanCome gives = (rest : List ℕ) × ((later : List (List ℕ)) × gives rest later)

-- behind what was judged this is left of the open one of the outputs, and these come behind it
pub record Leaves (st : Reached) (outs : List (List ℕ)) (rest : List ℕ) (later : List (List ℕ)) : Type 0 where
  pub rest_is : drop st.from (nth_file outs (st.next - 1)) ≡ rest
  pub later_is : (q : ℕ) → nth_file outs (st.next + q) ≡ nth_file later q

-- whatever may come, it is left of some outputs
abbrev pub Fits : Ahead → Reached → Type 0
Fits gives st = (rest : List ℕ) (later : List (List ℕ)) → gives rest later → (outs : List (List ℕ)) × Leaves st outs rest later

-- the judge went on: what may come now came behind what might come before, and of those outputs this holds
abbrev pub Onward : Ahead → Ahead → Reached → Reached → (List (List ℕ) → Type 0) → Type 0
Onward old new st next Holds =
    (rest : List ℕ) (later : List (List ℕ)) → new rest later
    → (r : List ℕ) × ((l : List (List ℕ)) × (old r l × ((outs : List (List ℕ)) → Leaves st outs r l → Leaves next outs rest later × Holds outs)))

-- the judge is through: of outputs that might come this holds
abbrev pub Through : Ahead → Reached → (List (List ℕ) → Type 0) → Type 0
Through old st Holds = (r : List ℕ) × ((l : List (List ℕ)) × (old r l × ((outs : List (List ℕ)) → Leaves st outs r l → Holds outs)))

-- what an answer on tests says: all were passed, and so much is remembered behind them; or the first fault
abbrev pub Tested : Ahead → Ahead → Reached → Reached → (List (List ℕ) → List No) → (List (List ℕ) → Reached) → Result (Unit {0}) JudgeError → Type 0
Tested old new st next fs behind (Ok _) = Onward old new st next (λ outs. (fs outs ≡ []) × (next ≡ behind outs))
Tested old new st next fs behind (Err (Fault e)) = Through old st (λ outs. Answers (fs outs) e)
Tested old new st next fs behind (Err e) = Unit {0}

-- the next output was opened
abbrev pub Opens : Ahead → Ahead → Type 0
Opens old new =
    (rest : List ℕ) (later : List (List ℕ)) → new rest later
    → (r : List ℕ) × ((l : List (List ℕ)) × (old r l × ((nth_file l 0 ≡ rest) × ((q : ℕ) → nth_file l (q + 1) ≡ nth_file later q))))

-- a text stood next, and so many more bytes were passed; or it doesn't, behind so many
abbrev pub Compares : Ahead → Ahead → ℕ → ℕ → List ℕ → Result Bool OutputError → Type 0
Compares old new was is text (Ok true) = ((rest : List ℕ) (later : List (List ℕ)) → new rest later → old (text ++ rest) later) × (is ≡ was + length text)
Compares old new was is text (Ok false) =
    (r : List ℕ) × ((l : List (List ℕ)) × (old r l × ((is ≡ was + common_prefix_len nat_eq text r) × (common_prefix_len nat_eq text r ≡ length text → ⊥))))
Compares old new was is text (Err e) = Unit {0}

-- nothing is left of the open one, or something
abbrev pub Ends : Ahead → Ahead → Result Bool OutputError → Type 0
Ends old new (Ok true) = (rest : List ℕ) (later : List (List ℕ)) → new rest later → old rest later × (rest ≡ [])
Ends old new (Ok false) = (r : List ℕ) × ((l : List (List ℕ)) × (old r l × (1 ≤ length r)))
Ends old new (Err e) = Unit {0}

-- one more read of the output with this number has failed
abbrev pub counted_at : ℕ → List ℕ → List ℕ
counted_at p [] = []
counted_at zero (n ∷ ns) = counted n ∷ ns
counted_at (suc p) (n ∷ ns) = n ∷ counted_at p ns

-- a read failed just where this is told; where nothing but the outputs can be at fault, that is told of them
abbrev pub Lacks : {A : Type 0} → Type 0 → List ℕ → List ℕ → Result A OutputError → Type 0
Lacks steady old new (Err (Device p)) = (new ≡ counted_at p old) × (steady → ⊥)
Lacks steady old new (Err TooLong) = (new ≡ old) × (steady → ⊥)
Lacks steady old new answer = new ≡ old

-- and so where something is judged
abbrev pub Halts : {A : Type 0} → Type 0 → List ℕ → List ℕ → Result A JudgeError → Type 0
Halts steady old new (Err (Output p)) = (new ≡ counted_at p old) × (steady → ⊥)
Halts steady old new (Err LongOutput) = (new ≡ old) × (steady → ⊥)
Halts steady old new (Err NoItem) = ⊥
Halts steady old new (Err LongItems) = ⊥
Halts steady old new answer = new ≡ old

-- where items are read too, a read of the outputs failed just where this is told
abbrev pub HaltsOutputs : {A : Type 0} → Type 0 → List ℕ → List ℕ → Result A JudgeError → Type 0
HaltsOutputs steady old new (Err (Output p)) = (new ≡ counted_at p old) × (steady → ⊥)
HaltsOutputs steady old new (Err LongOutput) = (new ≡ old) × (steady → ⊥)
HaltsOutputs steady old new answer = new ≡ old

-- and a read of the items failed just where that is told
abbrev pub HaltsItems : {A : Type 0} → Type 0 → ℕ → ℕ → Result A JudgeError → Type 0
HaltsItems steady old new (Err NoItem) = (new ≡ counted old) × (steady → ⊥)
HaltsItems steady old new (Err LongItems) = (new ≡ old) × (steady → ⊥)
HaltsItems steady old new answer = new ≡ old

abbrev pub stop_of : OutputError → JudgeError
stop_of (Device p) = Output p
stop_of TooLong = LongOutput

-- a text is tested against what is left of an output
abbrev pub TextTold : Ahead → Ahead → ℕ → ℕ → List ℕ → Result (Unit {0}) JudgeError → Type 0
TextTold old new p from text (Ok _) = (rest : List ℕ) (later : List (List ℕ)) → new rest later → old (text ++ rest) later
TextTold old new p from text (Err (Fault e)) =
    (r : List ℕ)
    × ((l : List (List ℕ)) × (old r l × Answers (let same = common_prefix_len nat_eq text r in passes (same == length text) (OutputDiffers p (from + same))) e))
TextTold old new p from text (Err e) = Unit {0}

-- an output is tested for its end, where no group is to come
abbrev pub EndTold : Ahead → Ahead → ℕ → ℕ → ℕ → Result (Unit {0}) JudgeError → Type 0
EndTold old new p groups from (Ok _) = (rest : List ℕ) (later : List (List ℕ)) → new rest later → old rest later × (groups ≡ 0 → rest ≡ [])
EndTold old new p groups from (Err (Fault e)) =
    (r : List ℕ) × ((l : List (List ℕ)) × (old r l × ((groups ≡ 0) × ((1 ≤ length r) × (e ≡ OutputDiffers p from)))))
EndTold old new p groups from (Err e) = Unit {0}

-- a partition opens, or all ends
abbrev pub begins : List Item → Bool
begins [] = true
begins (Groups n ∷ is) = true
begins (End ∷ is) = true
begins is = false

-- an answer on faults, and on how many entries there are: none and as many, or the first of them; or the items can't be had
abbrev pub IsTold : List No → ℕ → Result ℕ JudgeError → Type 0
IsTold fs n (Ok m) = (first fs ≡ None) × (m ≡ n)
IsTold fs n (Err (Fault e)) = Answers fs e
IsTold fs n (Err e) = Unit {0}

-- how many names were looked up before and behind
abbrev pub Looked : List Item → ℕ → ℕ → Type 0
Looked is before behind = (before ≤ behind) × (behind ≤ before + entries_in is)

-- an answer on items that may come, judged from here on, and how many names were looked up before and behind
abbrev pub JudgesOn : Coming → Subject → Reached → ℕ → ℕ → Result ℕ JudgeError → Type 0
JudgesOn old s st before behind answer =
    (is : List Item) × ((at : ℕ) × (old is at × (IsTold (part_faults s at st is) (st.named + entries_in is) answer × Looked is before behind)))

-- the same from the first partition on
abbrev pub Judges : Coming → Subject → ℕ → ℕ → Result ℕ JudgeError → Type 0
Judges old s before behind answer =
    (is : List Item) × ((at : ℕ) × (old is at × (IsTold (part_faults s at start is) (entries_in is) answer × Looked is before behind)))

-- what an answer on the certificate behind its front says: no fault, and what is accepted; or the first of the faults
abbrev pub IsRestTold : List No → Accepted → Result Yes JudgeError → Type 0
IsRestTold fs accepted (Ok y) = (first fs ≡ None) × (accepted ≡ accepted_of y)
IsRestTold fs accepted (Err (Fault e)) = Answers fs e
IsRestTold fs accepted (Err e) = Unit {0}

-- of items that may come
abbrev pub RestJudged : Coming → RequestSpec → List (List ℕ) → ℕ → ℕ → Result Yes JudgeError → List (List ℕ) → Type 0
RestJudged old request files before behind answer outs =
    (is : List Item)
    × ((at : ℕ)
    × (old is at
    × (IsRestTold (count_faults (case_at request files outs at) is) (accepted_by (record { skips = []; pairs = 0 }) is) answer × Looked is before behind)))

-- what an answer says of the verdict
abbrev pub IsVerdict : RequestSpec → List (List ℕ) → List (List ℕ) → List ℕ → Result Yes JudgeError → Type 0
IsVerdict request files outs bytes (Ok y) = verdict_of request files outs bytes ≡ Ok (accepted_of y)
IsVerdict request files outs bytes (Err (Fault e)) = (e ≡ OutOfMemory) ⊎ (verdict_of request files outs bytes ≡ Err e)
IsVerdict request files outs bytes (Err e) = Unit {0}

-- the items are those of bytes
pub record OfBytes (is : List Item) (at : ℕ) (bytes : List ℕ) : Type 0 where
  pub bytes_are : AreBytes bytes
  pub items_are : is ≡ items_of bytes
  pub stop_is : at ≡ stop bytes

-- of items that may come, of which each is of bytes
abbrev pub AllJudged : Coming → RequestSpec → List (List ℕ) → ℕ → ℕ → Result Yes JudgeError → List (List ℕ) → Type 0
AllJudged old request files before behind answer outs =
    (is : List Item)
    × ((at : ℕ)
    × (old is at
    × (((bytes : List ℕ) → OfBytes is at bytes → length outs ≡ request.parts → IsVerdict request files outs bytes answer) × Looked is before behind)))
