-- Of no public promise: items that are walked, whatever walks them, and what an answer says of them.
use Rattle.std.specs.Prelude.{◌≡◌, ◌⊎◌, ℕ, Bool, true, false, List, [], ◌∷◌, Result, Ok, Err}
use Rattle.mr_bytes.specs.declared.RecordName.{RecordName}
use Rattle.mr_certform.specs.declared.grammar_state.Item.{Item}
use Rattle.mr_certform.specs.declared.grammar_state.Item.TheVariants.{Skip, End}
use Rattle.mr_verdict.specs.declared.answers.No.{No}
use Rattle.mr_verdict.specs.declared.items.JudgeError.{JudgeError}
use Rattle.mr_verdict.specs.declared.answers.No.TheVariants.{Malformed as malformed, OutOfMemory}
use Rattle.mr_verdict.specs.declared.items.JudgeError.TheVariants.{Fault, Device as NoDevice, TooLong as TooMany, Output, LongOutput}
use Rattle.mr_store.specs.Devices.{counted}
use Rattle.mr_verdict.specs.Steps.{met}
use Rattle.mr_verdict.specs.declared.items.ItemError.{ItemError}
use Rattle.mr_verdict.specs.declared.items.ItemError.TheVariants.{Malformed, Device, TooLong}

-- which items may be still to come, and the place behind the last of them
abbrev pub Coming : Type 1
Coming = List Item → ℕ → Type 0

-- there are such items
abbrev pub CanCome : Coming → Type 0
CanCome gives = (is : List Item) × ((at : ℕ) × gives is at)

-- each of these may come is one of those
abbrev pub Within : Coming → Coming → Type 0
Within new old = (is : List Item) (at : ℕ) → new is at → old is at

-- an answer takes the first of the items
abbrev pub Took : Coming → Coming → Result Item ItemError → Type 0
Took old new (Ok End) = (is : List Item) (at : ℕ) → new is at → old is at × (is ≡ End ∷ [])
Took old new (Ok i) = (is : List Item) (at : ℕ) → new is at → old (i ∷ is) at
Took old new (Err (Malformed place)) = (is : List Item) (at : ℕ) → new is at → old is at × (is ≡ []) × (at ≡ place)
Took old new (Err Device) = Within new old
Took old new (Err TooLong) = Within new old

-- where no item stands, that is a fault
abbrev pub stop_of : ItemError → JudgeError
stop_of (Malformed place) = Fault (malformed place)
stop_of Device = NoDevice
stop_of TooLong = TooMany

-- a read failed just where this is told; where nothing but the items can refuse one, that is told of them
abbrev pub Halts : Type 0 → ℕ → ℕ → Result Item ItemError → Type 0
Halts steady old new (Err Device) = (new ≡ counted old) × (steady → ⊥)
Halts steady old new (Err TooLong) = (new ≡ old) × (steady → ⊥)
Halts steady old new answer = new ≡ old

-- and so where they are judged
abbrev pub Stops : {A : Type 0} → Type 0 → ℕ → ℕ → Result A JudgeError → Type 0
Stops steady old new (Err NoDevice) = (new ≡ counted old) × (steady → ⊥)
Stops steady old new (Err TooMany) = (new ≡ old) × (steady → ⊥)
Stops steady old new (Err (Output p)) = ⊥
Stops steady old new (Err LongOutput) = ⊥
Stops steady old new answer = new ≡ old

-- a fault is that of the items, or the items couldn't be had
abbrev pub IsStopped : {A : Type 0} → Result A No → JudgeError → Type 0
IsStopped answer (Fault e) = answer ≡ Err e
IsStopped answer _ = Unit {0}

-- what is asked of the items holds, and leaves others: these may still come, and the ones before
abbrev pub Behind : Coming → Coming → (ℕ → List Item → Result (List Item) No) → Result (Unit {0}) JudgeError → Type 0
Behind old new asked (Ok _) = (is : List Item) (at : ℕ) → new is at → (js : List Item) × (old js at × (asked at js ≡ Ok is))
Behind old new asked (Err e) = (js : List Item) × ((at : ℕ) × (old js at × IsStopped (asked at js) e))

-- a fault of the items, or one that is none of theirs
abbrev pub IsUnmet : ℕ → List Item → No → List Item → JudgeError → Type 0
IsUnmet at wanted fault is e = IsStopped (met at wanted fault is) e

-- items that were wanted came: those behind them may still come, and these before
abbrev pub Met : Coming → Coming → List Item → No → Result (Unit {0}) JudgeError → Type 0
Met old new wanted fault r = Behind old new (λ at. met at wanted fault) r

-- of the wanted items these are left to come
abbrev pub Leads : Coming → Coming → List Item → List Item → No → Type 0
Leads old now left wanted fault = (is : List Item) (at : ℕ) → now is at → (js : List Item) × (old js at × (met at left fault is ≡ met at wanted fault js))

-- the answer to what is asked of the items, with those that it leaves; or want of memory
abbrev pub Answered : {A B : Type 0} → Coming → Coming → (A → List Item → B) → (ℕ → List Item → Result B No) → Result A JudgeError → Type 0
Answered old new told asked (Ok a) = (is : List Item) (at : ℕ) → new is at → (js : List Item) × (old js at × (asked at js ≡ Ok (told a is)))
Answered old new told asked (Err e) = (e ≡ Fault OutOfMemory) ⊎ ((js : List Item) × ((at : ℕ) × (old js at × IsStopped (asked at js) e)))

-- a left-out record comes next, or no item stands
abbrev pub NextSkip : Coming → Coming → Result RecordName JudgeError → Type 0
NextSkip old new (Ok s) = (is : List Item) (at : ℕ) → new is at → old (Skip s ∷ is) at
NextSkip old new (Err (Fault e)) = (at : ℕ) × (old [] at × (e ≡ malformed at))
NextSkip old new (Err e) = (is : List Item) × ((at : ℕ) × old is at)

-- all the items that may come are such
abbrev pub Each : Coming → (List Item → Bool) → Type 0
Each gives test = (is : List Item) (at : ℕ) → gives is at → test is ≡ true

-- a left-out record comes next, where an item stands
abbrev pub skip_next : List Item → Bool
skip_next [] = true
skip_next (Skip s ∷ is) = true
skip_next is = false
