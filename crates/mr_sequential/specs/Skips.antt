-- The faults of a list of left-out records, in the order in which they are tested.
use Rattle.std.specs.Prelude.{◌≡◌, ◌↔◌, ℕ, ◌≤◌, nat_lt, if◌then◌else◌, Option, None, Some, List, [], ◌∷◌, length, IsTrue}
use Rattle.std.specs.List.{AllByRecursion}
use Rattle.mr_bytes.specs.declared.RecordName.{RecordName}
use Rattle.mr_bytes.specs.Lists.{Rises}
use Rattle.mr_bytes.specs.Order.{record_order}
use Rattle.mr_jobs.specs.JobSpec.{RequestSpec}
use Rattle.mr_splits.specs.Named.{NamedRecord, named_records}
use Rattle.mr_splits.specs.Cut.{is_record}
use Rattle.mr_splits.specs.Kept.{is_past}
use Rattle.mr_sequential.specs.declared.sequence.RunFault.{RunFault}
use Rattle.mr_sequential.specs.declared.sequence.RunFault.TheVariants.{NoSuchRecord, SkipOrder, TooManySkips}

-- each name in turn: its order before its existence
abbrev pub list_fault : List NamedRecord → Option RecordName → List RecordName → Option RunFault
list_fault rs before [] = None
list_fault rs before (name ∷ names) =
    if is_past before name then (if is_record rs name then list_fault rs (Some name) names else Some NoSuchRecord) else Some SkipOrder

-- how many there are is tested first
abbrev pub skip_fault : RequestSpec → List (List ℕ) → List RecordName → Option RunFault
skip_fault request files skips =
    if nat_lt request.skips (length skips) then Some TooManySkips else list_fault (named_records request.split files) None skips

-- there is no fault just where the list is no longer than allowed, rises strictly, and names records that exist
abbrev pub GoodSkips : Type 0
GoodSkips = (request : RequestSpec) (files : List (List ℕ)) (skips : List RecordName)
    → (skip_fault request files skips ≡ None)
    ↔ ((length skips ≤ request.skips) × Rises record_order skips × AllByRecursion (λ name. IsTrue (is_record (named_records request.split files) name)) skips)
