-- The records that are kept, and the faults of a list of those that are left out.
use Rattle.std.specs.Prelude.{ℕ, ◌-◌, Bool, true, not, if◌then◌else◌, nat_lt, List, [], ◌∷◌, Option, None, Some, drop, filter, length}
use Rattle.std.specs.Ordering.{is_lt}
use Rattle.mr_bytes.specs.declared.RecordName.{RecordName}
use Rattle.mr_bytes.specs.Order.{record_order}
use Rattle.mr_splits.specs.declared.kept_records.SkipFault.{SkipFault}
use Rattle.mr_splits.specs.declared.kept_records.SkipFault.TheVariants.{NoSuchRecord, Order, TooMany}
use Rattle.mr_splits.specs.Named.{NamedRecord, is_left_out}
use Rattle.mr_splits.specs.Cut.{Cut, records_of, is_record}
use Rattle.mr_splits.specs.Laws.{joined_splits}

-- files that are cut, with the names of records that are left out
pub record Choice : Type 0 where
  pub cut : Cut
  pub skips : List RecordName

-- the records that the list doesn't leave out, in their order
abbrev pub kept_records : List RecordName → List NamedRecord → List NamedRecord
kept_records skips rs = filter (λ r. not (is_left_out skips r.name)) rs

-- those of the splits from `low` on and before `end`
abbrev pub kept_between : Choice → ℕ → ℕ → List NamedRecord
kept_between choice low end = kept_records choice.skips (joined_splits low (end - low) (records_of choice.cut))

-- those from the record `number` of the split `low` on
abbrev pub kept_from : Choice → ℕ → ℕ → ℕ → List NamedRecord
kept_from choice low number end = kept_records choice.skips (drop number (joined_splits low (end - low) (records_of choice.cut)))

-- the name is past the one before it
abbrev pub is_past : Option RecordName → RecordName → Bool
is_past None name = true
is_past (Some before) name = is_lt (record_order before name)

-- the fault of a name, given the one before it: its order before its existence
abbrev pub name_fault : List NamedRecord → Option RecordName → RecordName → Option SkipFault
name_fault rs before name = if is_past before name then (if is_record rs name then None else Some NoSuchRecord) else Some Order

-- each name in turn
abbrev pub first_fault : List NamedRecord → Option RecordName → List RecordName → Option SkipFault
first_fault rs before [] = None
first_fault rs before (name ∷ names) =
    if is_past before name then (if is_record rs name then first_fault rs (Some name) names else Some NoSuchRecord) else Some Order

-- how many there are is tested first
abbrev pub list_fault : List NamedRecord → ℕ → List RecordName → Option SkipFault
list_fault rs most skips = if nat_lt most (length skips) then Some TooMany else first_fault rs None skips
