-- The judge's tests in their order, and the first that fails. The items of the certificate come one by one: what each
-- is tested for, given what came before it, and what is remembered behind it.
use Rattle.std.specs.Prelude.{ℕ, zero, suc, ◌+◌, ◌-◌, Bool, true, false, Option, Some, None, Result, Ok, Err, List, [], ◌∷◌, ◌++◌, length, drop, map, nat_le}
use Rattle.std.specs.Prelude.{nat_eq, ◌==◌}
use Rattle.std.specs.List.{common_prefix_len}
use Rattle.std.specs.Str.{bytes_eq}
use Rattle.std.specs.Ordering.{is_lt}
use Rattle.mr_bytes.specs.declared.Name.{Name}
use Rattle.mr_bytes.specs.declared.RecordName.{RecordName}
use Rattle.mr_bytes.specs.declared.Value.{Value}
use Rattle.mr_bytes.specs.Order.{key_order, name_order}
use Rattle.mr_input.specs.Files.{nth_file}
use Rattle.mr_jobs.specs.JobSpec.{RequestSpec, flags_of, job_literal, job_number}
use Rattle.mr_splits.specs.Named.{named_records}
use Rattle.mr_splits.specs.Cut.{is_record}
use Rattle.mr_certform.specs.declared.grammar_state.Item.{Item}
use Rattle.mr_certform.specs.declared.grammar_state.Item.TheVariants.{Magic, Job, Flags, LiteralLength, LiteralByte, Parts, SplitSize, Files, FileLength, Skips, Skip}
use Rattle.mr_certform.specs.declared.grammar_state.Item.TheVariants.{Groups, Entries, Entry, End}
use Rattle.mr_certform.specs.Spelling.{items_of, stop}
use Rattle.mr_certform.specs.Places.{first_name}
use Rattle.mr_bytes.specs.Pairs.{Triple}
use Rattle.mr_sequential.specs.Emitted.{emitted}
use Rattle.mr_sequential.specs.Rules.{Rules, rules_of}
use Rattle.mr_sequential.specs.Good.{named}
use Rattle.mr_splits.specs.Kept.{is_past}
use Rattle.mr_verdict.specs.declared.answers.No.{No}
use Rattle.mr_verdict.specs.declared.answers.No.TheVariants.{OutputCount, Malformed, OtherJob, OtherInput, SkipOrder, NoSuchRecord, TooManySkips, NoSuchPair}
use Rattle.mr_verdict.specs.declared.answers.No.TheVariants.{EntryOrder, KeyDiffers, WrongPartition, KeyOrder, OutputDiffers, Unnamed}

-- what is judged: the order and the files, the outputs, and where the items of the certificate's bytes stop
pub record WalkCase : Type 0 where
  pub request : RequestSpec
  pub files : List (List ℕ)
  pub outputs : List (List ℕ)
  pub stop : ℕ

-- a test: where it fails, the fault
abbrev pub passes : Bool → No → List No
passes true fault = []
passes false fault = fault ∷ []

-- ---- the partitions

-- what is remembered: the next partition; of this one how many groups are still to come, and the group; of this group
-- how many entries are still to come, and the entry; the key of the group before, and of this one; the name before;
-- the values so far; where in the output the next text is to stand; how many entries there were
pub record Reached : Type 0 where
  pub next : ℕ
  pub groups : ℕ
  pub group : ℕ
  pub entries : ℕ
  pub entry : ℕ
  pub key_before : Option (List ℕ)
  pub key : List ℕ
  pub before : Name
  pub values : List Value
  pub from : ℕ
  pub named : ℕ

-- before the first partition
abbrev pub start : Reached
start = record { next = 0; groups = 0; group = 0; entries = 0; entry = 0; key_before = None; key = []; before = first_name; values = []; from = 0; named = 0 }

-- behind the last of its groups a partition's output ends
abbrev pub end_tests : List ℕ → ℕ → ℕ → ℕ → List No
end_tests output p zero from = passes (nat_le (length output) from) (OutputDiffers p from)
end_tests output p (suc groups) from = []

-- a text stands in the output from this place on; the fault tells the first place where it doesn't
abbrev pub text_tests : List ℕ → ℕ → ℕ → List ℕ → List No
text_tests output p from text =
    let same = common_prefix_len nat_eq text (drop from output) in passes (same == length text) (OutputDiffers p (from + same))

-- the key is past that of the group before
abbrev pub is_key_past : Option (List ℕ) → List ℕ → Bool
is_key_past None key = true
is_key_past (Some before) key = is_lt (key_order before key)

-- the first entry of a group: its key belongs to the partition, and is past the group before
abbrev pub first_tests : (List ℕ → ℕ) → ℕ → ℕ → Option (List ℕ) → List ℕ → List No
first_tests part p g key_before key = passes (part key == p) (WrongPartition p g 0) ++ passes (is_key_past key_before key) (KeyOrder p g 0)

-- each other entry: its name is past the one before, and its key is the group's
abbrev pub later_tests : ℕ → ℕ → ℕ → Name → Name → List ℕ → List ℕ → List No
later_tests p g e before name group_key key = passes (is_lt (name_order before name)) (EntryOrder p g e) ++ passes (bytes_eq key group_key) (KeyDiffers p g e)

abbrev pub order_tests : (List ℕ → ℕ) → ℕ → Reached → Name → List ℕ → ℕ → List No
order_tests part p st name key zero = first_tests part p st.group st.key_before key
order_tests part p st name key (suc e) = later_tests p st.group (suc e) st.before name st.key key

-- behind an entry
abbrev pub with_entry : Reached → Triple → ℕ → Reached
with_entry st t zero = record st { entry = 1; entries = st.entries - 1; key = t.key; before = t.name; values = t.value ∷ []; named = st.named + 1 }
with_entry st t (suc e) = record st { entry = suc e + 1; entries = st.entries - 1; before = t.name; values = st.values ++ t.value ∷ []; named = st.named + 1 }

-- what is judged against in the partitions: all that is emitted, the partition of a key and the text of a group, the outputs
pub record Subject : Type 0 where
  pub triples : List Triple
  pub rules : Rules
  pub outputs : List (List ℕ)

-- behind the last entry of a group its text is compared, and where it is the last group its partition ends
abbrev pub group_tests : Subject → ℕ → Reached → ℕ → List No
group_tests s p st zero =
    let text = s.rules.text st.key st.values in
    text_tests (nth_file s.outputs p) p st.from text ++ end_tests (nth_file s.outputs p) p (st.groups - 1) (st.from + length text)
group_tests s p st (suc n) = []

abbrev pub behind_group : Subject → Reached → ℕ → Reached
behind_group s st zero =
    record st { groups = st.groups - 1; group = st.group + 1; key_before = Some st.key; from = st.from + length (s.rules.text st.key st.values) }
behind_group s st (suc n) = st

abbrev pub entry_tests : Subject → ℕ → Reached → Name → Option Triple → List No
entry_tests s p st name None = NoSuchPair p st.group st.entry ∷ []
entry_tests s p st name (Some t) = order_tests s.rules.part p st name t.key st.entry ++ group_tests s p (with_entry st t st.entry) (st.entries - 1)

abbrev pub after_entry : Subject → Reached → Option Triple → Reached
after_entry s st None = st
after_entry s st (Some t) = behind_group s (with_entry st t st.entry) (st.entries - 1)

-- what an item is tested for; at the end, that no emitted pair is without a name
abbrev pub tests : Subject → Reached → Item → List No
tests s st (Groups n) = end_tests (nth_file s.outputs st.next) st.next n 0
tests s st (Entry name) = entry_tests s (st.next - 1) st name (named s.triples name)
tests s st End = passes (nat_le (length s.triples) st.named) (Unnamed (length s.triples) st.named)
tests s st i = []

-- what is remembered behind it
abbrev pub after : Subject → Reached → Item → Reached
after s st (Groups n) = record st { next = st.next + 1; groups = n; group = 0; key_before = None; from = 0 }
after s st (Entries n) = record st { entries = n; entry = 0 }
after s st (Entry name) = after_entry s st (named s.triples name)
after s st i = st

-- all faults from here on, in the order of the tests; where no item stands, that is the fault, at its place
abbrev pub part_faults : Subject → ℕ → Reached → List Item → List No
part_faults s at st [] = Malformed at ∷ []
part_faults s at st (End ∷ is) = tests s st End
part_faults s at st (i ∷ is) = tests s st i ++ part_faults s at (after s st i) is

-- ---- the left-out records

-- the subject, with what is emitted without these records
abbrev pub subject_of : WalkCase → List RecordName → Subject
subject_of c skips = record {
  triples = emitted c.request.job c.request.split c.files skips;
  rules = rules_of c.request;
  outputs = c.outputs;
}

abbrev pub last_of : List RecordName → Option RecordName
last_of [] = None
last_of (s ∷ []) = Some s
last_of (s ∷ t ∷ ss) = last_of (t ∷ ss)

-- each in turn, behind those before it: its order before its existence; behind the last the partitions
abbrev pub skip_faults : WalkCase → List RecordName → List Item → List No
skip_faults c skips (Skip s ∷ is) =
    passes (is_past (last_of skips) s) (SkipOrder (length skips))
    ++ passes (is_record (named_records c.request.split c.files) s) (NoSuchRecord (length skips))
    ++ skip_faults c (skips ++ s ∷ []) is
skip_faults c skips is = part_faults (subject_of c skips) c.stop start is

-- how many there are is tested first
abbrev pub count_faults : WalkCase → List Item → List No
count_faults c (Skips n ∷ is) = passes (nat_le n c.request.skips) (TooManySkips n) ++ skip_faults c [] is
count_faults c is = Malformed c.stop ∷ []

-- ---- what the order and the files fix

abbrev pub item_eq : Item → Item → Bool
item_eq Magic Magic = true
item_eq (Job m) (Job n) = m == n
item_eq (Flags m) (Flags n) = m == n
item_eq (LiteralLength m) (LiteralLength n) = m == n
item_eq (LiteralByte m) (LiteralByte n) = m == n
item_eq (Parts m) (Parts n) = m == n
item_eq (SplitSize m) (SplitSize n) = m == n
item_eq (Files m) (Files n) = m == n
item_eq (FileLength m) (FileLength n) = m == n
item_eq _ _ = false

-- the items that are wanted of the job, and of the input
abbrev pub job_wanted : RequestSpec → List Item
job_wanted o =
    Magic ∷ Job (job_number o.job) ∷ Flags (flags_of o) ∷ LiteralLength (length (job_literal o.job))
    ∷ (map LiteralByte (job_literal o.job) ++ (Parts o.parts ∷ SplitSize o.split ∷ []))

abbrev pub input_wanted : List (List ℕ) → List Item
input_wanted files = Files (length files) ∷ map (λ f. FileLength (length f)) files

-- each item in turn is the wanted one, and then what is behind them
abbrev pub wanted_faults : WalkCase → List Item → No → (List Item → List No) → List Item → List No
wanted_faults c [] fault behind is = behind is
wanted_faults c (w ∷ wanted) fault behind [] = Malformed c.stop ∷ []
wanted_faults c (w ∷ wanted) fault behind (i ∷ is) = passes (item_eq i w) fault ++ wanted_faults c wanted fault behind is

-- ---- the verdict

-- all faults in the order of the tests
abbrev pub faults : WalkCase → List Item → List No
faults c is =
    passes (length c.outputs == c.request.parts) OutputCount
    ++ wanted_faults c (job_wanted c.request) OtherJob (wanted_faults c (input_wanted c.files) OtherInput (count_faults c)) is

-- a result that is judged good: the left-out records, and how many pairs there are
pub record Accepted : Type 0 where
  pub skips : List RecordName
  pub pairs : ℕ

-- what items say of it
abbrev pub accepted_by : Accepted → List Item → Accepted
accepted_by a [] = a
accepted_by a (Skip s ∷ is) = accepted_by (record a { skips = a.skips ++ s ∷ [] }) is
accepted_by a (Entry name ∷ is) = accepted_by (record a { pairs = a.pairs + 1 }) is
accepted_by a (i ∷ is) = accepted_by a is

-- how many entries there are
abbrev pub entries_in : List Item → ℕ
entries_in [] = 0
entries_in (Entry name ∷ is) = entries_in is + 1
entries_in (i ∷ is) = entries_in is

-- the first of the faults
abbrev pub first : List No → Option No
first [] = None
first (fault ∷ faults) = Some fault

-- a yes, unless there is a fault
abbrev pub told_by : List No → Accepted → Result Accepted No
told_by [] accepted = Ok accepted
told_by (fault ∷ faults) accepted = Err fault

abbrev pub case_of : RequestSpec → List (List ℕ) → List (List ℕ) → List ℕ → WalkCase
case_of request files outputs bytes = record { request = request; files = files; outputs = outputs; stop = stop bytes }

-- the verdict on outputs and the bytes of a certificate
unfoldable pub verdict_of : RequestSpec → List (List ℕ) → List (List ℕ) → List ℕ → Result Accepted No
verdict_of request files outputs bytes =
    told_by (faults (case_of request files outputs bytes) (items_of bytes)) (accepted_by (record { skips = []; pairs = 0 }) (items_of bytes))
