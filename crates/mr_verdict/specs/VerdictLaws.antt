-- What the verdict is, in the words of the subject.
use Rattle.std.specs.Prelude.{◌≡◌, ℕ, zero, suc, ◌+◌, ◌<◌, take, Bool, true, false, Option, Some, None, Result, Ok, Err, List, [], ◌∷◌, ◌++◌, length, nat_le}
use Rattle.std.specs.Prelude.{◌==◌}
use Rattle.mr_bytes.specs.declared.RecordName.{RecordName}
use Rattle.mr_input.specs.Files.{nth_file}
use Rattle.mr_jobs.specs.JobSpec.{RequestSpec}
use Rattle.mr_splits.specs.Named.{named_records}
use Rattle.mr_splits.specs.Cut.{is_record}
use Rattle.mr_certform.specs.declared.grammar_state.Item.{Item}
use Rattle.mr_certform.specs.declared.grammar_state.Item.TheVariants.{Skips, Skip, Groups, End}
use Rattle.mr_certform.specs.declared.grammar_state.GrammarState.TheVariants.{AtMagic}
use Rattle.mr_certform.specs.declared.version.Version.{Version}
use Rattle.mr_certform.specs.Grammar.{AreBytes, InOrderIn}
use Rattle.mr_certform.specs.Spelling.{items_of, bytes_from, is_ended}
use Rattle.mr_sequential.specs.Emitted.{emitted}
use Rattle.mr_sequential.specs.Good.{IsGoodResult}
use Rattle.mr_splits.specs.Kept.{is_past}
use Rattle.mr_verdict.specs.declared.answers.No.{No}
use Rattle.mr_verdict.specs.declared.answers.No.TheVariants.{OutputCount, Malformed, OtherJob, OtherInput, SkipOrder, NoSuchRecord, TooManySkips, NoSuchPair}
use Rattle.mr_verdict.specs.declared.answers.No.TheVariants.{EntryOrder, KeyDiffers, WrongPartition, KeyOrder, OutputDiffers, Unnamed}
use Rattle.mr_verdict.specs.Verdict.{first, entries_in, WalkCase, Accepted, Reached, Subject, passes, start, tests, after, subject_of, last_of, job_wanted}
use Rattle.mr_verdict.specs.Verdict.{input_wanted, wanted_faults, faults, case_of, verdict_of}

-- ---- yes

-- what is told of a good result: what its certificate leaves out, and how many pairs are emitted without that
abbrev pub told_of : {request : RequestSpec} {files outputs : List (List ℕ)} {bytes : List ℕ} → IsGoodResult request files outputs bytes → Accepted
told_of {request} {files} {outputs} {bytes} r =
    let skips = r.certificate.skips in record { skips = skips; pairs = length (emitted request.job request.split files skips) }

-- a result that is judged good is good, and what is told of it are its left-out records and the number of its pairs
abbrev pub YesIsGood : Type 0
YesIsGood = (request : RequestSpec) (files outputs : List (List ℕ)) (bytes : List ℕ) (accepted : Accepted)
    → AreBytes bytes → verdict_of request files outputs bytes ≡ Ok accepted
    → (r : IsGoodResult request files outputs bytes) × (accepted ≡ told_of r)

-- a good result is judged good
abbrev pub GoodIsYes : Type 0
GoodIsYes = (request : RequestSpec) (files outputs : List (List ℕ)) (bytes : List ℕ) (r : IsGoodResult request files outputs bytes)
    → verdict_of request files outputs bytes ≡ Ok (told_of r)

-- ---- items in turn

-- what items are tested for, one behind another
abbrev pub told : Subject → Reached → List Item → List No
told s st [] = []
told s st (i ∷ is) = tests s st i ++ told s (after s st i) is

-- what is remembered behind them
abbrev pub behind : Subject → Reached → List Item → Reached
behind s st [] = st
behind s st (i ∷ is) = behind s (after s st i) is

-- ---- the place of a fault

abbrev pub or_else : Option No → Option No → Option No
or_else None other = other
or_else (Some fault) other = Some fault

-- the fault that a verdict tells
abbrev pub fault_of : Result Accepted No → Option No
fault_of (Ok accepted) = None
fault_of (Err fault) = Some fault

-- the left-out records that are listed before the first partition
abbrev pub skips_in : List Item → List RecordName
skips_in [] = []
skips_in (Skip s ∷ is) = s ∷ skips_in is
skips_in (Groups n ∷ is) = []
skips_in (i ∷ is) = skips_in is

-- the items before the next partition, or the end
abbrev pub piece : List Item → List Item
piece [] = []
piece (Groups n ∷ is) = []
piece (End ∷ is) = []
piece (i ∷ is) = i ∷ piece is

-- the items of each partition
abbrev pub parts_in : List Item → List (List Item)
parts_in [] = []
parts_in (Groups n ∷ is) = (Groups n ∷ piece is) ∷ parts_in is
parts_in (i ∷ is) = parts_in is

-- what is told before the partitions
abbrev pub front_skips : WalkCase → List RecordName → List Item → List No
front_skips c skips (Skip s ∷ is) =
    passes (is_past (last_of skips) s) (SkipOrder (length skips))
    ++ passes (is_record (named_records c.request.split c.files) s) (NoSuchRecord (length skips))
    ++ front_skips c (skips ++ s ∷ []) is
front_skips c skips is = []

abbrev pub front_count : WalkCase → List Item → List No
front_count c (Skips n ∷ is) = passes (nat_le n c.request.skips) (TooManySkips n) ++ front_skips c [] is
front_count c is = Malformed c.stop ∷ []

abbrev pub front_faults : WalkCase → List Item → List No
front_faults c is =
    passes (length c.outputs == c.request.parts) OutputCount
    ++ wanted_faults c (job_wanted c.request) OtherJob (wanted_faults c (input_wanted c.files) OtherInput (front_count c)) is

-- the fault of partition p by its own items, whatever comes before it
abbrev pub part_fault : Subject → ℕ → List Item → Option No
part_fault s p is = first (told s (record start { next = p }) is)

-- the fault of the least partition that has one, the first of them being partition p
abbrev pub least_fault : Subject → ℕ → List (List Item) → Option No
least_fault s p [] = None
least_fault s p (is ∷ parts) = or_else (part_fault s p is) (least_fault s (p + 1) parts)

-- what is told behind them, where there are n entries: that the items don't end, or that a pair has no name
abbrev pub back_fault : Subject → ℕ → ℕ → Bool → Option No
back_fault s at n true = first (passes (nat_le (length s.triples) n) (Unnamed (length s.triples) n))
back_fault s at n false = Some (Malformed at)

-- the verdict is the fault of what stands before the partitions, else that of the least partition that has one, else
-- that of what stands behind them
abbrev pub FaultByPlace : Type 0
FaultByPlace = (request : RequestSpec) (files outputs : List (List ℕ)) (bytes : List ℕ) → AreBytes bytes
    → (let c = case_of request files outputs bytes in
    let is = items_of bytes in
    let s = subject_of c (skips_in is) in
    fault_of (verdict_of request files outputs bytes)
    ≡ or_else (first (front_faults c is)) (or_else (least_fault s 0 (parts_in is)) (back_fault s c.stop (entries_in is) (is_ended is))))

-- ---- what bears on a fault

-- a test told it, and not that no item stands
abbrev pub IsTested : No → Type 0
IsTested (Malformed at) = ⊥
IsTested fault = Unit {0}

-- a fault that the tests of a beginning of the items tell is the verdict, whatever bytes follow
abbrev pub LaterItemsDontMatter : Type 0
LaterItemsDontMatter = (c : WalkCase) (v : Version) (is : List Item) (more : List ℕ) (fault : No)
    → InOrderIn v AtMagic is → (is_ended is ≡ true → more ≡ []) → first (faults c is) ≡ Some fault → IsTested fault
    → verdict_of c.request c.files c.outputs (bytes_from v AtMagic is ++ more) ≡ Err fault

-- the partition that a fault names
abbrev pub partition_named : No → Option ℕ
partition_named (NoSuchPair p g e) = Some p
partition_named (EntryOrder p g e) = Some p
partition_named (KeyDiffers p g e) = Some p
partition_named (WrongPartition p g e) = Some p
partition_named (KeyOrder p g e) = Some p
partition_named (OutputDiffers p at) = Some p
partition_named fault = None

-- another output is the same, up to the byte that the fault names where it names one
abbrev pub SameTo : No → List ℕ → List ℕ → Type 0
SameTo (OutputDiffers p at) output other = take (at + 1) other ≡ take (at + 1) output
SameTo fault output other = other ≡ output

-- a fault of a partition stays, whatever the later outputs are, and the later bytes of its own
abbrev pub LaterOutputsDontMatter : Type 0
LaterOutputsDontMatter = (request : RequestSpec) (files outputs others : List (List ℕ)) (bytes : List ℕ) (fault : No) (p : ℕ)
    → AreBytes bytes → length others ≡ length outputs
    → verdict_of request files outputs bytes ≡ Err fault → partition_named fault ≡ Some p
    → ((q : ℕ) → q < p → nth_file others q ≡ nth_file outputs q) → SameTo fault (nth_file outputs p) (nth_file others p)
    → verdict_of request files others bytes ≡ Err fault

-- ---- how far outputs are compared

-- what is remembered before the item of which the first fault is told, or where none is told behind them all
abbrev pub last_before : List No → Reached → Reached → Reached
last_before [] st later = later
last_before (fault ∷ faults) st later = st

abbrev pub before_fault : Subject → Reached → List Item → Reached
before_fault s st [] = st
before_fault s st (i ∷ is) = last_before (tests s st i) st (before_fault s (after s st i) is)

-- another output has the bytes that were compared by then: all of them where no group is still to come, and else those
-- before the place of the next text
abbrev pub SameBy : (groups from : ℕ) → List ℕ → List ℕ → Type 0
SameBy zero from output other = other ≡ output
SameBy (suc groups) from output other = take from other ≡ take from output

-- and where the fault names a byte, those up to it
abbrev pub SameFor : No → Reached → List ℕ → List ℕ → Type 0
SameFor (OutputDiffers p at) st output other = take (at + 1) other ≡ take (at + 1) output
SameFor fault st output other = SameBy st.groups st.from output other

-- a partition's fault is told by its own output alone
abbrev pub OtherOutputsDontMatter : Type 0
OtherOutputsDontMatter = (s : Subject) (others : List (List ℕ)) (p n : ℕ) (is : List Item)
    → nth_file others p ≡ nth_file s.outputs p
    → part_fault (record s { outputs = others }) p (Groups n ∷ piece is) ≡ part_fault s p (Groups n ∷ piece is)

-- and it stays where as much of that is the same as was compared
abbrev pub BytesBehindDontMatter : Type 0
BytesBehindDontMatter = (s : Subject) (others : List (List ℕ)) (p n : ℕ) (is : List Item) (fault : No)
    → part_fault s p (Groups n ∷ piece is) ≡ Some fault
    → SameFor fault (before_fault s (record start { next = p }) (Groups n ∷ piece is)) (nth_file s.outputs p) (nth_file others p)
    → part_fault (record s { outputs = others }) p (Groups n ∷ piece is) ≡ Some fault

-- of each output, up to that of the first partition that has a fault, as much is the same as was compared
abbrev pub SameInPart : Option No → Reached → List ℕ → List ℕ → Type 0 → Type 0
SameInPart (Some fault) st output other Behind = SameFor fault st output other
SameInPart None st output other Behind = SameBy st.groups st.from output other × Behind

abbrev pub SameFrom : Subject → ℕ → List (List Item) → List (List ℕ) → Type 0
SameFrom s p [] others = Unit {0}
SameFrom s p (is ∷ parts) others =
    SameInPart (part_fault s p is) (before_fault s (record start { next = p }) is) (nth_file s.outputs p) (nth_file others p) (SameFrom s (p + 1) parts others)

-- none is compared where a fault is told before the partitions
abbrev pub SameUnless : Option No → Type 0 → Type 0
SameUnless (Some fault) Parts = Unit {0}
SameUnless None Parts = Parts

-- outputs that are as many, and of which as much is the same as was compared, get the same verdict
abbrev pub OnlyComparedMatters : Type 0
OnlyComparedMatters = (request : RequestSpec) (files outputs others : List (List ℕ)) (bytes : List ℕ)
    → AreBytes bytes → length others ≡ length outputs
    → (let c = case_of request files outputs bytes in
    let is = items_of bytes in
    SameUnless (first (front_faults c is)) (SameFrom (subject_of c (skips_in is)) 0 (parts_in is) others))
    → verdict_of request files others bytes ≡ verdict_of request files outputs bytes
