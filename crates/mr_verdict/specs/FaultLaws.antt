-- What each fault means, in the words of the certificate that was read: of its items, as far as they stand.
use Rattle.std.specs.Prelude.{◌≡◌, ◌≢◌, ◌⊎◌, ℕ, ◌-◌, ◌<◌, ◌≤◌, true, false, Option, Some, None, Err, List, [], ◌∷◌, ◌++◌, length, map}
use Rattle.std.specs.Prelude.{slice_index_or}
use Rattle.std.specs.List.{flat_map, slice_get}
use Rattle.std.specs.Option.{option_and_then}
use Rattle.std.specs.declared.cmp.Ordering.TheVariants.{Less}
use Rattle.mr_bytes.specs.declared.Name.{Name}
use Rattle.mr_bytes.specs.declared.RecordName.{RecordName}
use Rattle.mr_bytes.specs.Order.{key_order, name_order, record_order}
use Rattle.mr_input.specs.Files.{nth_file}
use Rattle.mr_jobs.specs.JobSpec.{RequestSpec}
use Rattle.mr_splits.specs.Named.{NamedRecord, named_records}
use Rattle.mr_splits.specs.Cut.{is_record}
use Rattle.mr_certform.specs.declared.grammar_state.Item.{Item}
use Rattle.mr_certform.specs.declared.grammar_state.Item.TheVariants.{Skips, Groups, Entries, Entry}
use Rattle.mr_certform.specs.Grammar.{AreBytes}
use Rattle.mr_certform.specs.Spelling.{items_of, is_ended}
use Rattle.mr_certform.specs.Value.{Contents, Spells}
use Rattle.mr_bytes.specs.Pairs.{Triple}
use Rattle.mr_sequential.specs.Rules.{Text}
use Rattle.mr_sequential.specs.Good.{named, text_under}
use Rattle.mr_verdict.specs.declared.answers.No.{No}
use Rattle.mr_verdict.specs.declared.answers.Source.{Source}
use Rattle.mr_verdict.specs.declared.answers.No.TheVariants.{OutputCount, Malformed, OtherJob, OtherInput, SkipOrder, NoSuchRecord, TooManySkips, NoSuchPair}
use Rattle.mr_verdict.specs.declared.answers.No.TheVariants.{EntryOrder, KeyDiffers, WrongPartition, KeyOrder, OutputDiffers, Unnamed, OutOfMemory, Device}
use Rattle.mr_verdict.specs.Verdict.{WalkCase, Subject, subject_of, job_wanted, input_wanted, entries_in, case_of, verdict_of}
use Rattle.mr_verdict.specs.VerdictLaws.{skips_in, parts_in}

-- ---- what stands of a certificate

-- of a group: how many entries it announces, and their names as far as they stand
pub record GroupRead : Type 0 where
  pub announced : ℕ
  pub names : List Name

-- of a partition: how many groups it announces, and these as far as they stand
pub record PartRead : Type 0 where
  pub announced : ℕ
  pub groups : List GroupRead

-- the names that stand in front
abbrev pub names_in : List Item → List Name
names_in (Entry name ∷ is) = name ∷ names_in is
names_in is = []

-- the groups that begin, each with its names
abbrev pub groups_in : List Item → List GroupRead
groups_in [] = []
groups_in (Entries n ∷ is) = record { announced = n; names = names_in is } ∷ groups_in is
groups_in (i ∷ is) = groups_in is

-- a partition by its items
abbrev pub part_read : List Item → PartRead
part_read (Groups n ∷ is) = record { announced = n; groups = groups_in is }
part_read is = record { announced = 0; groups = [] }

-- the partitions of a certificate by its items
abbrev pub parts_read : List Item → List PartRead
parts_read is = map part_read (parts_in is)

-- a group and a partition that stand whole
abbrev pub whole : List Name → GroupRead
whole names = record { announced = length names; names = names }

abbrev pub whole_part : List (List Name) → PartRead
whole_part groups = record { announced = length groups; groups = map whole groups }

-- of bytes that spell a certificate, what was read is the certificate
abbrev pub ReadIsSpelled : Type 0
ReadIsSpelled = (bytes : List ℕ) (c : Contents) → Spells bytes c
    → (skips_in (items_of bytes) ≡ c.skips) × (parts_read (items_of bytes) ≡ map whole_part c.groups) × (is_ended (items_of bytes) ≡ true)

-- and bytes whose items end spell one
abbrev pub EndedIsSpelled : Type 0
EndedIsSpelled = (bytes : List ℕ) → AreBytes bytes → is_ended (items_of bytes) ≡ true → (c : Contents) × Spells bytes c

-- ---- an entry by its place

-- the name of entry e of group g, where it stands
abbrev pub name_in : PartRead → ℕ → ℕ → Option Name
name_in part g e = slice_get (slice_index_or part.groups g (record { announced = 0; names = [] })).names e

-- the triple that the entry names, if there is one
abbrev pub triple_in : List Triple → PartRead → ℕ → ℕ → Option Triple
triple_in ts part g e = option_and_then (named ts) (name_in part g e)

-- ---- what is wrong with an entry, a group or a text

-- no emitted pair has the entry's name
pub record IsUnknown (ts : List Triple) (part : PartRead) (g e : ℕ) : Type 0 where
  pub name : Name
  pub stands : name_in part g e ≡ Some name
  pub none : named ts name ≡ None

-- the names of two neighbours don't rise
pub record NamesFall (part : PartRead) (g e : ℕ) : Type 0 where
  pub later : 1 ≤ e
  pub before : Name
  pub name : Name
  pub before_stands : name_in part g (e - 1) ≡ Some before
  pub stands : name_in part g e ≡ Some name
  pub falls : name_order before name ≢ Less

-- the entry's key is another than that of the group's first
pub record KeysDiffer (ts : List Triple) (part : PartRead) (g e : ℕ) : Type 0 where
  pub first : Triple
  pub other : Triple
  pub first_named : triple_in ts part g 0 ≡ Some first
  pub other_named : triple_in ts part g e ≡ Some other
  pub differs : other.key ≢ first.key

-- the key of the group's first entry belongs to another partition
pub record IsElsewhere (rule : List ℕ → ℕ) (ts : List Triple) (p : ℕ) (part : PartRead) (g e : ℕ) : Type 0 where
  pub at_first : e ≡ 0
  pub first : Triple
  pub named_first : triple_in ts part g 0 ≡ Some first
  pub elsewhere : rule first.key ≢ p

-- the keys of two neighbour groups don't rise
pub record KeysFall (ts : List Triple) (part : PartRead) (g e : ℕ) : Type 0 where
  pub at_first : e ≡ 0
  pub later : 1 ≤ g
  pub before : Triple
  pub first : Triple
  pub before_named : triple_in ts part (g - 1) 0 ≡ Some before
  pub named_first : triple_in ts part g 0 ≡ Some first
  pub falls : key_order before.key first.key ≢ Less

-- two texts begin with the same so many bytes, and then have different ones, or one of them ends
pub record DifferFrom (at : ℕ) (a b : Text) : Type 0 where
  pub same : Text
  pub a_rest : Text
  pub b_rest : Text
  pub a_is : a ≡ same ++ a_rest
  pub b_is : b ≡ same ++ b_rest
  pub as_many : length same ≡ at
  pub differ : slice_get a_rest 0 ≢ slice_get b_rest 0

-- the output differs there from the texts of groups in front that stand whole; where it only goes on, these are all
pub record TextsDiffer (s : Subject) (part : PartRead) (output : Text) (at : ℕ) : Type 0 where
  pub groups : List (List Name)
  pub others : List GroupRead
  pub read : part.groups ≡ map whole groups ++ others
  pub differ : DifferFrom at output (flat_map (text_under s.rules.text s.triples) groups)
  pub all : (at < length (flat_map (text_under s.rules.text s.triples) groups)) ⊎ (length groups ≡ part.announced)

-- what a fault of partition p says of it
abbrev pub IsWrongIn : Subject → ℕ → PartRead → No → Type 0
IsWrongIn s p part (NoSuchPair q g e) = (q ≡ p) × IsUnknown s.triples part g e
IsWrongIn s p part (EntryOrder q g e) = (q ≡ p) × NamesFall part g e
IsWrongIn s p part (KeyDiffers q g e) = (q ≡ p) × KeysDiffer s.triples part g e
IsWrongIn s p part (WrongPartition q g e) = (q ≡ p) × IsElsewhere s.rules.part s.triples p part g e
IsWrongIn s p part (KeyOrder q g e) = (q ≡ p) × KeysFall s.triples part g e
IsWrongIn s p part (OutputDiffers q at) = (q ≡ p) × TextsDiffer s part (nth_file s.outputs p) at
IsWrongIn s p part fault = ⊥

-- it is told of a partition that stands
pub record IsWrongSomewhere (s : Subject) (parts : List PartRead) (fault : No) : Type 0 where
  pub p : ℕ
  pub within : p < length parts
  pub wrong : IsWrongIn s p (slice_index_or parts p (record { announced = 0; groups = [] })) fault

-- ---- what is wrong before the partitions

-- items depart from the wanted ones: behind the same items comes another
pub record Depart (wanted items : List Item) : Type 0 where
  pub same : List Item
  pub item : Item
  pub want : Item
  pub items_behind : List Item
  pub wanted_behind : List Item
  pub items_are : items ≡ same ++ item ∷ items_behind
  pub wanted_are : wanted ≡ same ++ want ∷ wanted_behind
  pub other : item ≢ want

-- behind the items of the job those of the input depart
pub record DepartBehind (front wanted items : List Item) : Type 0 where
  pub rest : List Item
  pub items_are : items ≡ front ++ rest
  pub depart : Depart wanted rest

-- the items announce so many left-out records
pub record Announced (items : List Item) (n : ℕ) : Type 0 where
  pub before : List Item
  pub behind : List Item
  pub items_are : items ≡ before ++ Skips n ∷ behind

-- the left-out record with this number isn't past the one before
pub record SkipsFall (skips : List RecordName) (k : ℕ) : Type 0 where
  pub later : 1 ≤ k
  pub before : RecordName
  pub name : RecordName
  pub before_stands : slice_get skips (k - 1) ≡ Some before
  pub stands : slice_get skips k ≡ Some name
  pub falls : record_order before name ≢ Less

-- the left-out record with this number isn't a record of the input
pub record IsNoRecord (rs : List NamedRecord) (skips : List RecordName) (k : ℕ) : Type 0 where
  pub name : RecordName
  pub stands : slice_get skips k ≡ Some name
  pub none : is_record rs name ≡ false

-- ---- each fault

-- fewer entries are named than pairs are emitted, in a certificate that ends
pub record AreUnnamed (items : List Item) (ts : List Triple) (emitted named : ℕ) : Type 0 where
  pub ended : is_ended items ≡ true
  pub emitted_is : emitted ≡ length ts
  pub named_is : named ≡ entries_in items
  pub fewer : named < emitted

-- what a fault says of a case and the items of the certificate's bytes
abbrev pub IsTrueOf : WalkCase → List Item → No → Type 0
IsTrueOf c is OutputCount = length c.outputs ≢ c.request.parts
IsTrueOf c is OtherJob = Depart (job_wanted c.request) is
IsTrueOf c is OtherInput = DepartBehind (job_wanted c.request) (input_wanted c.files) is
IsTrueOf c is (TooManySkips n) = Announced is n × (c.request.skips < n)
IsTrueOf c is (SkipOrder k) = SkipsFall (skips_in is) k
IsTrueOf c is (NoSuchRecord k) = IsNoRecord (named_records c.request.split c.files) (skips_in is) k
IsTrueOf c is (Malformed at) = (at ≡ c.stop) × (is_ended is ≡ false)
IsTrueOf c is (Unnamed emitted named) = AreUnnamed is (subject_of c (skips_in is)).triples emitted named
IsTrueOf c is fault = IsWrongSomewhere (subject_of c (skips_in is)) (parts_read is) fault

-- a fault that the verdict tells is true of the certificate that was read
abbrev pub FaultsAreTrue : Type 0
FaultsAreTrue = (request : RequestSpec) (files outputs : List (List ℕ)) (bytes : List ℕ) (fault : No) → AreBytes bytes
    → verdict_of request files outputs bytes ≡ Err fault → IsTrueOf (case_of request files outputs bytes) (items_of bytes) fault

-- no verdict tells want of memory, and none a failed read: these aren't of the bytes
abbrev pub IsAboutBytes : Type 0
IsAboutBytes = (request : RequestSpec) (files outputs : List (List ℕ)) (bytes : List ℕ) → AreBytes bytes
    → (verdict_of request files outputs bytes ≡ Err OutOfMemory → ⊥) × ((s : Source) → verdict_of request files outputs bytes ≡ Err (Device s) → ⊥)
