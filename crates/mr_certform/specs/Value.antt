-- A certificate as a value, its items in their order, and its one spelling in each version.
use Rattle.std.specs.Prelude.{◌≡◌, ℕ, ◌^◌, ◌<◌, ◌≤◌, List, [], ◌∷◌, ◌++◌, length, map}
use Rattle.std.specs.List.{AllByRecursion, flat_map}
use Rattle.mr_bytes.specs.declared.Name.{Name}
use Rattle.mr_bytes.specs.declared.RecordName.{RecordName}
use Rattle.mr_certform.specs.declared.grammar_state.Item.{Item}
use Rattle.mr_certform.specs.declared.grammar_state.Item.TheVariants.{Magic, Job, Flags, LiteralLength, LiteralByte, Parts, SplitSize, Files, FileLength, Skips, Skip, Groups, Entries, Entry, End}
use Rattle.mr_certform.specs.declared.grammar_state.GrammarState.TheVariants.{AtMagic}
use Rattle.mr_certform.specs.declared.version.Version.{Version}
use Rattle.mr_certform.specs.declared.version.Version.TheVariants.{V1, V2}
use Rattle.mr_certform.specs.Places.{first_name}
use Rattle.mr_certform.specs.Short.{IsAtLeast}
use Rattle.mr_certform.specs.Spelling.{bytes_from}

-- a certificate; groups are those of each partition, each as the names of its entries
pub record Contents : Type 0 where
  pub job : ℕ
  pub flags : ℕ
  pub literal : List ℕ
  pub parts : ℕ
  pub split_size : ℕ
  pub lengths : List ℕ
  pub skips : List RecordName
  pub groups : List (List (List Name))

-- ---- its items

abbrev pub group_items : List Name → List Item
group_items ns = Entries (length ns) ∷ map Entry ns

abbrev pub part_items : List (List Name) → List Item
part_items gs = Groups (length gs) ∷ flat_map group_items gs

abbrev pub job_items : Contents → List Item
job_items c = Job c.job ∷ Flags c.flags ∷ LiteralLength (length c.literal) ∷ (map LiteralByte c.literal ++ (Parts c.parts ∷ SplitSize c.split_size ∷ []))

abbrev pub input_items : Contents → List Item
input_items c = Files (length c.lengths) ∷ map FileLength c.lengths

abbrev pub skip_items : Contents → List Item
skip_items c = Skips (length c.skips) ∷ map Skip c.skips

abbrev pub group_part_items : Contents → List Item
group_part_items c = flat_map part_items c.groups

-- the items in their order
unfoldable pub certificate_items : Contents → List Item
certificate_items c = Magic ∷ (job_items c ++ (input_items c ++ (skip_items c ++ (group_part_items c ++ End ∷ []))))

-- its spelling in a version
unfoldable pub spelling : Version → Contents → List ℕ
spelling v c = bytes_from v AtMagic (certificate_items c)

-- ---- what has a spelling

pub record NameFits (n : Name) : Type 0 where
  pub split : n.split < 2 ^ 32
  pub rec : n.rec < 2 ^ 32
  pub place : n.place < 2 ^ 32

pub record SkipFits (s : RecordName) : Type 0 where
  pub split : s.split < 2 ^ 32
  pub rec : s.rec < 2 ^ 32

-- at least one entry
pub record GroupFits (ns : List Name) : Type 0 where
  pub some_entry : 1 ≤ length ns
  pub count : length ns < 2 ^ 32
  pub names : AllByRecursion NameFits ns

pub record PartFits (gs : List (List Name)) : Type 0 where
  pub count : length gs < 2 ^ 32
  pub groups : AllByRecursion GroupFits gs

pub record Fits (c : Contents) : Type 0 where
  pub job : c.job < 2 ^ 32
  pub flags : c.flags < 2 ^ 32
  pub literal : length c.literal ≤ 4096
  pub literal_bytes : AllByRecursion (λ b. b < 256) c.literal
  pub some_part : 1 ≤ c.parts
  pub parts : c.parts ≤ 1024
  pub split_size : c.split_size < 2 ^ 32
  pub files : length c.lengths ≤ 1024
  pub lengths : AllByRecursion (λ n. n < 2 ^ 64) c.lengths
  pub skips : length c.skips < 2 ^ 32
  pub each_skip : AllByRecursion SkipFits c.skips
  pub one_each : length c.groups ≡ c.parts
  pub groups : AllByRecursion PartFits c.groups

-- the version can spell the name behind the one before it: version 2 none that is less
abbrev pub CanFollow : Version → Name → Name → Type 0
CanFollow V1 before n = Unit {0}
CanFollow V2 before n = IsAtLeast before n

-- so each of these names, of which the first comes behind this one
abbrev pub CanRow : Version → Name → List Name → Type 0
CanRow v before [] = Unit {0}
CanRow v before (n ∷ ns) = CanFollow v before n × CanRow v n ns

-- the version can spell the groups of a partition
abbrev pub CanSpell : Version → List (List Name) → Type 0
CanSpell v gs = AllByRecursion (CanRow v first_name) gs

-- the bytes spell the value in this version, and nothing follows
pub record SpellsIn (v : Version) (bytes : List ℕ) (c : Contents) : Type 0 where
  pub fits : Fits c
  pub can : AllByRecursion (CanSpell v) c.groups
  pub spelled : bytes ≡ spelling v c

-- a certificate and the version that it is to be spelled in
pub record Versioned : Type 0 where
  pub version : Version
  pub certificate : Contents

-- the bytes spell the value, in one of the versions
pub record Spells (bytes : List ℕ) (c : Contents) : Type 0 where
  pub version : Version
  pub is : SpellsIn version bytes c

-- the names of all entries, in their order
abbrev pub names_of : Contents → List Name
names_of c = flat_map (λ gs. flat_map (λ ns. ns) gs) c.groups
