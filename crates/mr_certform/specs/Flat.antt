-- A certificate's values one behind another, as its items tell them.
use Rattle.std.specs.Prelude.{◌≡◌, ℕ, ◌+◌, ◌^◌, ◌<◌, ◌≤◌, List, [], ◌∷◌, ◌++◌, length, take, drop}
use Rattle.std.specs.List.{AllByRecursion}
use Rattle.mr_bytes.specs.declared.Name.{Name}
use Rattle.mr_bytes.specs.declared.RecordName.{RecordName}
use Rattle.mr_certform.specs.declared.certificate.Header.{Header}
use Rattle.mr_certform.specs.declared.grammar_state.Item.{Item}
use Rattle.mr_certform.specs.declared.grammar_state.Item.TheVariants.{Job, Flags, LiteralByte, Parts, SplitSize, FileLength, Skip, Groups, Entries, Entry}
use Rattle.mr_certform.specs.Value.{Contents, NameFits, SkipFits}

-- the groups as counts: of each partition its groups, of each group its entries; and all names
pub record Told : Type 0 where
  pub job : ℕ
  pub flags : ℕ
  pub literal : List ℕ
  pub parts : ℕ
  pub split_size : ℕ
  pub lengths : List ℕ
  pub skips : List RecordName
  pub group_counts : List ℕ
  pub entry_counts : List ℕ
  pub names : List Name

-- behind a header, with so many partitions and none of their groups
abbrev pub told_first : Header → ℕ → Told
told_first h parts = record {
  job = h.job;
  flags = h.flags;
  literal = h.literal.items;
  parts = parts;
  split_size = h.split_size;
  lengths = h.lengths.items;
  skips = h.skips.items;
  group_counts = [];
  entry_counts = [];
  names = [];
}

-- before any item
abbrev pub nothing_told : Told
nothing_told = record { job = 0; flags = 0; literal = []; parts = 0; split_size = 0; lengths = []; skips = []; group_counts = []; entry_counts = []; names = [] }

-- what an item tells
abbrev pub told : Told → Item → Told
told t (Job n) = record t { job = n }
told t (Flags n) = record t { flags = n }
told t (LiteralByte b) = record t { literal = t.literal ++ b ∷ [] }
told t (Parts n) = record t { parts = n }
told t (SplitSize n) = record t { split_size = n }
told t (FileLength n) = record t { lengths = t.lengths ++ n ∷ [] }
told t (Skip s) = record t { skips = t.skips ++ s ∷ [] }
told t (Groups n) = record t { group_counts = t.group_counts ++ n ∷ [] }
told t (Entries n) = record t { entry_counts = t.entry_counts ++ n ∷ [] }
told t (Entry n) = record t { names = t.names ++ n ∷ [] }
told t _ = t

-- what items tell, one after another
abbrev pub told_by : Told → List Item → Told
told_by t [] = t
told_by t (i ∷ is) = told_by (told t i) is

-- all of them together
abbrev pub total : List ℕ → ℕ
total [] = 0
total (n ∷ ns) = n + total ns

-- a list cut into pieces of these lengths
abbrev pub chunks : {X : Type 0} → List ℕ → List X → List (List X)
chunks [] xs = []
chunks (n ∷ ns) xs = take n xs ∷ chunks ns (drop n xs)

abbrev pub contents_of : Told → Contents
contents_of t = record {
  job = t.job;
  flags = t.flags;
  literal = t.literal;
  parts = t.parts;
  split_size = t.split_size;
  lengths = t.lengths;
  skips = t.skips;
  groups = chunks t.group_counts (chunks t.entry_counts t.names);
}

-- no group is empty, and the counts of groups and of entries add up to the groups and to the names
pub record AreCounted (group_counts entry_counts : List ℕ) (names : List Name) : Type 0 where
  pub some_entry : AllByRecursion (λ n. 1 ≤ n) entry_counts
  pub groups : total group_counts ≡ length entry_counts
  pub entries : total entry_counts ≡ length names

-- the counts are those of the lists, and within their limits
pub record IsWhole (t : Told) : Type 0 where
  pub literal : length t.literal ≤ 4096
  pub some_part : 1 ≤ t.parts
  pub parts : t.parts ≤ 1024
  pub files : length t.lengths ≤ 1024
  pub skips : length t.skips < 2 ^ 32
  pub one_each : length t.group_counts ≡ t.parts
  pub some_entry : AllByRecursion (λ n. 1 ≤ n) t.entry_counts
  pub groups : total t.group_counts ≡ length t.entry_counts
  pub entries : total t.entry_counts ≡ length t.names

-- the numbers are those that one, four and eight bytes spell
pub record HasNumbers (t : Told) : Type 0 where
  pub job : t.job < 2 ^ 32
  pub flags : t.flags < 2 ^ 32
  pub literal : AllByRecursion (λ b. b < 256) t.literal
  pub split_size : t.split_size < 2 ^ 32
  pub lengths : AllByRecursion (λ n. n < 2 ^ 64) t.lengths
  pub group_counts : AllByRecursion (λ n. n < 2 ^ 32) t.group_counts
  pub entry_counts : AllByRecursion (λ n. n < 2 ^ 32) t.entry_counts

-- and so are those of the records and names
abbrev pub HasNames : Told → Type 0
HasNames t = AllByRecursion SkipFits t.skips × AllByRecursion (AllByRecursion NameFits) (chunks t.entry_counts t.names)
