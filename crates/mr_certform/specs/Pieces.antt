-- The bytes of a certificate, part by part: its job, its input, its left-out records, its groups.
use Rattle.std.specs.Prelude.{◌≡◌, List, [], ◌∷◌, ◌++◌, ℕ, length}
use Rattle.std.specs.List.{AllByRecursion, flat_map}
use Rattle.mr_bytes.specs.declared.Name.{Name}
use Rattle.mr_certform.specs.Places.{first_name}
use Rattle.mr_certform.specs.declared.version.Version.{Version}
use Rattle.mr_certform.specs.Spelling.{u32, u64, magic, name_bytes, skip_bytes}
use Rattle.mr_certform.specs.Value.{Contents, Versioned, Fits, PartFits, CanSpell}

-- the names of a group, one behind another
abbrev pub names_bytes : Version → Name → List Name → List ℕ
names_bytes v before [] = []
names_bytes v before (n ∷ ns) = name_bytes v before n ++ names_bytes v n ns

abbrev pub group_bytes : Version → List Name → List ℕ
group_bytes v ns = u32 (length ns) ++ names_bytes v first_name ns

abbrev pub part_bytes : Version → List (List Name) → List ℕ
part_bytes v gs = u32 (length gs) ++ flat_map (group_bytes v) gs

abbrev pub job_bytes : Version → Contents → List ℕ
job_bytes v c = magic v ++ u32 c.job ++ u32 c.flags ++ u32 (length c.literal) ++ c.literal ++ u32 c.parts ++ u32 c.split_size

abbrev pub input_bytes : Contents → List ℕ
input_bytes c = u32 (length c.lengths) ++ flat_map u64 c.lengths

abbrev pub skips_bytes : Contents → List ℕ
skips_bytes c = u32 (length c.skips) ++ flat_map skip_bytes c.skips

abbrev pub groups_bytes : Version → Contents → List ℕ
groups_bytes v c = flat_map (part_bytes v) c.groups

-- what stands in front of the partitions
abbrev pub front_bytes : Version → Contents → List ℕ
front_bytes v c = job_bytes v c ++ input_bytes c ++ skips_bytes c

abbrev pub all_bytes : Version → Contents → List ℕ
all_bytes v c = front_bytes v c ++ groups_bytes v c

abbrev pub versioned_bytes : Versioned → List ℕ
versioned_bytes s = all_bytes s.version s.certificate

-- the bytes spell the certificate in this version as far as its partitions go, of which some may be still to come
pub record SpellsSoFar (v : Version) (bytes : List ℕ) (c : Contents) : Type 0 where
  pub text : bytes ≡ all_bytes v c
  pub front : (groups : List (List (List Name))) → length groups ≡ c.parts → AllByRecursion PartFits groups → Fits (record c { groups = groups })
  pub groups : AllByRecursion PartFits c.groups
  pub can : AllByRecursion (CanSpell v) c.groups
