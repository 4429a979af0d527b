-- An input that is cut into portions, also within files, and what the merge of the portions' groups is.
use Rattle.std.specs.Prelude.{◌≡◌, ℕ, ◌+◌, ◌-◌, ◌==◌, Bool, true, if◌then◌else◌, List, [], ◌∷◌, ◌++◌, Option, None, Some, length, map}
use Rattle.mr_bytes.specs.declared.RecordName.{RecordName}
use Rattle.mr_bytes.specs.declared.Value.{Value}
use Rattle.mr_bytes.specs.declared.Value.TheVariants.{One, At}
use Rattle.mr_jobs.specs.JobSpec.{RequestSpec}
use Rattle.mr_sequential.specs.Rules.{part}
use Rattle.mr_sequential.specs.Emitted.{emitted}
use Rattle.mr_shards.specs.Merged.{Group, groups_of, merged}
use Rattle.mr_shards.specs.Lines.{EndsLine}
pub use Rattle.mr_shards.specs.declared.shift.Shift.{Shift}
use Rattle.mr_shards.specs.declared.shift.ShardFiles.{ShardFiles}

-- files that are executed and judged by themselves, with the records left out of them, named as theirs; where it is cut, the
-- first file of the portion behind goes on with its last file
pub record Portion : Type 0 where
  pub cut : Bool
  pub files : List (List ℕ)
  pub skips : List RecordName

-- bytes in front of those of the first file
abbrev pub with_bytes : List ℕ → List (List ℕ) → List (List ℕ)
with_bytes f [] = f ∷ []
with_bytes f (g ∷ gs) = (f ++ g) ∷ gs

-- the files of both, where the first file of the second goes on with the last one of the first
abbrev pub glued : List (List ℕ) → List (List ℕ) → List (List ℕ)
glued [] gs = gs
glued (f ∷ []) gs = with_bytes f gs
glued (f ∷ g ∷ fs) gs = f ∷ glued (g ∷ fs) gs

-- the bytes of the last file; of no files none
abbrev pub last_file : List (List ℕ) → List ℕ
last_file [] = []
last_file (f ∷ []) = f
last_file (f ∷ g ∷ fs) = last_file (g ∷ fs)

abbrev pub put_together : Bool → List (List ℕ) → List (List ℕ) → List (List ℕ)
put_together cut fs gs = if cut then glued fs gs else fs ++ gs

-- the files of all portions, those that were cut whole again
abbrev pub whole_of : List Portion → List (List ℕ)
whole_of [] = []
whole_of (s ∷ ss) = put_together s.cut s.files (whole_of ss)

-- files are cut where lines end
abbrev pub AreCutAtLines : List Portion → Type 0
AreCutAtLines [] = Unit {0}
AreCutAtLines (s ∷ ss) = (s.cut ≡ true → EndsLine (last_file s.files)) × AreCutAtLines ss

-- ---- places that are moved

-- behind so many files, none of which goes on
abbrev pub past_files : ℕ → Shift
past_files files = record { files = files; bytes = 0 }

-- behind so many files, the last of them with so many bytes: where the first file goes on with that one, it has its number
abbrev pub shift_behind : Bool → ℕ → ℕ → Shift
shift_behind cut files last = if cut then record { files = files - 1; bytes = last } else past_files files

-- the same of the files of a shard
abbrev pub past_cut : ℕ → Option ℕ → Shift
past_cut count None = past_files count
past_cut count (Some last) = record { files = count - 1; bytes = last }

abbrev pub past_shard : ShardFiles → Shift
past_shard f = past_cut f.count f.cut

-- how far the places of the portions behind are moved
abbrev pub shift_of : Portion → Shift
shift_of s = shift_behind s.cut (length s.files) (length (last_file s.files))

abbrev pub shifted_start : Shift → ℕ → ℕ → ℕ
shifted_start s file start = if file == 0 then s.bytes + start else start

abbrev pub shifted_value : Shift → Value → Value
shifted_value s One = One
shifted_value s (At file start) = At (s.files + file) (shifted_start s file start)

abbrev pub shifted_group : Shift → Group → Group
shifted_group s g = record { key = g.key; values = map (shifted_value s) g.values }

-- ---- what the merge takes from portions

-- how far the places of the parts behind are moved, and its groups
pub record Part : Type 0 where
  pub shift : Shift
  pub groups : List Group

-- the groups of all: those of the first, with those of the others, whose places go on behind its own
abbrev pub merged_portions : List Part → List Group
merged_portions [] = []
merged_portions (a ∷ rest) = merged a.groups (map (shifted_group a.shift) (merged_portions rest))

-- the groups of a portion's partition
abbrev pub part_of : RequestSpec → ℕ → Portion → Part
part_of request p s = record {
  shift = shift_of s;
  groups = groups_of (part request) (emitted request.job request.split s.files s.skips) p;
}

-- ---- the same with each portion moved at once

-- a shift behind another
abbrev pub behind : Shift → Shift → Shift
behind s t = record { files = s.files + t.files; bytes = shifted_start s t.files t.bytes }

abbrev pub no_shift : Shift
no_shift = record { files = 0; bytes = 0 }

-- the groups of each part, moved behind all those before it
abbrev pub shifted_parts : Shift → List Part → List (List Group)
shifted_parts s [] = []
shifted_parts s (a ∷ rest) = map (shifted_group s) a.groups ∷ shifted_parts (behind s a.shift) rest

abbrev pub merged_groups : List (List Group) → List Group
merged_groups [] = []
merged_groups (gs ∷ gss) = merged gs (merged_groups gss)

abbrev pub MergedAtOnce : Type 0
MergedAtOnce = (parts : List Part) → merged_portions parts ≡ merged_groups (shifted_parts no_shift parts)
