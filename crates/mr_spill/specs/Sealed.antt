-- A run of a map task, sealed as bytes (OSDI 2004, section 3.1).
use Rattle.std.specs.Prelude.{◌≡◌, ℕ, ◌<◌, ◌^◌, List, Vec, [], length, map, slice_index_or}
use Rattle.std.specs.Global.{Global}
use Rattle.std.specs.List.{AllByRecursion, flat_map}
use Rattle.mr_bytes.specs.Pairs.{Triple}
use Rattle.mr_spill.specs.Groups.{Group, pairs_of, piece}
use Rattle.mr_spill.specs.Spelling.{PairFits, SpellsRegion, region_bytes}

-- the split whose run it is, and the bytes of its regions, by partition
pub record RunText : Type 0 where
  pub split : ℕ
  pub regions : List (List ℕ)

-- each region of the run spells that of its partition
pub record SpellsRun (run : RunText) (split parts : ℕ) (region : ℕ → List Triple) : Type 0 where
  pub own : run.split ≡ split
  pub count : length run.regions ≡ parts
  pub each : (p : ℕ) → p < parts → SpellsRegion (slice_index_or run.regions p []) split p (region p)

-- ---- Of no public promise: how the regions come about.

-- the text of these pairs, in whatever order they are
pub record IsText (split partition : ℕ) (ts : List Triple) (text : List ℕ) : Type 0 where
  pub is : text ≡ region_bytes split partition ts
  pub fit : AllByRecursion PairFits ts
  pub few : length ts < 2 ^ 32

-- each text is that of the groups of its partition
pub record AreTexts (split : ℕ) (gs : List Group) (ends : List ℕ) (texts : List (Vec ℕ Global)) : Type 0 where
  pub count : length texts ≡ length ends
  pub each : (p : ℕ) → p < length ends
      → IsText split p (flat_map pairs_of (piece gs ends p)) (slice_index_or (map (λ b. b.items) texts) p [])
