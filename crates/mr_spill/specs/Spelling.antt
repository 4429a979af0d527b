-- A region as bytes (docs/FORMATS.md, regions).
use Rattle.std.specs.Prelude.{◌≡◌, ℕ, ◌<◌, ◌^◌, List, [], ◌∷◌, ◌++◌, length}
use Rattle.std.specs.Int.{w32, w64, to_be_bytes}
use Rattle.std.specs.List.{AllByRecursion, flat_map}
use Rattle.mr_bytes.specs.declared.Name.{Name}
use Rattle.mr_bytes.specs.declared.Value.{Value}
use Rattle.mr_bytes.specs.declared.Value.TheVariants.{One, At}
use Rattle.mr_bytes.specs.Lists.{Rises}
use Rattle.mr_bytes.specs.Pairs.{Triple, pair_order}

-- a number in four bytes, and in eight, the highest first
abbrev pub u32 : ℕ → List ℕ
u32 n = to_be_bytes w32 n

abbrev pub u64 : ℕ → List ℕ
u64 n = to_be_bytes w64 n

-- `MRREGN1` and a line end
abbrev pub magic : List ℕ
magic = 0x4d ∷ 0x52 ∷ 0x52 ∷ 0x45 ∷ 0x47 ∷ 0x4e ∷ 0x31 ∷ 0x0a ∷ []

abbrev pub value_bytes : Value → List ℕ
value_bytes One = 0 ∷ []
value_bytes (At file offset) = 1 ∷ u32 file ++ u64 offset

abbrev pub name_bytes : Name → List ℕ
name_bytes n = u32 n.split ++ u32 n.rec ++ u32 n.place

abbrev pub pair_bytes : Triple → List ℕ
pair_bytes t = u32 (length t.key) ++ t.key ++ name_bytes t.name ++ value_bytes t.value

-- what stands before the pairs: whose they are, and how many
abbrev pub header : ℕ → ℕ → ℕ → List ℕ
header split partition count = magic ++ u32 split ++ u32 partition ++ u32 count

-- the region of a partition that a run of a split gave
abbrev pub region_bytes : ℕ → ℕ → List Triple → List ℕ
region_bytes split partition ts = header split partition (length ts) ++ flat_map pair_bytes ts

-- its numbers fit their bytes
abbrev pub ValueFits : Value → Type 0
ValueFits One = Unit {0}
ValueFits (At file offset) = (file < 2 ^ 32) × (offset < 2 ^ 64)

pub record PairFits (t : Triple) : Type 0 where
  pub key : length t.key < 2 ^ 32
  pub split : t.name.split < 2 ^ 32
  pub rec : t.name.rec < 2 ^ 32
  pub place : t.name.place < 2 ^ 32
  pub value : ValueFits t.value

-- the pairs rise by key and name, all are of the split, and the bytes spell them and nothing more
pub record SpellsRegion (bytes : List ℕ) (split partition : ℕ) (ts : List Triple) : Type 0 where
  pub is : bytes ≡ region_bytes split partition ts
  pub rise : Rises pair_order ts
  pub own : AllByRecursion (λ t. t.name.split ≡ split) ts
  pub fit : AllByRecursion PairFits ts
  pub few : length ts < 2 ^ 32
