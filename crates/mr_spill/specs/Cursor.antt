-- A region walked pair by pair over its bytes.
use Rattle.std.specs.Prelude.{◌≡◌, ℕ, ◌-◌, ◌<◌, Option, Some, None, List, ◌∷◌, length}
use Rattle.std.specs.List.{AllByRecursion, flat_map}
use Rattle.std.specs.declared.cmp.Ordering.TheVariants.{Less}
use Rattle.std.specs.Ordering.{ordering_then}
use Rattle.mr_bytes.specs.declared.Name.{Name}
use Rattle.mr_bytes.specs.Lists.{Rises}
use Rattle.mr_bytes.specs.Order.{key_order, name_order}
use Rattle.mr_bytes.specs.Pairs.{Triple, pair_order}
use Rattle.mr_spill.specs.declared.cursor.RegionPair.{RegionPair}
use Rattle.mr_spill.specs.declared.cursor.RegionCursor.{RegionCursor}
use Rattle.mr_spill.specs.Column.{nth_pair}
use Rattle.mr_spill.specs.Spelling.{PairFits, SpellsRegion, pair_bytes}

-- the pair that stands in the bytes
abbrev pub lent_pair : RegionPair → Triple
lent_pair p = record { key = p.key.now; value = p.value; name = p.name }

-- the pairs rise, behind the one that was given last
abbrev pub RiseBehind : Option RegionPair → List Triple → Type 0
RiseBehind None ts = Rises pair_order ts
RiseBehind (Some last) ts = Rises pair_order (lent_pair last ∷ ts)

-- a key and a name stand behind that pair
abbrev pub IsBehind : Option RegionPair → List ℕ → Name → Type 0
IsBehind None key name = Unit {0}
IsBehind (Some last) key name = ordering_then (key_order last.key.now key) (name_order last.name name) ≡ Less

-- the key is that of the pair that was given last
abbrev pub IsKeyOf : Option RegionPair → List ℕ → Type 0
IsKeyOf None key = ⊥
IsKeyOf (Some last) key = last.key.now ≡ key

-- these pairs are still to come, and nothing behind them: the bytes that are left spell them, and they are as many as the
-- header told, rise, and are of the split
pub record AreAhead (cursor : RegionCursor) (ts : List Triple) : Type 0 where
  pub text : cursor.rest.now ≡ flat_map pair_bytes ts
  pub all : length ts ≡ cursor.left
  pub rise : RiseBehind cursor.last ts
  pub own : AllByRecursion (λ t. t.name.split ≡ cursor.split) ts
  pub fit : AllByRecursion PairFits ts

-- the pairs that were still to come are this one and those that are
pub record IsNextOf (t : Triple) (old new : RegionCursor) : Type 0 where
  pub on : (us : List Triple) → AreAhead new us → AreAhead old (t ∷ us)
  pub only : (ts : List Triple) → AreAhead old ts → (us : List Triple) × (ts ≡ t ∷ us) × AreAhead new us
  pub fewer : new.left < old.left

-- the pairs that are still to come at first are those of the region that the bytes spell
pub record IsOpened (bytes : List ℕ) (split partition : ℕ) (cursor : RegionCursor) : Type 0 where
  pub none : cursor.last ≡ None
  pub on : (ts : List Triple) → AreAhead cursor ts → SpellsRegion bytes split partition ts
  pub only : (ts : List Triple) → SpellsRegion bytes split partition ts → AreAhead cursor ts

-- there are pairs, and the last has the key
abbrev pub EndsWithKey : List Triple → List ℕ → Type 0
EndsWithKey ts key = (0 < length ts) × ((nth_pair ts (length ts - 1)).key ≡ key)
