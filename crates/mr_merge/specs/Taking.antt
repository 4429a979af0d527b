-- Of no public promise: regions taken pair by pair, one behind another.
use Rattle.std.specs.Prelude.{◌≡◌, ℕ, Bool, IsTrue, Option, Some, None, List, [], ◌∷◌, ◌++◌}
use Rattle.std.specs.List.{AllByRecursion}
use Rattle.std.specs.declared.cmp.Ordering.TheVariants.{Less}
use Rattle.mr_bytes.specs.declared.Name.{Name}
use Rattle.mr_bytes.specs.Lists.{Has}
use Rattle.mr_bytes.specs.Order.{name_order}
use Rattle.mr_bytes.specs.Pairs.{Triple}
use Rattle.mr_spill.specs.declared.cursor.RegionCursor.{RegionCursor}
use Rattle.mr_spill.specs.declared.cursor.RegionPair.{RegionPair}
use Rattle.mr_spill.specs.Column.{names_of}
use Rattle.mr_spill.specs.Cursor.{AreAhead, EndsWithKey, lent_pair}
use Rattle.mr_spill.specs.Lent.{RegionText}
use Rattle.mr_spill.specs.Regions.{RisesUnderKeys}
use Rattle.mr_spill.specs.Spelling.{SpellsRegion}
use Rattle.mr_merge.specs.declared.reduction.Gathering.{Gathering}
use Rattle.mr_merge.specs.Merged.{NamesDiffer}

-- the name is past the last one so far, if there is any
abbrev pub IsPast : Option Name → Name → Type 0
IsPast None n = Unit {0}
IsPast (Some last) n = name_order last n ≡ Less

-- the name isn't past it
abbrev pub IsUpTo : Option Name → Name → Type 0
IsUpTo None n = ⊥
IsUpTo (Some last) n = name_order last n ≡ Less → ⊥

-- these pairs came behind those that were there; where they are in turn, their names are past the last one
pub record Takes (ts : List Triple) (in_turn : Bool) (old new : Gathering) : Type 0 where
  pub is : new.pairs ≡ old.pairs ++ ts
  pub past : IsTrue in_turn → AllByRecursion (IsPast old.last) (names_of ts)
  pub before : (n : Name) → IsUpTo old.last n → IsUpTo new.last n
  pub up_to : AllByRecursion (IsUpTo new.last) (names_of ts)

-- a pair of a region came behind those that were there
pub record IsPut (before : Option Name) (p : RegionPair) (is_past : Bool) (old new : Gathering) : Type 0 where
  pub is : new.pairs ≡ old.pairs ++ lent_pair p ∷ []
  pub key : EndsWithKey new.pairs p.key.now
  pub past : IsTrue is_past → IsPast before p.name
  pub up : (n : Name) → IsUpTo old.last n → IsUpTo new.last n
  pub it : IsUpTo new.last p.name

-- those of a region in front were taken, and the others are still to come
pub record IsBegun (partition : ℕ) (region : RegionText) (in_turn : Bool) (old new : Gathering) (cursor : RegionCursor) : Type 0 where
  pub taken : List Triple
  pub takes : Takes taken in_turn old new
  pub on : (us : List Triple) → AreAhead cursor us → SpellsRegion region.bytes region.split partition (taken ++ us)
  pub left : (ts : List Triple) → SpellsRegion region.bytes region.split partition ts → (us : List Triple) × AreAhead cursor us
  pub key : (p : RegionPair) → cursor.last ≡ Some p → EndsWithKey new.pairs p.key.now

-- all those of a region were taken; where it is in turn, their names differ
pub record IsTaken (partition : ℕ) (region : RegionText) (in_turn : Bool) (old new : Gathering) : Type 0 where
  pub value : List Triple
  pub takes : Takes value in_turn old new
  pub spelled : SpellsRegion region.bytes region.split partition value
  pub differ : IsTrue in_turn → NamesDiffer value

-- the names rise under each key, differ, and are up to the last one
pub record AreInTurn (all : Gathering) : Type 0 where
  pub rise : RisesUnderKeys all.pairs
  pub differ : NamesDiffer all.pairs
  pub up_to : (t : Triple) → Has all.pairs t → IsUpTo all.last t.name
