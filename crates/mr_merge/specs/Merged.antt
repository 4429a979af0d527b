-- Regions of one partition merged: each key once, with all its pairs (OSDI 2004, section 4.2).
use denote.Ref.{Bor}
use Rattle.std.specs.Prelude.{List, map}
use Rattle.std.specs.List.{AllByRecursion, flat_map}
use Rattle.mr_bytes.specs.Lists.{Rises, Distinct, sorted}
use Rattle.mr_bytes.specs.Order.{key_order}
use Rattle.mr_bytes.specs.Pairs.{Triple, pair_order}
use Rattle.mr_spill.specs.Column.{names_of}
pub use Rattle.mr_spill.specs.Groups.{Group, group_of}

-- the regions behind references
abbrev pub values_of : List (Bor (List Triple)) → List (List Triple)
values_of regions = map (λ r. r.now) regions

-- all pairs of all regions
abbrev pub joined : List (List Triple) → List Triple
joined regions = flat_map (λ r. r) regions

-- no name of the pairs stands twice, under one key or two
abbrev pub NamesDiffer : List Triple → Type 0
NamesDiffer ts = Distinct (names_of ts)

-- each region is in order, and no name stands twice
pub record AreSound (regions : List (List Triple)) : Type 0 where
  pub in_order : AllByRecursion (Rises pair_order) regions
  pub names_differ : NamesDiffer (joined regions)

-- the groups of pairs, by rising key, and in each group by rising name
abbrev pub merged : List Triple → List Group
merged pairs = map (group_of (sorted pair_order pairs)) (sorted key_order (map (λ t. t.key) pairs))
