-- The region of a partition: the pairs of a run of a map task that belong to it, in order (OSDI 2004, sections 3.1 and 4.2).
use Rattle.std.specs.Prelude.{◌≡◌, ◌↔◌, ℕ, ◌==◌, List, [], ◌∷◌, filter, map}
use Rattle.std.specs.List.{AllByRecursion, range_with_len}
use Rattle.std.specs.declared.cmp.Ordering.TheVariants.{Less}
use Rattle.mr_bytes.specs.Lists.{Has, Rises, sorted}
use Rattle.mr_bytes.specs.Order.{name_order}
use Rattle.mr_bytes.specs.Pairs.{Triple, pair_order}
use Rattle.mr_spill.specs.Column.{names_of}

-- the pairs of partition `p`, by key, then by name; `part` gives each key its partition
abbrev pub region : (List ℕ → ℕ) → List Triple → ℕ → List Triple
region part ts p = sorted pair_order (filter (λ t. part t.key == p) ts)

-- those of all partitions
abbrev pub regions : (List ℕ → ℕ) → ℕ → List Triple → List (List Triple)
regions part parts ts = map (region part ts) (range_with_len 0 parts)

-- a region rises by key and name, strictly
abbrev pub RegionsRise : Type 0
RegionsRise = (part : List ℕ → ℕ) (ts : List Triple) (p : ℕ) → Rises pair_order (region part ts p)

-- of pairs whose names rise it has just those of its partition
abbrev pub RegionsHave : Type 0
RegionsHave = (part : List ℕ → ℕ) (ts : List Triple) (p : ℕ) → Rises name_order (names_of ts)
    → (t : Triple) → Has (region part ts p) t ↔ (Has ts t × (part t.key ≡ p))

-- under each key the names rise, strictly
abbrev pub RisesUnderKeys : List Triple → Type 0
RisesUnderKeys [] = Unit {0}
RisesUnderKeys (t ∷ ts) = AllByRecursion (λ u. u.key ≡ t.key → name_order t.name u.name ≡ Less) ts × RisesUnderKeys ts
