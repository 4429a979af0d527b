-- What merged groups are.
use Rattle.std.specs.Prelude.{◌≡◌, ◌↔◌, List, map}
use Rattle.mr_bytes.specs.Lists.{Distinct, Has, HasNoTies, Rises}
use Rattle.mr_bytes.specs.Order.{key_order, name_order}
use Rattle.mr_bytes.specs.Pairs.{Triple, pair_order}
use Rattle.mr_spill.specs.Column.{names_of}
use Rattle.mr_merge.specs.Merged.{Group, merged}

-- the keys of groups rise, strictly
abbrev pub GroupsRise : Type 0
GroupsRise = (pairs : List Triple) → Rises key_order (map (λ (g : Group). g.key) (merged pairs))

-- of pairs whose names differ a group has just those of its key, by rising name
abbrev pub GroupsHave : Type 0
GroupsHave = (pairs : List Triple) (g : Group) → Distinct (names_of pairs) → Has (merged pairs) g
    → Rises name_order (names_of g.pairs) × ((t : Triple) → Has g.pairs t ↔ (Has pairs t × (t.key ≡ g.key)))

-- and each is in a group
abbrev pub MergedHas : Type 0
MergedHas = (pairs : List Triple) (t : Triple) → Distinct (names_of pairs) → Has pairs t → (g : Group) × Has (merged pairs) g × Has g.pairs t

-- pairs of which no two tie, in whatever order, give the same groups
abbrev pub MergedIsOne : Type 0
MergedIsOne = (ps qs : List Triple) → HasNoTies pair_order ps → ((t : Triple) → Has ps t ↔ Has qs t) → merged ps ≡ merged qs
