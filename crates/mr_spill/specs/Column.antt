-- Pairs in their order.
use Rattle.std.specs.Prelude.{ℕ, List, [], map, slice_index_or}
use Rattle.mr_bytes.specs.declared.Name.{Name}
use Rattle.mr_bytes.specs.declared.Value.TheVariants.{One}
use Rattle.mr_bytes.specs.Pairs.{Triple}

-- a pair that stands for none
abbrev pub no_pair : Triple
no_pair = record { key = []; value = One; name = record { split = 0; rec = 0; place = 0 } }

-- pair `i`, from 0
abbrev pub nth_pair : List Triple → ℕ → Triple
nth_pair ts i = slice_index_or ts i no_pair

abbrev pub names_of : List Triple → List Name
names_of ts = map (λ t. t.name) ts
