-- Emitted pairs, each with its name, and their order.
use Rattle.std.specs.Prelude.{ℕ, List}
use Rattle.std.specs.declared.cmp.Ordering.{Ordering}
use Rattle.std.specs.Ordering.{ordering_then}
use Rattle.mr_bytes.specs.declared.Name.{Name}
use Rattle.mr_bytes.specs.declared.Value.{Value}
use Rattle.mr_bytes.specs.Order.{key_order, name_order}

-- an emitted pair with its name
pub record Triple : Type 0 where
  pub key : List ℕ
  pub value : Value
  pub name : Name

-- by key, then by name
abbrev pub pair_order : Triple → Triple → Ordering
pair_order a b = ordering_then (key_order a.key b.key) (name_order a.name b.name)
