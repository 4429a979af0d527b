-- The orders of keys and of names.
use Rattle.std.specs.Prelude.{ℕ, List}
use Rattle.std.specs.declared.cmp.Ordering.{Ordering}
use Rattle.std.specs.Ordering.{nat_cmp, ordering_then}
use Rattle.std.specs.Cmp.Lexicographic.{slice_cmp}
use Rattle.mr_bytes.specs.declared.Name.{Name}
use Rattle.mr_bytes.specs.declared.RecordName.{RecordName}

-- keys are compared byte by byte, and a proper beginning is less
abbrev pub key_order : List ℕ → List ℕ → Ordering
key_order a b = slice_cmp nat_cmp a b

-- by split, then by the record's number
abbrev pub record_order : RecordName → RecordName → Ordering
record_order a b = ordering_then (nat_cmp a.split b.split) (nat_cmp a.rec b.rec)

-- by split, then by the record's number, then by place: the order of the input
abbrev pub name_order : Name → Name → Ordering
name_order a b = ordering_then (nat_cmp a.split b.split) (ordering_then (nat_cmp a.rec b.rec) (nat_cmp a.place b.place))
