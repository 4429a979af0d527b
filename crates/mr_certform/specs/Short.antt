-- A name in few bytes: its three numbers, told from the name before it in its group.
use Rattle.std.specs.Prelude.{◌≡◌, ◌⊎◌, ℕ, zero, suc, ◌+◌, ◌-◌, ◌*◌, ◌/◌, ◌%◌, ◌^◌, ◌<◌, ◌≤◌, ◌&&◌, Option, Some, None, List, [], ◌∷◌, ◌++◌, nat_lt, nat_eq, if◌then◌else◌}
use Rattle.mr_bytes.specs.declared.Name.{Name}

-- ---- a number: seven bits in each byte, the lowest first, and 128 more in all but the last

-- in so many bytes at most
abbrev pub short_bytes : ℕ → ℕ → List ℕ
short_bytes zero n = []
short_bytes (suc k) n = if nat_lt n 128 then n ∷ [] else (128 + n % 128) ∷ short_bytes k (n / 128)

unfoldable pub short : ℕ → List ℕ
short n = short_bytes 5 n

-- a number and the bytes behind it
pub record NumberFront : Type 0 where
  pub number : ℕ
  pub rest : List ℕ

-- the number of a byte that isn't its last, and of those behind; no number ends in 00
abbrev pub with_lowest : ℕ → Option NumberFront → Option NumberFront
with_lowest b None = None
with_lowest b (Some f) = if nat_eq f.number 0 then None else Some (record { number = b % 128 + 128 * f.number; rest = f.rest })

-- the number that stands at the front, in so many bytes at most
abbrev pub short_from : ℕ → List ℕ → Option NumberFront
short_from zero bytes = None
short_from (suc k) [] = None
short_from (suc k) (b ∷ bytes) = if nat_lt b 128 then Some (record { number = b; rest = bytes }) else with_lowest b (short_from k bytes)

-- added to another, where they stay below 2^32
abbrev pub added : ℕ → Option NumberFront → Option NumberFront
added base None = None
added base (Some f) = if nat_lt (base + f.number) (2 ^ 32) then Some (record { number = base + f.number; rest = f.rest }) else None

-- the number behind this one, told by how much greater it is
unfoldable pub short_at : ℕ → List ℕ → Option NumberFront
short_at base bytes = added base (short_from 5 bytes)

-- ---- a name

-- what the record is counted from, where this is the split
abbrev pub record_base : Name → ℕ → ℕ
record_base before split = if nat_eq split before.split then before.rec else 0

-- what the place is counted from, where these are the split and the record
abbrev pub place_base : Name → ℕ → ℕ → ℕ
place_base before split rec = if nat_eq split before.split && nat_eq rec before.rec then before.place else 0

-- the bytes of a name behind the name before
unfoldable pub short_name_bytes : Name → Name → List ℕ
short_name_bytes before name =
    short (name.split - before.split) ++ short (name.rec - record_base before name.split) ++ short (name.place - place_base before name.split name.rec)

-- a name and the bytes behind it
pub record NameFront : Type 0 where
  pub name : Name
  pub rest : List ℕ

-- what is made of a number and the bytes behind it
abbrev pub behind_number : Option NumberFront → (ℕ → List ℕ → Option NameFront) → Option NameFront
behind_number None next = None
behind_number (Some f) next = next f.number f.rest

-- the name of these numbers
abbrev pub named : ℕ → ℕ → ℕ → List ℕ → Option NameFront
named split rec place rest = Some (record { name = record { split = split; rec = rec; place = place }; rest = rest })

-- the place, which stands at the front, and so the name; the same from the record on, and from the split on
abbrev pub from_place : Name → ℕ → ℕ → List ℕ → Option NameFront
from_place before split rec bytes = behind_number (short_at (place_base before split rec) bytes) (named split rec)

abbrev pub from_record : Name → ℕ → List ℕ → Option NameFront
from_record before split bytes = behind_number (short_at (record_base before split) bytes) (from_place before split)

-- the name that stands at the front, behind the name before
unfoldable pub short_name_at : Name → List ℕ → Option NameFront
short_name_at before bytes = behind_number (short_at before.split bytes) (from_record before)

-- the name isn't less than the one before, in the order of the input
abbrev pub IsAtLeast : Name → Name → Type 0
IsAtLeast before name =
    (before.split < name.split)
    ⊎ ((before.split ≡ name.split) × ((before.rec < name.rec) ⊎ ((before.rec ≡ name.rec) × (before.place ≤ name.place))))
