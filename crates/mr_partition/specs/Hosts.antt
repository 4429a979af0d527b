-- The host of a key that is a resource with one: by it, or by the whole key, a partition is chosen.
use Rattle.std.specs.Prelude.{ℕ, Bool, ◌||◌, ◌==◌, if◌then◌else◌, Option, None, Some, List, [], ◌∷◌, codes}
use Rattle.mr_bytes.specs.Bytes.{fold_byte, folded}
use Rattle.mr_bytes.specs.declared.By.{By}
use Rattle.mr_bytes.specs.declared.By.TheVariants.{Key, Host}
use Rattle.mr_partition.specs.Partition.{partition_of}

-- what stands behind a front in any case of ASCII, if the bytes begin with it; the front has no upper-case letters
abbrev pub behind : List ℕ → List ℕ → Option (List ℕ)
behind [] bytes = Some bytes
behind (c ∷ front) [] = None
behind (c ∷ front) (b ∷ bytes) = if fold_byte b == c then behind front bytes else None

-- the host of a resource ends at `/`, `:`, `?` or `#`
abbrev pub ends_host : ℕ → Bool
ends_host b = (b == 0x2F) || ((b == 0x3A) || ((b == 0x3F) || (b == 0x23)))

-- the bytes before the first of these
abbrev pub before_end : List ℕ → List ℕ
before_end [] = []
before_end (b ∷ bytes) = if ends_host b then [] else b ∷ before_end bytes

abbrev pub host_in : Option (List ℕ) → Option (List ℕ) → List ℕ
host_in (Some rest) other = before_end rest
host_in None (Some rest) = before_end rest
host_in None None = []

-- the host as it stands in the key
abbrev pub host_bytes : List ℕ → List ℕ
host_bytes key = host_in (behind (codes "http://") key) (behind (codes "https://") key)

-- the host of a key, without upper-case letters; none where the key names none
abbrev pub host : List ℕ → List ℕ
host key = folded (host_bytes key)

-- the partition of a key, by the key itself or by its host
abbrev pub partition_by : By → List ℕ → ℕ → ℕ
partition_by Key key parts = partition_of key parts
partition_by Host key parts = partition_of (host key) parts
