-- Pairs put together by key: each key once, with its pairs (OSDI 2004, section 4.2).
use Rattle.std.specs.Prelude.{◌≡◌, ◌↔◌, ℕ, zero, suc, ◌<◌, ◌≤◌, All, List, [], filter, length, map, slice_index, slice_index_or, slice_range}
use Rattle.std.specs.List.{range_with_len}
use Rattle.std.specs.Str.{bytes_eq}
use Rattle.mr_bytes.specs.Lists.{Has, Rises}
use Rattle.mr_bytes.specs.Order.{key_order}
use Rattle.mr_bytes.specs.Pairs.{Triple}
use Rattle.mr_group.specs.Interner.{key_at}
use Rattle.mr_spill.specs.Entries.{Entry, under_key}

-- a key with its pairs
pub record Group : Type 0 where
  pub key : List ℕ
  pub pairs : List Triple

abbrev pub pairs_of : Group → List Triple
pairs_of g = g.pairs

-- a group that stands for none, and that at a place, from 0
abbrev pub no_group : Group
no_group = record { key = []; pairs = [] }

abbrev pub nth_group : List Group → ℕ → Group
nth_group gs g = slice_index_or gs g no_group

-- the pairs of a key, and the key with them
abbrev pub under : List Triple → List ℕ → List Triple
under ts key = filter (λ t. bytes_eq t.key key) ts

abbrev pub group_of : List Triple → List ℕ → Group
group_of ts key = record { key = key; pairs = under ts key }

-- the keys of pairs rise, each once, and each has its pairs in the order given
pub record AreGrouped (ts : List Triple) (gs : List Group) : Type 0 where
  pub keys : List (List ℕ)
  pub are : gs ≡ map (group_of ts) keys
  pub rise : Rises key_order keys
  pub own : (k : List ℕ) → Has keys k ↔ Has (map (λ t. t.key) ts) k

-- ---- Of no public promise: how they are kept, and how they come about.

-- parts of a list stand one behind another: where part `i` begins, given where each ends, and the part
abbrev pub begin_of : List ℕ → ℕ → ℕ
begin_of ends zero = 0
begin_of ends (suc i) = slice_index ends i

abbrev pub piece : {X : Type 0} → List X → List ℕ → ℕ → List X
piece xs ends i = slice_range xs (begin_of ends i) (slice_index ends i)

-- none ends before it begins, or past so many items
abbrev pub AreWithin : ℕ → List ℕ → Type 0
AreWithin room ends = (i : ℕ) → i < length ends → (begin_of ends i ≤ slice_index ends i) × (slice_index ends i ≤ room)

-- the parts of the bytes are these keys, and there is nothing behind them
pub record ArePieces (bytes : List ℕ) (ends : List ℕ) (keys : List (List ℕ)) : Type 0 where
  pub count : length ends ≡ length keys
  pub within : AreWithin (length bytes) ends
  pub each : (i : ℕ) → i < length ends → piece bytes ends i ≡ key_at keys i
  pub all : begin_of ends (length ends) ≡ length bytes

-- group `i`, and all
abbrev pub group_at : List ℕ → List ℕ → List Entry → List ℕ → ℕ → Group
group_at bytes key_ends es ends i =
    record { key = piece bytes key_ends i; pairs = map (under_key (piece bytes key_ends i)) (piece es ends i) }

abbrev pub stored : List ℕ → List ℕ → List Entry → List ℕ → List Group
stored bytes key_ends es ends = map (group_at bytes key_ends es ends) (range_with_len 0 (length ends))

-- all entries are those of keys, and no key is without any
pub record AreStored (bytes key_ends : List ℕ) (es : List Entry) (ends : List ℕ) : Type 0 where
  pub same : length key_ends ≡ length ends
  pub keys : AreWithin (length bytes) key_ends
  pub entries : AreWithin (length es) ends
  pub some : (i : ℕ) → i < length ends → begin_of ends i < slice_index ends i
  pub all : begin_of ends (length ends) ≡ length es

-- ranks of keys that differ, each of at least one pair
pub record AreRanks (keys : List (List ℕ)) (ranks : List ℕ) : Type 0 where
  pub inside : All (λ r. r < length keys) ranks
  pub used : (r : ℕ) → r < length keys → Has ranks r
  pub apart : (j k : ℕ) → j < k → k < length keys → key_at keys j ≡ key_at keys k → ⊥
