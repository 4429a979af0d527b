-- The bytes of an item at its place, the item that stands at the front of bytes, and the items of bytes.
use Rattle.std.specs.Prelude.{ℕ, zero, suc, ◌+◌, Bool, true, false, ◌&&◌, Option, Some, None, List, [], ◌∷◌, ◌++◌, length, take, drop, nat_lt, nat_le, nat_eq, if◌then◌else◌}
use Rattle.std.specs.Int.{w32, w64, to_be_bytes, from_be_bytes}
use Rattle.std.specs.Cmp.Lexicographic.{pointwise}
use Rattle.mr_bytes.specs.declared.Name.{Name}
use Rattle.mr_bytes.specs.declared.RecordName.{RecordName}
use Rattle.mr_certform.specs.declared.grammar_state.Item.{Item}
use Rattle.mr_certform.specs.declared.grammar_state.Item.TheVariants.{Magic, Job, Flags, LiteralLength, LiteralByte, Parts, SplitSize, Files, FileLength, Skips, Skip, Groups, Entries, Entry, End}
use Rattle.mr_certform.specs.declared.grammar_state.GrammarState.{GrammarState}
use Rattle.mr_certform.specs.declared.grammar_state.GrammarState.TheVariants.{AtMagic, AtJob, AtFlags, AtLiteralLength, AtLiteralByte, AtParts, AtSplitSize, AtFiles, AtFileLength, AtSkips, AtSkip, AtGroups, AtEntries, AtEntry, AtEnd, Behind}
use Rattle.mr_certform.specs.declared.version.Version.{Version}
use Rattle.mr_certform.specs.declared.version.Version.TheVariants.{V1, V2}
use Rattle.mr_certform.specs.Places.{behind, first_name}
use Rattle.mr_certform.specs.Short.{NameFront, short_name_bytes, short_name_at}

-- ---- the bytes of an item at its place

-- a number in four bytes, the highest first
abbrev pub u32 : ℕ → List ℕ
u32 n = to_be_bytes w32 n

-- a number in eight bytes, the highest first
abbrev pub u64 : ℕ → List ℕ
u64 n = to_be_bytes w64 n

-- `MRCERT1` or `MRCERT2`, and a line end
abbrev pub digit : Version → ℕ
digit V1 = 0x31
digit V2 = 0x32

abbrev pub magic : Version → List ℕ
magic v = 0x4d ∷ 0x52 ∷ 0x43 ∷ 0x45 ∷ 0x52 ∷ 0x54 ∷ digit v ∷ 0x0a ∷ []

-- a name, given the name before it in its group: twelve bytes, or as few as tell it apart from that name
abbrev pub name_bytes : Version → Name → Name → List ℕ
name_bytes V1 before n = u32 n.split ++ u32 n.rec ++ u32 n.place
name_bytes V2 before n = short_name_bytes before n

abbrev pub skip_bytes : RecordName → List ℕ
skip_bytes s = u32 s.split ++ u32 s.rec

-- the name before, in the place of an entry
abbrev pub before_of : GrammarState → Name
before_of (AtEntry r g n before) = before
before_of _ = first_name

abbrev pub bytes_at : Version → GrammarState → Item → List ℕ
bytes_at v p Magic = magic v
bytes_at v p (Job n) = u32 n
bytes_at v p (Flags n) = u32 n
bytes_at v p (LiteralLength n) = u32 n
bytes_at v p (LiteralByte b) = b ∷ []
bytes_at v p (Parts n) = u32 n
bytes_at v p (SplitSize n) = u32 n
bytes_at v p (Files n) = u32 n
bytes_at v p (FileLength n) = u64 n
bytes_at v p (Skips n) = u32 n
bytes_at v p (Skip s) = skip_bytes s
bytes_at v p (Groups n) = u32 n
bytes_at v p (Entries n) = u32 n
bytes_at v p (Entry n) = name_bytes v (before_of p) n
bytes_at v p End = []

-- ---- the item that stands at the front of bytes

-- an item and the bytes behind it
pub record Front : Type 0 where
  pub item : Item
  pub rest : List ℕ

-- the item of the number that the first `size` bytes spell; none where they are fewer, or the number isn't allowed
abbrev pub number : ℕ → (List ℕ → ℕ) → (ℕ → Bool) → (ℕ → Item) → List ℕ → Option Front
number size value allowed item bytes =
    if nat_lt (length bytes) size then None
    else (let n = value (take size bytes) in if allowed n then Some (record { item = item n; rest = drop size bytes }) else None)

abbrev pub any : ℕ → Bool
any n = true

abbrev pub number32 : (ℕ → Bool) → (ℕ → Item) → List ℕ → Option Front
number32 = number 4 (from_be_bytes w32)

-- the number of four bytes behind i others
abbrev pub at : List ℕ → ℕ → ℕ
at bytes i = from_be_bytes w32 (take 4 (drop i bytes))

abbrev pub skip_at : List ℕ → RecordName
skip_at bytes = record { split = at bytes 0; rec = at bytes 4 }

abbrev pub name_at : List ℕ → Name
name_at bytes = record { split = at bytes 0; rec = at bytes 4; place = at bytes 8 }

-- the item of so many bytes, if there are as many
abbrev pub of_bytes : ℕ → Item → List ℕ → Option Front
of_bytes size item bytes = if nat_lt (length bytes) size then None else Some (record { item = item; rest = drop size bytes })

abbrev pub entry_of : Option NameFront → Option Front
entry_of None = None
entry_of (Some n) = Some (record { item = Entry n.name; rest = n.rest })

-- the entry behind this name
abbrev pub entry_at : Version → Name → List ℕ → Option Front
entry_at V1 before bytes = of_bytes 12 (Entry (name_at bytes)) bytes
entry_at V2 before bytes = entry_of (short_name_at before bytes)

abbrev pub standing : Version → GrammarState → List ℕ → Option Front
standing v AtMagic bytes = if pointwise nat_eq (take 8 bytes) (magic v) then Some (record { item = Magic; rest = drop 8 bytes }) else None
standing v AtJob bytes = number32 any Job bytes
standing v AtFlags bytes = number32 any Flags bytes
standing v AtLiteralLength bytes = number32 (λ n. nat_le n 4096) LiteralLength bytes
standing v (AtLiteralByte n) [] = None
standing v (AtLiteralByte n) (b ∷ bytes) = Some (record { item = LiteralByte b; rest = bytes })
standing v AtParts bytes = number32 (λ n. nat_le 1 n && nat_le n 1024) Parts bytes
standing v (AtSplitSize r) bytes = number32 any SplitSize bytes
standing v (AtFiles r) bytes = number32 (λ n. nat_le n 1024) Files bytes
standing v (AtFileLength r n) bytes = number 8 (from_be_bytes w64) any FileLength bytes
standing v (AtSkips r) bytes = number32 any Skips bytes
standing v (AtSkip r n) bytes = of_bytes 8 (Skip (skip_at bytes)) bytes
standing v (AtGroups r) bytes = number32 any Groups bytes
standing v (AtEntries r g) bytes = number32 (λ n. nat_le 1 n) Entries bytes
standing v (AtEntry r g n before) bytes = entry_at v before bytes
standing v AtEnd [] = Some (record { item = End; rest = [] })
standing v AtEnd (b ∷ bytes) = None
standing v Behind bytes = None

-- ---- the items of bytes

-- the items that stand from this place on, at most so many
abbrev pub walk : Version → ℕ → GrammarState → List ℕ → List Item
walk v zero p bytes = []
walk v (suc k) p bytes = elim (standing v p bytes) [ None ↦ [] | Some f ↦ f.item ∷ walk v k (behind p f.item) f.rest ]

-- all items that stand from this place on; each but the last has a byte
unfoldable pub items_from : Version → GrammarState → List ℕ → List Item
items_from v p bytes = walk v (length bytes + 1) p bytes

-- the version of bytes, by their magic; which it is where they have none doesn't matter, since no item stands then
abbrev pub version_of : List ℕ → Version
version_of bytes = if pointwise nat_eq (take 8 bytes) (magic V2) then V2 else V1

-- all items that stand, one behind another, from the front
unfoldable pub items_of : List ℕ → List Item
items_of bytes = items_from (version_of bytes) AtMagic bytes

-- ---- a list of items as such

-- the bytes of items in a row, the first of them at this place
abbrev pub bytes_from : Version → GrammarState → List Item → List ℕ
bytes_from v p [] = []
bytes_from v p (i ∷ is) = bytes_at v p i ++ bytes_from v (behind p i) is

-- the place in bytes behind the last item that stands: the length of all items that do
unfoldable pub stop : List ℕ → ℕ
stop bytes = length (bytes_from (version_of bytes) AtMagic (items_of bytes))

-- the last is the end
abbrev pub is_ended : List Item → Bool
is_ended [] = false
is_ended (End ∷ []) = true
is_ended (i ∷ is) = is_ended is

-- what is left behind an item; the end stays
abbrev pub left_behind : Item → List Item → List Item
left_behind End is = []
left_behind i is = is
