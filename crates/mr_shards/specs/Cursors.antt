-- Where a merge stands in the outputs of shards.
use Rattle.std.specs.Prelude.{◌≡◌, ◌⊎◌, ℕ, ◌+◌, ◌≤◌, ◌^◌, ◌%◌, nat_lt, is_none, Bool, ◌&&◌, true, false, if◌then◌else◌, List, [], ◌∷◌, ◌++◌, Option, None, Some, IfSome, length, map, slice_index_or, slice_set}
use Rattle.std.specs.Borrow.{Bor}
use Rattle.std.specs.List.{AllByRecursion}
use Rattle.std.specs.Ordering.{is_lt}
use Rattle.std.specs.declared.cmp.Ordering.TheVariants.{Less}
use Rattle.mr_bytes.specs.Order.{key_order}
use Rattle.mr_jobs.specs.JobSpec.{JobSpec, group_text_of}
use Rattle.mr_jobs.specs.declared.job.GroupText.{GroupText}
use Rattle.mr_jobs.specs.declared.job.GroupText.TheVariants.{Count, Lines, Files as Listing}
use Rattle.mr_group.specs.FirstBytes.{AreBytes, first_bytes}
use Rattle.mr_bytes.specs.Cut.{Lacks}
use Rattle.mr_shards.specs.declared.cursor.Cursor.{Cursor}
use Rattle.mr_shards.specs.declared.cursor.Held.{Held}
use Rattle.mr_shards.specs.declared.line.Tally.{Tally}
use Rattle.mr_shards.specs.declared.line.Tally.TheVariants.{Total, Place, Files}
use Rattle.mr_shards.specs.declared.line.Line.{Line}
use Rattle.mr_shards.specs.Merged.{Group, joined, with_group, written}
use Rattle.mr_shards.specs.Lines.{groups_in, joins}
use Rattle.mr_shards.specs.declared.merger.MergeFault.{MergeFault}
use Rattle.mr_shards.specs.Refused.{BlamesOnly, Follows, IsReadOf, IsReadTo, IsRest, IsRestOf, MayFollow, TellsFiles, last_key, lines_read}
use Rattle.mr_shards.specs.Portions.{shifted_group}
use Rattle.mr_shards.specs.Views.{group_of, IsFor}

-- the key of a line is not before that of the last one
abbrev pub DoesNotFall : Option Line → Line → Type 0
DoesNotFall None line = Unit {0}
DoesNotFall (Some last) line = key_order line.key.now last.key.now ≡ Less → ⊥

-- the groups of a line and those behind it
abbrev pub headed : Option Line → List Group → List Group
headed None gs = []
headed (Some l) gs = group_of l ∷ gs

-- what is left of a shard's output
abbrev pub left : JobSpec → Cursor → List Group
left job c = headed c.head (map (shifted_group c.held.before) (groups_in job c.rest.now))

-- with more bytes behind its window
abbrev pub on : Cursor → List ℕ → Cursor
on c more = record {
  head = c.head;
  text = record { ref_ptr = (0, 0); now = c.text.now ++ more };
  rest = record { ref_ptr = (0, 0); now = c.rest.now ++ more };
  held = c.held;
  is_last = c.is_last;
}

-- nothing comes behind the last window
abbrev pub MayGoOn : Bool → List ℕ → Type 0
MayGoOn is_last more = is_last ≡ true → more ≡ []

-- ---- what is held

-- the pairs that a line states, and those of a line of each group; an index has none
abbrev pub pairs_told : Tally → ℕ
pairs_told (Total n) = n
pairs_told (Place file offset) = 1
pairs_told (Files list last moved) = 0

abbrev pub pairs_in : GroupText → Group → ℕ
pairs_in Count g = length g.values
pairs_in Lines g = length g.values
pairs_in Listing g = 0

unfoldable pub all_pairs : JobSpec → List Group → ℕ
all_pairs job [] = 0
all_pairs job (g ∷ gs) = pairs_in (group_text_of job) g + all_pairs job gs

-- the sum, where it fits
abbrev pub with_pairs : Option ℕ → ℕ → Option ℕ
with_pairs None n = None
with_pairs (Some m) n = if nat_lt (m + n) (2 ^ 64) then Some (m + n) else None

-- what is held behind the head
abbrev pub passed_with : Option Line → Held → Held
passed_with None h = h
passed_with (Some l) h = record { before = h.before; count = h.count; lines = (h.lines + 1) % 2 ^ 64; pairs = with_pairs h.pairs (pairs_told l.tally) }

abbrev pub passed : Cursor → Held
passed c = passed_with c.head c.held

-- those of the lines that were taken and those of the lines to come are those of all; or 64 bits don't hold these
abbrev pub IsSum : JobSpec → Option ℕ → List Group → List Group → Type 0
IsSum job None left all = 2 ^ 64 ≤ all_pairs job all
IsSum job (Some n) left all = n + all_pairs job left ≡ all_pairs job all

-- of two lines the one with the lesser key, and of equal keys the first
abbrev pub lesser : Option (ℕ × Line) → ℕ → Option Line → Option (ℕ × Line)
lesser least at None = least
lesser None at (Some line) = Some (at, line)
lesser (Some best) at (Some line) = if is_lt (key_order line.key.now best.1.key.now) then Some (at, line) else Some best

-- the line that is referred to, with its number
abbrev pub line_at : Option (ℕ × Bor Line) → Option (ℕ × Line)
line_at None = None
line_at (Some b) = Some (b.0, b.1.now)

-- among cursors, the first of which has the number `at`
unfoldable pub least_from : Option (ℕ × Line) → ℕ → List Cursor → Option (ℕ × Line)
least_from least at [] = least
least_from least at (c ∷ cs) = least_from (lesser least at c.head) (at + 1) cs

-- the line's number is that of its key's first bytes
abbrev pub HasFront : Line → Type 0
HasFront l = (l.front ≡ first_bytes 8 l.key.now) × AreBytes l.key.now

abbrev pub IsFronted : Option Line → Type 0
IsFronted None = Unit {0}
IsFronted (Some l) = HasFront l

abbrev pub IsFound : Option (ℕ × Line) → Type 0
IsFound None = Unit {0}
IsFound (Some b) = HasFront b.1

-- the key is before that of the next line, and is not behind it
abbrev pub Past : Line → Option Line → Type 0
Past line None = Unit {0}
Past line (Some l) = key_order line.key.now l.key.now ≡ Less

abbrev pub NotBefore : Line → Option Line → Type 0
NotBefore line None = Unit {0}
NotBefore line (Some l) = key_order l.key.now line.key.now ≡ Less → ⊥

-- the next line has another key
abbrev pub Differs : Line → Option Line → Type 0
Differs line None = Unit {0}
Differs line (Some l) = l.key.now ≡ line.key.now → ⊥

-- the line's key is before those of the cursors in front of that place, and is not behind any
pub record AreBeyond (at : ℕ) (line : Line) (cs : List Cursor) : Type 0 where
  pub front : List Cursor
  pub back : List Cursor
  pub is : cs ≡ front ++ back
  pub place : length front ≡ at
  pub past : AllByRecursion (λ c. Past line c.head) front
  pub not_before : AllByRecursion (λ c. NotBefore line c.head) back

-- the cursors stand so behind the last line that was taken
abbrev pub AreBehind : Option (ℕ × Line) → List Cursor → Type 0
AreBehind None cs = Unit {0}
AreBehind (Some b) cs = HasFront b.1 × AreBeyond b.0 b.1 cs

-- the next line is one of the job's, and there is one where bytes are left
abbrev pub IsHead : JobSpec → Option Line → List ℕ → Type 0
IsHead job None rest = rest ≡ []
IsHead job (Some l) rest = IsFor job l.tally × HasFront l

abbrev pub IsHeadFor : JobSpec → Cursor → Type 0
IsHeadFor job c = IsHead job c.head c.rest.now

-- a group is taken behind the one that waits: both are one, of one key; or the one that waited is written, and it stays apart
abbrev pub Goes : JobSpec → Option Group → Group → Group → List ℕ → List ℕ → Type 0
Goes job None g next old new = (next ≡ g) × (new ≡ old)
Goes job (Some w) g next old new =
    ((w.key ≡ g.key) × (next ≡ joined w g) × (new ≡ old))
    ⊎ ((next ≡ g) × (new ≡ old ++ written (group_text_of job) w) × ((w.key ≡ g.key → ⊥) ⊎ (joins job ≡ false)))

-- groups with the one that waits
abbrev pub with_waiting : Option Group → List Group → List Group
with_waiting None gs = gs
with_waiting (Some w) gs = with_group w gs

-- the line of the head is whole in the window, and the rest is behind it
pub record IsWholeHead (job : JobSpec) (c : Cursor) (l : Line) : Type 0 where
  pub kind : IsFor job l.tally
  pub front : HasFront l
  pub line : List ℕ
  pub clear : Lacks 10 line
  pub text_is : c.text.now ≡ line ++ 10 ∷ c.rest.now

-- without a head the last window is at its end
abbrev pub IsHeadOf : JobSpec → Cursor → Option Line → Type 0
IsHeadOf job c None = (c.is_last ≡ true) × (c.text.now ≡ []) × (c.rest.now ≡ [])
IsHeadOf job c (Some l) = IsWholeHead job c l

abbrev pub AreEnded : List Cursor → Type 0
AreEnded cs = AllByRecursion (λ c. c.head ≡ None) cs

abbrev pub are_ended : List Cursor → Bool
are_ended [] = true
are_ended (c ∷ cs) = is_none c.head && are_ended cs

abbrev pub HeadFollows : JobSpec → Option (List ℕ) → Option Line → Type 0
HeadFollows job last None = Unit {0}
HeadFollows job last (Some l) = MayFollow job last l.key.now

-- the cursor is at the first line of the text, behind what is held
pub record IsAtLine (job : JobSpec) (h : Held) (text : List ℕ) (c : Cursor) : Type 0 where
  pub left_is : left job c ≡ map (shifted_group h.before) (groups_in job text)
  pub kind : IsHead job c.head c.rest.now
  pub first : (last : Option (List ℕ)) → Follows job last text → HeadFollows job last c.head
  pub follows : (last : Option (List ℕ)) → HeadFollows job last c.head → Follows job last text
  pub read : (whole : List ℕ) (last : Option (List ℕ)) → IsReadTo job whole last text h.lines → HeadFollows job last c.head → IsReadOf job whole c
  pub stands : IsRest job None text → TellsFiles job h.count text → IsRestOf job c
  pub behind : (last : Option (List ℕ)) → HeadFollows job last c.head → IsRestOf job c → IsRest job last text × TellsFiles job h.count text

-- whatever comes behind the window, the cursor is at its first line
pub record IsOpen (job : JobSpec) (h : Held) (text : List ℕ) (is_last : Bool) (c : Cursor) : Type 0 where
  pub held : c.held ≡ h
  pub text_is : c.text.now ≡ text
  pub last : c.is_last ≡ is_last
  pub head : IsHeadOf job c c.head
  pub at : (more : List ℕ) → MayGoOn is_last more → IsAtLine job h (text ++ more) (on c more)

-- the next line was read, and comes in turn
pub record IsAdvanced (job : JobSpec) (old new : Cursor) : Type 0 where
  pub opened : IsOpen job (passed old) old.rest.now old.is_last new
  pub turn : HeadFollows job (last_key old.head) new.head

-- a line of the cursor's shard is blamed, or none
abbrev pub BlamesNext : JobSpec → ℕ → Cursor → MergeFault → Type 0
BlamesNext job at c e = BlamesOnly job at c.held.count c.held.before (last_key c.head) c.rest.now (lines_read c) e

-- one of the cursors is at its next line
pub record ReadsOn (job : JobSpec) (at : ℕ) (old new : List Cursor) : Type 0 where
  pub one : Cursor
  pub next : Cursor
  pub was : slice_index_or old at one ≡ one
  pub set : new ≡ slice_set old at next
  pub left : left job next ≡ map (shifted_group one.held.before) (groups_in job one.rest.now)
  pub kind : IsHeadFor job next
  pub order : IfSome next.head (λ l. DoesNotFall one.head l)
  pub behind : IsRestOf job next → IsRestOf job one
  pub read : (text : List ℕ) → IsReadOf job text one → IsReadOf job text next
  pub files : (next.held.before ≡ one.held.before) × (next.held.count ≡ one.held.count)
