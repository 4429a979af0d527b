-- Outputs of shards, merged in rounds over windows.
use Rattle.std.specs.Prelude.{◌≡◌, ◌⊎◌, ℕ, suc, ◌+◌, ◌-◌, ◌<◌, ◌≤◌, Bool, true, false, ◌&&◌, List, [], ◌∷◌, ◌++◌, Option, None, Some, length, map, slice_index_or, take, drop}
use Rattle.std.specs.Str.{bytes_eq}
use Rattle.std.specs.Prelude.{if◌then◌else◌}
use Rattle.std.specs.List.{AllByRecursion}
use Rattle.std.specs.declared.cmp.Ordering.TheVariants.{Less}
use Rattle.mr_bytes.specs.Cut.{Lacks}
use Rattle.mr_bytes.specs.Order.{key_order}
use Rattle.mr_jobs.specs.JobSpec.{JobSpec}
use Rattle.mr_shards.specs.declared.cursor.Cursor.{Cursor}
use Rattle.mr_shards.specs.declared.cursor.Held.{Held}
use Rattle.mr_shards.specs.declared.merger.MergeFault.{MergeFault}
use Rattle.mr_shards.specs.declared.merger.ShardText.{ShardText}
use Rattle.mr_shards.specs.declared.merger.Window.{Window}
use Rattle.mr_shards.specs.declared.shift.ShardFiles.{ShardFiles}
use Rattle.mr_shards.specs.Cursors.{IsHeadFor, IsHeadOf, IsOpen, IsSum, MayGoOn, left, on, with_waiting}
use Rattle.mr_shards.specs.Lines.{NoneFalls, groups_in}
use Rattle.mr_shards.specs.Merged.{Group, texts, written_texts}
use Rattle.mr_shards.specs.Outputs.{IsOutputOfAll, Stands, parts_in}
use Rattle.mr_shards.specs.Portions.{Shift, behind as shift_behind, merged_groups, merged_portions, no_shift, past_shard, shifted_group}
use Rattle.mr_shards.specs.Refused.{AreRead, Blames, Follows, IsReadTo, IsRest, IsRestOf, IsShardText, PassesNot, TellsFiles, count_at, shift_before, text_at, total_of, values_among}
use Rattle.mr_shards.specs.Views.{Waits, WaitsFor}

-- what a merger keeps: of each shard what was taken, and what waits; and of the last round the text, and how many
-- bytes it took of each window
pub record Standing : Type 0 where
  pub held : List Held
  pub waiting : Waits
  pub text : List ℕ
  pub cuts : List ℕ

-- a shard's output, and how many of its bytes were taken
pub record Reading : Type 0 where
  pub output : ShardText
  pub taken : ℕ

abbrev pub outputs_of : List Reading → List ShardText
outputs_of rs = map (λ (r : Reading). r.output) rs

-- the bytes that were not taken
abbrev pub behind : Reading → List ℕ
behind r = drop r.taken r.output.text.now

-- an output with these bytes
abbrev pub output_with : ShardFiles → List ℕ → ShardText
output_with files text = record { files = files; text = record { ref_ptr = (0, 0); now = text } }

-- nothing is taken of outputs of shards with these files
abbrev pub AreFresh : List ShardFiles → List Reading → Type 0
AreFresh [] [] = Unit {0}
AreFresh [] (r ∷ rs) = ⊥
AreFresh (f ∷ fs) [] = ⊥
AreFresh (f ∷ fs) (r ∷ rs) = (r.output.files ≡ f) × (r.taken ≡ 0) × AreFresh fs rs

-- ---- windows

-- a window holds what comes next in the output, and all of it where it is the last
pub record IsWindow (r : Reading) (w : Window) : Type 0 where
  pub more : List ℕ
  pub is : behind r ≡ w.bytes.now ++ more
  pub none_more : MayGoOn w.is_last more

abbrev pub AreWindows : List Reading → List Window → Type 0
AreWindows [] [] = Unit {0}
AreWindows [] (w ∷ ws) = ⊥
AreWindows (r ∷ rs) [] = ⊥
AreWindows (r ∷ rs) (w ∷ ws) = IsWindow r w × AreWindows rs ws

abbrev pub are_last : List Window → Bool
are_last [] = true
are_last (w ∷ ws) = w.is_last && are_last ws

abbrev pub AreWithin : List ℕ → List Window → Type 0
AreWithin [] [] = Unit {0}
AreWithin [] (w ∷ ws) = ⊥
AreWithin (c ∷ cs) [] = ⊥
AreWithin (c ∷ cs) (w ∷ ws) = (c ≤ length w.bytes.now) × AreWithin cs ws

-- so many bytes more were taken
abbrev pub taken_on : List ℕ → List Reading → List Reading
taken_on [] rs = rs
taken_on (c ∷ cs) [] = []
taken_on (c ∷ cs) (r ∷ rs) = record { output = r.output; taken = r.taken + c } ∷ taken_on cs rs

-- ---- where a merge is

-- the values that one group has for a key, and what waits
abbrev pub one_of : List ℕ → Group → ℕ
one_of key g = if bytes_eq g.key key then length g.values else 0

abbrev pub waits_with : List ℕ → Option Group → ℕ
waits_with key None = 0
waits_with key (Some w) = one_of key w

-- no more values of a key wait and are left than the outputs state
abbrev pub IsWithin : JobSpec → List ShardText → List (List Group) → Option Group → Type 0
IsWithin job outputs lefts waiting = (key : List ℕ) → waits_with key waiting + values_among key lefts ≤ total_of job outputs key

-- no key that is left is before the one that waits
abbrev pub IsBelow : Option Group → List (List Group) → Type 0
IsBelow None lefts = Unit {0}
IsBelow (Some w) lefts = AllByRecursion (AllByRecursion (λ (g : Group). key_order g.key w.key ≡ Less → ⊥)) lefts

-- the outputs stand, and what was written, with what waits and the merge of what is left, is what is written of their merge
pub record Told (job : JobSpec) (outputs : List ShardText) (lefts : List (List Group)) (waiting : Option Group) (out : List ℕ) : Type 0 where
  pub stands : AllByRecursion (IsShardText job) outputs
  pub text : out ++ written_texts job (with_waiting waiting (merged_groups lefts)) ≡ written_texts job (merged_portions (parts_in job outputs))
  pub below : IsBelow waiting lefts

-- lines of the job in turn were taken of that output, so many, with so many pairs; the next one may follow
pub record IsReadUpTo (job : JobSpec) (os : List ShardText) (i : ℕ) (h : Held) (r : Reading) : Type 0 where
  pub within : r.taken ≤ length r.output.text.now
  pub last : Option (List ℕ)
  pub read : IsReadTo job (text_at os i) last (behind r) h.lines
  pub follows : Follows job last (behind r)
  pub before : h.before ≡ shift_before os i
  pub count : h.count ≡ count_at os i
  pub pairs : IsSum job h.pairs (groups_in job (behind r)) (groups_in job (text_at os i))

-- what is left stands as an output does
pub record IsStanding (job : JobSpec) (h : Held) (text : List ℕ) : Type 0 where
  pub rest : IsRest job None text
  pub files : TellsFiles job h.count text
  pub in_order : NoneFalls (map (shifted_group h.before) (groups_in job text))

abbrev pub AreStanding : JobSpec → List Held → List Reading → Type 0
AreStanding job [] rs = Unit {0}
AreStanding job (h ∷ hs) [] = Unit {0}
AreStanding job (h ∷ hs) (r ∷ rs) = IsStanding job h (behind r) × AreStanding job hs rs

-- the groups that are left of each output
abbrev pub rests : JobSpec → List Held → List Reading → List (List Group)
rests job [] rs = []
rests job (h ∷ hs) [] = []
rests job (h ∷ hs) (r ∷ rs) = map (shifted_group h.before) (groups_in job (behind r)) ∷ rests job hs rs

abbrev pub AreReadUpTo : JobSpec → List Held → List Reading → Type 0
AreReadUpTo job hs rs = (i : ℕ) (h : Held) (r : Reading) → i < length rs → IsReadUpTo job (outputs_of rs) i (slice_index_or hs i h) (slice_index_or rs i r)

-- so much of each output was taken, and this text was written
pub record IsAfter (job : JobSpec) (rs : List Reading) (text : List ℕ) (m : Standing) : Type 0 where
  pub count : length m.held ≡ length rs
  pub read : AreReadUpTo job m.held rs
  pub waiting : Option Group
  pub waits : WaitsFor job m.waiting waiting
  pub few : IsWithin job (outputs_of rs) (rests job m.held rs) waiting
  pub told : AreStanding job m.held rs → Told job (outputs_of rs) (rests job m.held rs) waiting text

-- ---- what a round does

-- the text is that of all outputs, each of which stands
pub record IsMerged (job : JobSpec) (os : List ShardText) (text : List ℕ) : Type 0 where
  pub stands : AllByRecursion (IsShardText job) os
  pub text_is : text ≡ texts job (merged_portions (parts_in job os))
  pub whole : IsOutputOfAll job os text

abbrev pub no_held : Held
no_held = record { before = no_shift; count = 0; lines = 0; pairs = None }

-- the pairs that the lines taken of that shard state
abbrev pub pairs_held : List Held → ℕ → Option ℕ
pairs_held hs shard = (slice_index_or hs shard no_held).pairs

-- the merger counted the pairs of each output
abbrev pub AreCounted : JobSpec → List ShardText → List Held → Type 0
AreCounted job os hs = (i : ℕ) → i < length os → IsSum job (pairs_held hs i) [] (groups_in job (text_at os i))

-- whatever the outputs are, of which these are windows: behind a round the merger is where it took so much more and wrote what it
-- merged; where all windows are the last, that is the merge of the whole outputs
pub record Merges (job : JobSpec) (ws : List Window) (old new : Standing) : Type 0 where
  pub within : AreWithin new.cuts ws
  pub after : (rs : List Reading) (text : List ℕ) → IsAfter job rs text old → AreWindows rs ws → IsAfter job (taken_on new.cuts rs) (text ++ new.text) new
  pub whole : (rs : List Reading) (text : List ℕ) → IsAfter job rs text old → AreWindows rs ws → are_last ws ≡ true
      → IsMerged job (outputs_of rs) (text ++ new.text) × AreCounted job (outputs_of rs) new.held

-- the bytes are one line and no other whole one
pub record IsOneLine (bytes : List ℕ) : Type 0 where
  pub line : List ℕ
  pub rest : List ℕ
  pub is : bytes ≡ line ++ 10 ∷ rest
  pub clear : Lacks 10 line
  pub no_more : Lacks 10 rest

-- a window that isn't the last has no whole line
abbrev pub HasDry : List Window → Type 0
HasDry [] = ⊥
HasDry (w ∷ ws) = (Lacks 10 w.bytes.now × (w.is_last ≡ false)) ⊎ HasDry ws

-- of some window that isn't the last, all whole lines but one are taken
abbrev pub OneGoes : List Window → List ℕ → Type 0
OneGoes [] cs = ⊥
OneGoes (w ∷ ws) [] = ⊥
OneGoes (w ∷ ws) (c ∷ cs) = ((w.is_last ≡ false) × IsOneLine (drop c w.bytes.now)) ⊎ OneGoes ws cs

-- where one is not the last, and each such one has a whole line
abbrev pub GoesOn : List Window → List ℕ → Type 0
GoesOn ws cuts = are_last ws ≡ false → (HasDry ws → ⊥) → OneGoes ws cuts

-- ---- of no public clause

-- what is held of shards of which nothing is taken
abbrev pub held_from : Shift → List ShardFiles → List Held
held_from s [] = []
held_from s (f ∷ fs) = record { before = s; count = f.count; lines = 0; pairs = Some 0 } ∷ held_from (shift_behind s (past_shard f)) fs

abbrev pub held_for : List ShardFiles → List Held
held_for fs = held_from no_shift fs

-- places don't move so far behind the first of the shards
abbrev pub shift_for : Shift → List ShardFiles → Shift
shift_for s [] = s
shift_for s (f ∷ fs) = shift_for (shift_behind s (past_shard f)) fs

abbrev pub IsTooFar : List ShardFiles → MergeFault → Type 0
IsTooFar fs e = (i : ℕ) × (i < length fs) × PassesNot (shift_for no_shift (take (i + 1) fs)) e

-- each cursor is at the first line of its window
abbrev pub AreOpen : JobSpec → List Held → List Window → List Cursor → Type 0
AreOpen job hs ws cs = (length cs ≡ length ws) × ((i : ℕ) (h : Held) (w : Window) (c : Cursor) → i < length cs
    → IsOpen job (slice_index_or hs i h) (slice_index_or ws i w).bytes.now (slice_index_or ws i w).is_last (slice_index_or cs i c))

abbrev pub AreHeads : JobSpec → List Cursor → Type 0
AreHeads job cs = AllByRecursion (λ c. IsHeadOf job c c.head) cs

-- the cursors with what comes behind their windows
abbrev pub extended : List Cursor → (ℕ → List ℕ) → List Cursor
extended [] f = []
extended (c ∷ cs) f = on c (f 0) ∷ extended cs (λ i. f (suc i))

-- the cursor is behind lines of that output in turn, so many, with so many pairs; the next one may follow
pub record IsAt (job : JobSpec) (whole : List ℕ) (c : Cursor) : Type 0 where
  pub last : Option (List ℕ)
  pub read : IsReadTo job whole last c.text.now c.held.lines
  pub follows : Follows job last c.text.now
  pub left_is : left job c ≡ map (shifted_group c.held.before) (groups_in job c.text.now)
  pub stands : IsRest job None c.text.now → TellsFiles job c.held.count c.text.now → IsRestOf job c
  pub pairs : IsSum job c.held.pairs (left job c) (groups_in job whole)

-- what the merge keeps from line to line
pub record Kept (job : JobSpec) (outputs : List ShardText) (cursors : List Cursor) (waiting : Option Group) (out : List ℕ) : Type 0 where
  pub kinds : AllByRecursion (IsHeadFor job) cursors
  pub read : AreRead job cursors outputs
  pub few : IsWithin job outputs (map (left job) cursors) waiting
  pub told : AllByRecursion (Stands job) cursors → Told job outputs (map (left job) cursors) waiting out

pub record IsGoing (job : JobSpec) (os : List ShardText) (f : ℕ → List ℕ) (cs : List Cursor) (waiting : Option Group) (out : List ℕ) : Type 0 where
  pub kept : Kept job os (extended cs f) waiting out
  pub at : (i : ℕ) (d : Cursor) → i < length cs → IsAt job (text_at os i) (on (slice_index_or cs i d) (f i)) × MayGoOn (slice_index_or cs i d).is_last (f i)

-- the merge goes on from these cursors to those, and writes so much
abbrev pub Goes : JobSpec → List Cursor → List Cursor → Option Group → Option Group → List ℕ → Type 0
Goes job old new waiting next added = (os : List ShardText) (f : ℕ → List ℕ) (text : List ℕ) → IsGoing job os f old waiting text → IsGoing job os f new next (text ++ added)

abbrev pub BlamesGoing : JobSpec → List Cursor → Option Group → MergeFault → Type 0
BlamesGoing job cs waiting e = (os : List ShardText) (f : ℕ → List ℕ) (text : List ℕ) → IsGoing job os f cs waiting text → Blames job os e

-- the cursor is further on in its window
pub record IsFurther (old new : Cursor) : Type 0 where
  pub passed : List ℕ
  pub is : old.text.now ≡ passed ++ new.text.now
  pub last : new.is_last ≡ old.is_last

abbrev pub AreFurther : List Cursor → List Cursor → Type 0
AreFurther [] [] = Unit {0}
AreFurther (o ∷ os) (n ∷ ns) = IsFurther o n × AreFurther os ns
AreFurther _ _ = ⊥

-- behind the line of one cursor's head no other is whole, and its window is not the last
abbrev pub HasDryHead : List Cursor → Type 0
HasDryHead [] = ⊥
HasDryHead (c ∷ cs) = (IsOneLine c.text.now × (c.is_last ≡ false)) ⊎ HasDryHead cs

-- how many bytes of each window are before its cursor
abbrev pub cuts_at : List Window → List Cursor → List ℕ
cuts_at [] cs = []
cuts_at (w ∷ ws) [] = []
cuts_at (w ∷ ws) (c ∷ cs) = (length w.bytes.now - length c.text.now) ∷ cuts_at ws cs

abbrev pub no_cut : Window → ℕ
no_cut w = 0

-- all of an output
abbrev pub whole_window : ShardText → Window
whole_window o = record { bytes = o.text; is_last = true }
