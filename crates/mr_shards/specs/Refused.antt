-- What outputs are taken, and what a refused one is not.
use Rattle.std.specs.Prelude.{◌≡◌, ℕ, ◌+◌, ◌<◌, ◌≤◌, ◌^◌, ◌%◌, if◌then◌else◌, true, List, [], ◌∷◌, ◌++◌, Option, None, Some, length, map, slice_index_or, sum_by, take, ◌⊎◌}
use Rattle.std.specs.Str.{bytes_eq}
use Rattle.std.specs.List.{AllByRecursion}
use Rattle.std.specs.declared.cmp.Ordering.TheVariants.{Less, Equal}
use Rattle.mr_bytes.specs.Order.{key_order}
use Rattle.mr_bytes.specs.declared.Value.{Value}
use Rattle.mr_bytes.specs.declared.Value.TheVariants.{At}
use Rattle.mr_bytes.specs.Lists.{Has}
use Rattle.mr_jobs.specs.JobSpec.{JobSpec}
use Rattle.mr_bytes.specs.Cut.{Lacks}
use Rattle.mr_shards.specs.declared.cursor.Cursor.{Cursor}
use Rattle.mr_shards.specs.declared.merger.MergeFault.{MergeFault}
use Rattle.mr_shards.specs.declared.merger.MergeFault.TheVariants.{BadLine, TotalTooLarge, TooManyFiles, NoSuchFile, PlaceTooFar, OutOfMemory}
use Rattle.mr_shards.specs.declared.line.Line.{Line}
use Rattle.mr_shards.specs.declared.line.Tally.{Tally}
use Rattle.mr_shards.specs.declared.line.Tally.TheVariants.{Total, Place, Files}
use Rattle.mr_shards.specs.declared.merger.ShardText.{ShardText}
use Rattle.mr_shards.specs.Merged.{Group, group_text, texts}
use Rattle.mr_shards.specs.Lines.{groups_in, joins}
use Rattle.mr_shards.specs.Portions.{Shift, behind, no_shift, past_shard, shifted_start}
use Rattle.mr_shards.specs.Views.{IsParsed, values_of}

-- a key may stand behind the last one: where a key has one line it is greater, and else not less
abbrev pub MayFollow : JobSpec → Option (List ℕ) → List ℕ → Type 0
MayFollow job None key = Unit {0}
MayFollow job (Some last) key = (key_order key last ≡ Less → ⊥) × (joins job ≡ true → key_order key last ≡ Equal → ⊥)

-- a line of the job stands for the group
pub record IsLineOf (job : JobSpec) (g : Group) : Type 0 where
  pub tally : Tally
  pub told : List ℕ
  pub clear : Lacks 10 g.key
  pub tells : IsParsed job tally told
  pub values : g.values ≡ values_of tally

abbrev pub InTurn : JobSpec → Option (List ℕ) → List Group → Type 0
InTurn job last [] = Unit {0}
InTurn job last (g ∷ gs) = MayFollow job last g.key × InTurn job (Some g.key) gs

-- a text of lines of the job, with keys in turn behind the last one
pub record IsRest (job : JobSpec) (last : Option (List ℕ)) (text : List ℕ) : Type 0 where
  pub groups : List Group
  pub text_is : text ≡ texts job groups
  pub lines : AllByRecursion (IsLineOf job) groups
  pub in_turn : InTurn job last groups

abbrev pub last_key : Option Line → Option (List ℕ)
last_key None = None
last_key (Some l) = Some l.key.now

-- each place among the values is in one of so many files
abbrev pub AreInFiles : ℕ → List Value → Type 0
AreInFiles count vs = (file offset : ℕ) → Has vs (At file offset) → file < count

-- each place that the lines of a text tell
abbrev pub TellsFiles : JobSpec → ℕ → List ℕ → Type 0
TellsFiles job count text = AllByRecursion (λ (g : Group). AreInFiles count g.values) (groups_in job text)

-- lines of the job, with keys in turn, and places in files that the shard has
abbrev pub IsShardText : JobSpec → ShardText → Type 0
IsShardText job o = IsRest job None o.text.now × TellsFiles job o.files.count o.text.now

abbrev pub IsRestOf : JobSpec → Cursor → Type 0
IsRestOf job c = IsRest job (last_key c.head) c.rest.now × TellsFiles job c.held.count c.rest.now

-- the key of the last of the groups, or the one before them
abbrev pub last_of : Option (List ℕ) → List Group → Option (List ℕ)
last_of last [] = last
last_of last (g ∷ gs) = last_of (Some g.key) gs

-- lines of the job, with keys in turn, stand in front of the rest of the text, so many of them, the last with that key
-- where bytes are left; their number has 64 bits
pub record IsReadTo (job : JobSpec) (text : List ℕ) (last : Option (List ℕ)) (rest : List ℕ) (number : ℕ) : Type 0 where
  pub groups : List Group
  pub text_is : text ≡ texts job groups ++ rest
  pub lines : AllByRecursion (IsLineOf job) groups
  pub in_turn : InTurn job None groups
  pub last_is : (rest ≡ [] → ⊥) → last_of None groups ≡ last
  pub number_is : number ≡ length groups % 2 ^ 64

-- how many lines were read: those that were taken, and the next one
abbrev pub lines_with : Option Line → ℕ → ℕ
lines_with None lines = lines
lines_with (Some l) lines = (lines + 1) % 2 ^ 64

abbrev pub lines_read : Cursor → ℕ
lines_read c = lines_with c.head c.held.lines

abbrev pub IsReadOf : JobSpec → List ℕ → Cursor → Type 0
IsReadOf job text c = IsReadTo job text (last_key c.head) c.rest.now (lines_read c)

-- no line of the job that may follow stands in front of the text
abbrev pub NoLineFollows : JobSpec → Option (List ℕ) → List ℕ → Type 0
NoLineFollows job last text = (g : Group) (more : List ℕ) → IsLineOf job g → MayFollow job last g.key → text ≡ group_text job g ++ more → ⊥

-- the lines of the text up to this one are lines of the job, with keys in turn, and what stands behind them begins with
-- none that may follow
pub record IsBadLine (job : JobSpec) (text : List ℕ) (line : ℕ) : Type 0 where
  pub last : Option (List ℕ)
  pub rest : List ℕ
  pub before : IsReadTo job text last rest line
  pub some : rest ≡ [] → ⊥
  pub bad : NoLineFollows job last rest

-- how many values the groups have for a key, in one list and in many
unfoldable pub values_with : List ℕ → List Group → ℕ
values_with key [] = 0
values_with key (g ∷ gs) = (if bytes_eq g.key key then length g.values else 0) + values_with key gs

unfoldable pub values_among : List ℕ → List (List Group) → ℕ
values_among key [] = 0
values_among key (gs ∷ gss) = values_with key gs + values_among key gss

-- how many values the outputs tell of a key
abbrev pub total_of : JobSpec → List ShardText → List ℕ → ℕ
total_of job os key = values_among key (map (λ (o : ShardText). groups_in job o.text.now) os)

-- how many files the outputs are of; one that is cut counts once
abbrev pub files_in : List ShardText → ℕ
files_in os = sum_by (λ (o : ShardText). (past_shard o.files).files) os

-- how far places are moved behind the outputs, and those of the output of that number
abbrev pub shift_from : Shift → List ShardText → Shift
shift_from s [] = s
shift_from s (o ∷ os) = shift_from (behind s (past_shard o.files)) os

abbrev pub shift_before : List ShardText → ℕ → Shift
shift_before os i = shift_from no_shift (take i os)

-- why a place is not moved, in a shard of that number with so many files: it has no such file; or it has, and the number of the
-- moved file doesn't fit in 32 bits, or the moved offset in 64
abbrev pub IsBadPlace : ℕ → ℕ → Shift → MergeFault → ℕ → ℕ → Type 0
IsBadPlace at count before (BadLine shard line) file offset = ⊥
IsBadPlace at count before TotalTooLarge file offset = ⊥
IsBadPlace at count before TooManyFiles file offset = (file < count) × (2 ^ 32 ≤ before.files + file)
IsBadPlace at count before (NoSuchFile shard) file offset = (shard ≡ at) × (count ≤ file)
IsBadPlace at count before PlaceTooFar file offset = (file < count) × (2 ^ 64 ≤ shifted_start before file offset)
IsBadPlace at count before OutOfMemory file offset = ⊥

abbrev pub IsUnmoved : ℕ → ℕ → Shift → Tally → MergeFault → Type 0
IsUnmoved at count before (Total n) e = ⊥
IsUnmoved at count before (Place file offset) e = IsBadPlace at count before e file offset
IsUnmoved at count before (Files list last moved) e = IsBadPlace at count before e last 0

-- the first line of the text, if it begins with one, may follow
abbrev pub Follows : JobSpec → Option (List ℕ) → List ℕ → Type 0
Follows job last text = (g : Group) (more : List ℕ) → IsLineOf job g → text ≡ group_text job g ++ more → MayFollow job last g.key

-- behind lines of the job stands one that tells such a place
pub record TellsPlace (job : JobSpec) (text : List ℕ) (is_so : ℕ → ℕ → Type 0) : Type 0 where
  pub before : List Group
  pub line : Group
  pub rest : List ℕ
  pub file : ℕ
  pub offset : ℕ
  pub text_is : text ≡ texts job before ++ (group_text job line ++ rest)
  pub lines : AllByRecursion (IsLineOf job) before
  pub is_line : IsLineOf job line
  pub place : Has line.values (At file offset)
  pub so : is_so file offset

-- nothing is moved so far
abbrev pub PassesNot : Shift → MergeFault → Type 0
PassesNot s (BadLine shard line) = ⊥
PassesNot s TotalTooLarge = ⊥
PassesNot s TooManyFiles = 2 ^ 32 ≤ s.files
PassesNot s (NoSuchFile shard) = ⊥
PassesNot s PlaceTooFar = 2 ^ 64 ≤ s.bytes
PassesNot s OutOfMemory = ⊥

-- two totals of one key, which together don't fit
abbrev pub Overflows : Option Group → Group → Type 0
Overflows None g = ⊥
Overflows (Some w) g = (w.key ≡ g.key) × (2 ^ 64 ≤ length w.values + length g.values)

-- the values of a line are not added to what waits: only where there is a total and both don't fit
abbrev pub IsUnadded : ℕ → Tally → MergeFault → Type 0
IsUnadded total more (BadLine shard line) = ⊥
IsUnadded total more TotalTooLarge = (0 < total) × (2 ^ 64 ≤ total + length (values_of more))
IsUnadded total more TooManyFiles = ⊥
IsUnadded total more (NoSuchFile shard) = ⊥
IsUnadded total more PlaceTooFar = ⊥
IsUnadded total more OutOfMemory = Unit {0}

-- no line is blamed, and a total only where it doesn't fit
abbrev pub TakesNot : Option Group → Group → MergeFault → Type 0
TakesNot waiting g (BadLine shard at) = ⊥
TakesNot waiting g TotalTooLarge = Overflows waiting g
TakesNot waiting g TooManyFiles = ⊥
TakesNot waiting g (NoSuchFile shard) = ⊥
TakesNot waiting g PlaceTooFar = ⊥
TakesNot waiting g OutOfMemory = Unit {0}

-- a line is blamed only in that shard, by its number there, and only where what is left begins with no line that may follow;
-- and a place only where a line that is left tells it
abbrev pub BlamesOnly : JobSpec → ℕ → ℕ → Shift → Option (List ℕ) → List ℕ → ℕ → MergeFault → Type 0
BlamesOnly job at count before last text number (BadLine shard line) = (shard ≡ at) × (line ≡ number) × (text ≡ [] → ⊥) × NoLineFollows job last text
BlamesOnly job at count before last text number TotalTooLarge = ⊥
BlamesOnly job at count before last text number TooManyFiles = TellsPlace job text (IsBadPlace at count before TooManyFiles)
BlamesOnly job at count before last text number (NoSuchFile shard) = TellsPlace job text (IsBadPlace at count before (NoSuchFile shard))
BlamesOnly job at count before last text number PlaceTooFar = TellsPlace job text (IsBadPlace at count before PlaceTooFar)
BlamesOnly job at count before last text number OutOfMemory = Unit {0}

-- the bytes of an output by its number
abbrev pub text_at : List ShardText → ℕ → List ℕ
text_at os i = slice_index_or (map (λ (o : ShardText). o.text.now) os) i []

-- how many files the shard of that output has
abbrev pub count_at : List ShardText → ℕ → ℕ
count_at os i = slice_index_or (map (λ (o : ShardText). o.files.count) os) i 0

-- a line of some output tells a place that is not moved for this reason
abbrev pub HasBadPlace : JobSpec → List ShardText → MergeFault → Type 0
HasBadPlace job os e = (shard : ℕ) × TellsPlace job (text_at os shard) (IsBadPlace shard (count_at os shard) (shift_before os shard) e)

-- a line is blamed only where it is the first of that shard's output that doesn't stand, so that the output isn't lines of
-- the job with keys in turn; a total only where the outputs tell 2^64 values or more of some key; the number of files only
-- where 32 bits don't hold that of all; a file only where a line of that shard tells it, and the shard has fewer; and an
-- offset only where 64 bits don't hold that which a line tells, or the bytes of a file before a shard that goes on with it
abbrev pub Blames : JobSpec → List ShardText → MergeFault → Type 0
Blames job os (BadLine shard line) = IsBadLine job (text_at os shard) line × (IsRest job None (text_at os shard) → ⊥)
Blames job os TotalTooLarge = (key : List ℕ) × (2 ^ 64 ≤ total_of job os key)
Blames job os TooManyFiles = 2 ^ 32 ≤ files_in os
Blames job os (NoSuchFile shard) = HasBadPlace job os (NoSuchFile shard)
Blames job os PlaceTooFar = ((shard : ℕ) × (2 ^ 64 ≤ (shift_before os shard).bytes)) ⊎ HasBadPlace job os PlaceTooFar
Blames job os OutOfMemory = Unit {0}

-- what was read of that output, and how its places are moved
abbrev pub IsReadAt : JobSpec → List ShardText → ℕ → Cursor → Type 0
IsReadAt job os i c = IsReadOf job (text_at os i) c × (c.held.before ≡ shift_before os i) × (c.held.count ≡ count_at os i)

-- and of each
abbrev pub AreRead : JobSpec → List Cursor → List ShardText → Type 0
AreRead job cs os = (i : ℕ) (d : Cursor) → i < length cs → IsReadAt job os i (slice_index_or cs i d)
