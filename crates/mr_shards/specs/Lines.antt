-- Outputs as lines, and the merge of the outputs of shards.
use Rattle.std.specs.Prelude.{◌≡◌, ◌⊎◌, ℕ, ◌<◌, ◌^◌, ◌==◌, Bool, not, if◌then◌else◌, List, [], ◌∷◌, ◌++◌, map, replicate, length}
use Rattle.std.specs.List.{AllByRecursion, list_any}
use Rattle.std.specs.Str.Parse.{digits_value}
use Rattle.std.specs.declared.cmp.Ordering.TheVariants.{Less}
use Rattle.mr_bytes.specs.declared.Value.{Value}
use Rattle.mr_bytes.specs.declared.Value.TheVariants.{One, At}
use Rattle.mr_bytes.specs.Order.{key_order}
use Rattle.mr_jobs.specs.JobSpec.{JobSpec, group_text_of, has_lines}
use Rattle.mr_jobs.specs.declared.job.GroupText.{GroupText}
use Rattle.mr_jobs.specs.declared.job.GroupText.TheVariants.{Count, Lines, Files}
use Rattle.mr_bytes.specs.Lists.{Rises}
use Rattle.std.specs.Ordering.{nat_cmp}
use Rattle.mr_bytes.specs.Cut.{Lacks}
use Rattle.mr_jobs.specs.Url.{before_byte}
use Rattle.mr_shards.specs.Merged.{Group, texts}

-- the first bytes up to a line feed go on with this one
unfoldable pub longer : ℕ → List (List ℕ) → List (List ℕ)
longer b [] = []
longer b (l ∷ ls) = (b ∷ l) ∷ ls

-- the lines of a text, each without its line feed; bytes behind the last line feed are none
unfoldable pub lines : List ℕ → List (List ℕ)
lines [] = []
lines (b ∷ bs) = if b == 10 then [] ∷ lines bs else longer b (lines bs)

-- the bytes end with a line, or there are none
abbrev pub EndsLine : List ℕ → Type 0
EndsLine text = (text ≡ []) ⊎ ((first : List ℕ) × (text ≡ first ++ 10 ∷ []))

abbrev pub has_byte : ℕ → List ℕ → Bool
has_byte b xs = list_any (λ x. x == b) xs

-- the bytes before the last `b`, and those behind it
unfoldable pub before_last : ℕ → List ℕ → List ℕ
before_last b [] = []
before_last b (x ∷ xs) = if has_byte b xs then x ∷ before_last b xs else []

unfoldable pub after_last : ℕ → List ℕ → List ℕ
after_last b [] = []
after_last b (x ∷ xs) = if has_byte b xs then after_last b xs else xs

-- the bytes behind the first `b`
unfoldable pub after_first : ℕ → List ℕ → List ℕ
after_first b [] = []
after_first b (x ∷ xs) = if x == b then xs else after_first b xs

-- a key has one line, and those of several outputs are joined to one
abbrev pub joins : JobSpec → Bool
joins job = not (has_lines job)

-- what stands between commas
unfoldable pub fields : List ℕ → List (List ℕ)
fields [] = [] ∷ []
fields (b ∷ bs) = if b == 44 then [] ∷ fields bs else longer b (fields bs)

abbrev pub numbers_in : List ℕ → List ℕ
numbers_in list = map (digits_value 10) (fields list)

-- a place in each of the files: which one, a line of an index doesn't state
abbrev pub places_in : List ℕ → List Value
places_in files = map (λ file. At file 0) files

-- the values that a line states behind its last tab: so many, a place, or a place in each file of an index
abbrev pub values_in : GroupText → List ℕ → List Value
values_in Count told = replicate (digits_value 10 told) One
values_in Lines told = At (digits_value 10 (before_byte 58 told)) (digits_value 10 (after_first 58 told)) ∷ []
values_in Files told = places_in (numbers_in told)

-- the group that a line tells
abbrev pub group_in : GroupText → List ℕ → Group
group_in form line = record { key = before_last 9 line; values = values_in form (after_last 9 line) }

-- the groups that the lines of a text tell
abbrev pub groups_for : GroupText → List ℕ → List Group
groups_for form text = map (group_in form) (lines text)

-- the groups that the lines of a job's text tell
abbrev pub groups_in : JobSpec → List ℕ → List Group
groups_in job text = groups_for (group_text_of job) text

-- no line feed in the key, and a number that fits in 64 bits, or a place, or a place in each of some files that rise
abbrev pub HasLine : GroupText → Group → Type 0
HasLine Count g = Lacks 10 g.key × (length g.values < 2 ^ 64) × (g.values ≡ replicate (length g.values) One)
HasLine Lines g = Lacks 10 g.key × ((file : ℕ) × (offset : ℕ) × (file < 2 ^ 64) × (offset < 2 ^ 64) × (g.values ≡ At file offset ∷ []))
HasLine Files g = Lacks 10 g.key × ((n : ℕ) × (ns : List ℕ) × Rises nat_cmp (n ∷ ns) × AllByRecursion (λ m. m < 2 ^ 64) (n ∷ ns) × (g.values ≡ places_in (n ∷ ns)))

-- no key is before an earlier one
abbrev pub NoneFalls : List Group → Type 0
NoneFalls [] = Unit {0}
NoneFalls (g ∷ gs) = AllByRecursion (λ h. key_order h.key g.key ≡ Less → ⊥) gs × NoneFalls gs

-- a text of lines has one reading
abbrev pub OneReading : Type 0
OneReading = (job : JobSpec) (gs : List Group) → AllByRecursion (HasLine (group_text_of job)) gs → groups_in job (texts job gs) ≡ gs
