-- What the options of the line ask for.
use Rattle.std.specs.Prelude.{◌≡◌, ◌≢◌, ◌⊎◌, ℕ, ◌^◌, ◌<◌, ◌≤◌, Bool, true, IsSome, Option, List, [], ◌∷◌, length, codes, Contains, if◌then◌else◌, option_map, unwrap_or, ⊤}
use Rattle.std.specs.Option.{ForSome, IsSomeAnd, option_map_or}
use Rattle.std.specs.Str.{bytes_eq}
use Rattle.mr_bytes.specs.declared.By.TheVariants.{Key, Host}
use Rattle.mr_jobs.specs.JobSpec.{JobSpec, WordCount, LinesWith, Resources, InvertedIndex, NthField, RequestSpec, PartsFit, SplitFits}
use Rattle.mr_jobs.specs.Fields.{CannotSeparate, FieldFits, NumberFits}
use Rattle.mr_jobs.specs.declared.job.JobFault.{JobFault}
use Rattle.mr_jobs.specs.declared.job.JobFault.TheVariants as literal_fault
use Rattle.mr_jobs.specs.declared.request.RequestFault.{RequestFault}
use Rattle.mr_jobs.specs.declared.request.RequestFault.TheVariants.{BadParts, BadSplitSize, BadSkips, HostNeedsUrl}
use Rattle.mr_args.specs.declared.fault.Fault.{Fault}
use Rattle.mr_args.specs.declared.fault.Fault.TheVariants.{OtherJobsOption, Job, Request, NoFileForRange, BadRange, OutOfMemory}
use Rattle.mr_args.specs.declared.request.Options.{Options}
use Rattle.mr_args.specs.declared.request.JobKind.{JobKind}
use Rattle.mr_args.specs.declared.request.JobKind.TheVariants.{Words, Grep, Url, Index, Field}

-- the word that names a job
abbrev pub Names : List ℕ → JobKind → Type 0
Names word Words = word ≡ codes "words"
Names word Grep = word ≡ codes "grep"
Names word Url = (word ≢ codes "words") × (word ≢ codes "grep") × (word ≢ codes "index") × (word ≢ codes "field")
Names word Index = word ≡ codes "index"
Names word Field = word ≡ codes "field"

-- the text to look for; none given is no bytes
abbrev pub literal_asked : Options → List ℕ
literal_asked o = option_map_or (λ s. s.now) o.literal []

-- the byte that a text says: its own, or a tab for a backslash and a `t`; any other text says a line feed
abbrev pub byte_said : List ℕ → ℕ
byte_said (b ∷ []) = b
byte_said text = if bytes_eq text (codes "\\t") then 0x09 else 0x0A

-- the byte that separates fields, if one is given
abbrev pub separator_asked : Options → Option ℕ
separator_asked o = option_map (λ s. byte_said s.now) o.separator

-- the number of the field; none given is 0
abbrev pub field_asked : Options → ℕ
field_asked o = unwrap_or o.field 0

-- the job that the options ask for
abbrev pub job_asked : JobKind → Options → JobSpec
job_asked Words o = WordCount o.keep_case
job_asked Grep o = LinesWith (literal_asked o) o.fold
job_asked Url o = Resources
job_asked Index o = InvertedIndex o.keep_case
job_asked Field o = NthField (separator_asked o) (field_asked o)

-- the request that the options ask for
abbrev pub request_asked : Options → RequestSpec
request_asked o = record {
  job = job_asked o.job o;
  by = if o.by_host then Host else Key;
  parts = o.parts;
  split = o.split;
  skips = o.max_skips;
}

-- the case is kept in another job than words and index, lines are folded or a text looked for in another than grep, the
-- host chooses the partition in another than url, or a field or its separator is given in another than field
abbrev pub AsksForOtherJob : Options → Type 0
AsksForOtherJob o = ((o.keep_case ≡ true) × (o.job ≢ Words) × (o.job ≢ Index))
    ⊎ (((o.fold ≡ true) ⊎ IsSome o.literal) × (o.job ≢ Grep))
    ⊎ ((o.by_host ≡ true) × (o.job ≢ Url))
    ⊎ ((IsSome o.field ⊎ IsSome o.separator) × (o.job ≢ Field))

-- what a literal lacks, the first of it
abbrev pub IsLiteralFault : List ℕ → JobFault → Type 0
IsLiteralFault literal literal_fault.EmptyLiteral = literal ≡ []
IsLiteralFault literal literal_fault.LongLiteral = 4096 < length literal
IsLiteralFault literal literal_fault.LineEndInLiteral = (0 < length literal) × (length literal ≤ 4096) × Contains literal 10
IsLiteralFault literal fault = ⊥

-- what the field and its separator lack, the first of it
abbrev pub IsFieldFault : Option ℕ → ℕ → JobFault → Type 0
IsFieldFault separator number literal_fault.BadField = (number ≡ 0) ⊎ (65535 < number)
IsFieldFault separator number literal_fault.BadSeparator = NumberFits number × IsSomeAnd separator (λ s. CannotSeparate s)
IsFieldFault separator number fault = ⊥

-- what the numbers lack, the first of it; a host that belongs to another job is told before
abbrev pub IsNumberFault : RequestSpec → RequestFault → Type 0
IsNumberFault request BadParts = (request.parts ≡ 0) ⊎ (1024 < request.parts)
IsNumberFault request BadSplitSize = PartsFit request.parts × ((request.split ≡ 0) ⊎ (2 ^ 26 < request.split))
IsNumberFault request BadSkips = PartsFit request.parts × SplitFits request.split × (1000 < request.skips)
IsNumberFault request HostNeedsUrl = ⊥

-- the literal of a search has 1 to 4,096 bytes and no line feed; a field has a number from 1 to 65,535, and no digit or line feed separates it
abbrev pub LiteralFits : JobSpec → Type 0
LiteralFits (WordCount keep_case) = ⊤
LiteralFits (LinesWith literal fold) = (0 < length literal) × (length literal ≤ 4096) × ¬ Contains literal 10
LiteralFits Resources = ⊤
LiteralFits (InvertedIndex keep_case) = ⊤
LiteralFits (NthField separator number) = FieldFits separator number

-- the limits of the literal and of the numbers
pub record WithinLimits (request : RequestSpec) : Type 0 where
  pub literal : LiteralFits request.job
  pub parts : PartsFit request.parts
  pub split : SplitFits request.split
  pub skips : request.skips ≤ 1000

-- why the options ask for no job: an option of another job is told before a fault of the literal
abbrev pub IsJobRefusal : Options → Fault → Type 0
IsJobRefusal o OtherJobsOption = AsksForOtherJob o
IsJobRefusal o (Job fault) = ¬ AsksForOtherJob o × (((o.job ≡ Grep) × IsLiteralFault (literal_asked o) fault)
    ⊎ ((o.job ≡ Field) × IsFieldFault (separator_asked o) (field_asked o) fault))
IsJobRefusal o OutOfMemory = ⊤
IsJobRefusal o fault = ⊥

-- why they make no request: faults of the job are told before those of the numbers
abbrev pub IsNumbersRefusal : Options → Fault → Type 0
IsNumbersRefusal o (Request fault) = ¬ AsksForOtherJob o × LiteralFits (request_asked o).job × IsNumberFault (request_asked o) fault
IsNumbersRefusal o fault = IsJobRefusal o fault

-- where there is no file, none is taken from a byte on or up to one; one file isn't taken up to before its first byte
pub record RangeStands (o : Options) : Type 0 where
  pub none : length o.files.items ≡ 0 → (o.from ≡ 0) × ForSome o.to (λ t. t ≡ 0)
  pub one : length o.files.items ≡ 1 → ForSome o.to (λ t. o.from ≤ t)

-- why the range doesn't stand
abbrev pub IsRangeRefusal : Options → Fault → Type 0
IsRangeRefusal o NoFileForRange = (length o.files.items ≡ 0) × ((0 < o.from) ⊎ IsSomeAnd o.to (λ t. 0 < t))
IsRangeRefusal o BadRange = (length o.files.items ≡ 1) × IsSomeAnd o.to (λ t. t < o.from)
IsRangeRefusal o fault = ⊥

-- why they ask for no request: a fault of the range is told behind all others
abbrev pub IsRequestRefusal : Options → Fault → Type 0
IsRequestRefusal o NoFileForRange = ¬ AsksForOtherJob o × WithinLimits (request_asked o) × IsRangeRefusal o NoFileForRange
IsRequestRefusal o BadRange = ¬ AsksForOtherJob o × WithinLimits (request_asked o) × IsRangeRefusal o BadRange
IsRequestRefusal o fault = IsNumbersRefusal o fault
