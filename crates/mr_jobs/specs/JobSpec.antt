-- What a job does with a record.
use Rattle.std.specs.Prelude.{◌≡◌, ℕ, ◌+◌, ◌<◌, ◌≤◌, ◌^◌, Bool, true, false, not, if◌then◌else◌, List, [], Contains, Option, length}
use Rattle.mr_bytes.specs.declared.By.{By}
use Rattle.mr_bytes.specs.declared.By.TheVariants.{Key, Host}
use Rattle.mr_jobs.specs.declared.job.GroupText.{GroupText}
use Rattle.mr_jobs.specs.declared.job.GroupText.TheVariants.{Count, Lines, Files}
use Rattle.mr_jobs.specs.declared.job.JobRow.{JobRow}
use Rattle.mr_jobs.specs.Fields.{FieldFits, field_literal}

pub data JobSpec : Type 0 where
  -- count words, by their exact bytes where the flag is true, and else by their folded bytes
  WordCount : Bool → JobSpec
  -- the lines that hold a literal, compared folded where the flag is true
  LinesWith : List ℕ → Bool → JobSpec
  -- count the resources that a log's lines request
  Resources : JobSpec
  -- the files in which each word stands, by its exact bytes where the flag is true, and else by its folded bytes
  InvertedIndex : Bool → JobSpec
  -- count the fields of that number, from 1: between separators of that byte, or without one by gaps of spaces and tabs
  NthField : Option ℕ → ℕ → JobSpec

-- a job with what of a key chooses its partition, the number of partitions, the split size in bytes and how many records it may
-- leave out
pub record RequestSpec : Type 0 where
  pub job : JobSpec
  pub by : By
  pub parts : ℕ
  pub split : ℕ
  pub skips : ℕ

-- the table of jobs: the number and the flags by which a certificate names a job, and what an output holds for a key; flag 1 keeps
-- the case of words, flag 2 folds the case of lines
abbrev pub row_of : JobSpec → JobRow
row_of (WordCount keep_case) = record { number = 1; flags = if keep_case then 1 else 0; text = Count }
row_of (LinesWith literal fold) = record { number = 2; flags = if fold then 2 else 0; text = Lines }
row_of Resources = record { number = 3; flags = 0; text = Count }
row_of (InvertedIndex keep_case) = record { number = 4; flags = if keep_case then 1 else 0; text = Files }
row_of (NthField separator number) = record { number = 5; flags = 0; text = Count }

abbrev pub job_number : JobSpec → ℕ
job_number job = (row_of job).number

abbrev pub job_flags : JobSpec → ℕ
job_flags job = (row_of job).flags

-- what an output holds for a key
abbrev pub group_text_of : JobSpec → GroupText
group_text_of job = (row_of job).text

abbrev pub is_count : GroupText → Bool
is_count Count = true
is_count Lines = false
is_count Files = false

abbrev pub is_lines : GroupText → Bool
is_lines Count = false
is_lines Lines = true
is_lines Files = false

-- the text of a group depends on the number of its values alone
abbrev pub counts : JobSpec → Bool
counts job = is_count (group_text_of job)

-- the text of a group has a line for each value
abbrev pub has_lines : JobSpec → Bool
has_lines job = is_lines (group_text_of job)

-- words are compared folded
abbrev pub folds_words : JobSpec → Bool
folds_words (WordCount keep_case) = not keep_case
folds_words (LinesWith literal fold) = false
folds_words Resources = false
folds_words (InvertedIndex keep_case) = not keep_case
folds_words (NthField separator number) = false

-- the job takes the words of a line
abbrev pub ReadsWords : JobSpec → Type 0
ReadsWords (WordCount keep_case) = Unit {0}
ReadsWords (LinesWith literal fold) = ⊥
ReadsWords Resources = ⊥
ReadsWords (InvertedIndex keep_case) = Unit {0}
ReadsWords (NthField separator number) = ⊥

-- the limits of a request
abbrev pub PartsFit : ℕ → Type 0
PartsFit parts = (1 ≤ parts) × (parts ≤ 1024)

abbrev pub SplitFits : ℕ → Type 0
SplitFits split = (1 ≤ split) × (split ≤ 2 ^ 26)

-- 4 where the host of a key chooses its partition
abbrev pub by_flag : By → ℕ
by_flag Key = 0
by_flag Host = 4

-- the flags of a request: those of its job, and that one
abbrev pub flags_of : RequestSpec → ℕ
flags_of request = job_flags request.job + by_flag request.by

-- only resources have hosts
abbrev pub ByFits : JobSpec → By → Type 0
ByFits job Key = Unit {0}
ByFits job Host = job ≡ Resources

-- its literal, or what names its field
abbrev pub job_literal : JobSpec → List ℕ
job_literal (WordCount keep_case) = []
job_literal (LinesWith literal fold) = literal
job_literal Resources = []
job_literal (InvertedIndex keep_case) = []
job_literal (NthField separator number) = field_literal separator number

-- a literal has 1 to 4,096 bytes, none of them a line feed
pub record LiteralFits (literal : List ℕ) : Type 0 where
  pub some : 0 < length literal
  pub short : length literal ≤ 4096
  pub clear : Contains literal 0x0A → ⊥

-- a job that looks for a literal has one that fits, and one that counts fields a number and a separator that do
abbrev pub JobFits : JobSpec → Type 0
JobFits (WordCount keep_case) = Unit {0}
JobFits (LinesWith literal fold) = LiteralFits literal
JobFits Resources = Unit {0}
JobFits (InvertedIndex keep_case) = Unit {0}
JobFits (NthField separator number) = FieldFits separator number

-- a certificate names the job by this number, these flags and this literal
pub record IsNamed (number flags : ℕ) (literal : List ℕ) (job : JobSpec) : Type 0 where
  pub fits : JobFits job
  pub number_is : job_number job ≡ number
  pub flags_is : job_flags job ≡ flags
  pub literal_is : job_literal job ≡ literal
