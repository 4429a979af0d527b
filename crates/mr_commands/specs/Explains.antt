-- What `explain` prints, over the files of a store.
use Rattle.std.specs.Prelude.{◌≡◌, ◌⊎◌, ℕ, ◌+◌, ◌==◌, Option, None, Some, List, [], ◌∷◌, ◌++◌, codes, count_by, length, map, option_map, slice_index_or, ⊤, string_bytes}
use Rattle.std.specs.Io.KnownBytes.{Consumes}
use Rattle.mr_partition.specs.Hosts.{partition_by}
use Rattle.mr_jobs.specs.JobSpec.{RequestSpec}
use Rattle.mr_store.specs.Devices.{Seen, counted, flushed, with_bytes}
use Rattle.mr_sequential.specs.Skips.{skip_fault}
use Rattle.mr_files.specs.Holding.{Agrees as AgreesWith, Faulty, Stored}
use Rattle.mr_files.specs.Identities.{Known}
use Rattle.mr_files.specs.Names.{name_of_part}
use Rattle.mr_explain.specs.Compared.{Answer, Agrees, Differs, NoLine, comparison}
use Rattle.mr_explain.specs.Explained.{explanation, feeds_before}
use Rattle.mr_explain.specs.Group.{expected_text, group_values}
use Rattle.mr_explain.specs.declared.query.Query.{Query}
use Rattle.mr_explain.specs.declared.query.SourceFile.{SourceFile}
use Rattle.mr_explain.specs.declared.query.Wanted.{Wanted}
use Rattle.mr_explain.specs.declared.query.Wanted.TheVariants.{Key, Nothing}
use Rattle.mr_args.specs.declared.fault.Fault.{Fault}
use Rattle.mr_args.specs.declared.fault.Fault.TheVariants.{CannotRead, CannotPrint, OutOfMemory}
use Rattle.mr_args.specs.declared.request.ExplainOptions.{ExplainOptions}
use Rattle.mr_args.specs.declared.request.Options.{Options}
use Rattle.mr_args.specs.Asked.{request_asked}
use Rattle.mr_args.specs.SkipList.{SpellsNames}
use Rattle.mr_commands.specs.Answers.{IsWorkRefusal}
use Rattle.mr_commands.specs.Inputs.{IsInput}
use Rattle.mr_commands.specs.Named.{input_names, stretch_of}

-- ---- what is asked of the input

-- what stands under the name has so many line feeds before a place
abbrev pub HasFeeds : Stored → List ℕ → ℕ → ℕ → Type 0
HasFeeds holds name place n = (file : List ℕ) × holds name file × (n ≡ feeds_before file place)

-- a front of what a reader gave was read, but for so many bytes, and its line feeds counted
pub record HasCounted (known left : Option (List ℕ)) (most lacking feeds : ℕ) : Type 0 where
  pub front : List ℕ
  pub consumed : Consumes known left front
  pub count : length front + lacking ≡ most
  pub feeds_are : feeds ≡ count_by (λ b. b == 0x0A) front

-- what a reader gave has so many line feeds before a place
abbrev pub GaveFeeds : Option (List ℕ) → ℕ → ℕ → Type 0
GaveFeeds known place n = (bytes : List ℕ) × AgreesWith known bytes × (n ≡ feeds_before bytes place)

-- the name of the first file
abbrev pub first_name : Options → List ℕ
first_name o = slice_index_or (input_names o) 0 []

-- the first file has so many lines before what is taken of it
abbrev pub AreLinesBefore : Stored → Options → ℕ → Type 0
AreLinesBefore holds o n = ((o.from ≡ 0) × (n ≡ 0)) ⊎ HasFeeds holds (first_name o) o.from n

-- how a file is printed: its name, and the lines and bytes before what is taken of it
abbrev pub source_told : SourceFile → List ℕ × ℕ × ℕ
source_told s = (s.name.now, s.lines_before, s.bytes_before)

-- how files are printed; only the first may begin inside
abbrev pub sources_from : ℕ → ℕ → List (List ℕ) → List (List ℕ × ℕ × ℕ)
sources_from lines bytes [] = []
sources_from lines bytes (n ∷ ns) = (n, lines, bytes) ∷ sources_from 0 0 ns

-- the key is looked for, or, without one, the records that give nothing
abbrev pub IsSought : Option (List ℕ) → Wanted → Type 0
IsSought (Some key) (Key k) = k.now ≡ key
IsSought None Nothing = ⊤
IsSought _ _ = ⊥

-- the query that is asked for, over what stands under the names of the input
pub record IsQueryOf (holds : Stored) (o : ExplainOptions) (q : Query) : Type 0 where
  pub files : List (List ℕ)
  pub lines : ℕ
  pub input : IsInput holds (stretch_of o.options) o.options.split files
  pub before : AreLinesBefore holds o.options lines
  pub job : q.job.now ≡ (request_asked o.options).job
  pub size : q.plan.now.size ≡ o.options.split
  pub files_are : q.plan.now.files ≡ files
  pub spelled : SpellsNames o.skips.now q.skips.now
  pub allowed : skip_fault (request_asked o.options) files q.skips.now ≡ None
  pub sources : map source_told q.sources.now ≡ sources_from lines o.options.from (input_names o.options)
  pub sought : IsSought (option_map (λ s. s.now) o.key) q.wanted
  pub limit : q.limit ≡ o.limit

-- ---- what is said of a result

-- the name of the part that has the key's lines
abbrev pub part_of_key : RequestSpec → List ℕ → List ℕ → List ℕ
part_of_key request dir key = name_of_part dir (partition_by request.by key request.parts)

-- this part is compared: the key's, where a directory and a key are given
abbrev pub IsComparedPart : Stored → RequestSpec → Option (List ℕ) → Option (List ℕ) → Option (List ℕ) → Type 0
IsComparedPart holds request (Some dir) (Some key) (Some part) = holds (part_of_key request dir key) part
IsComparedPart holds request (Some dir) (Some key) None = ⊥
IsComparedPart holds request (Some dir) None part = part ≡ None
IsComparedPart holds request None key part = part ≡ None

-- what is said of the key's lines
abbrev pub line_said : Answer → List ℕ
line_said Agrees = codes "agrees\n"
line_said (Differs line) = codes "differs: " ++ line ++ 10 ∷ []
line_said NoLine = codes "differs: no line\n"

abbrev pub status_said : Answer → ℕ
status_said Agrees = 0
status_said (Differs line) = 1
status_said NoLine = 1

-- the key's lines in a part, compared with the text of its group
abbrev pub answer_in : Query → List ℕ → List ℕ → Answer
answer_in q key part = comparison part key (expected_text q.job.now key (group_values q key))

-- the text behind the evidence, and the status: nothing and 0 where no part is compared
abbrev pub Compares : Query → Wanted → Option (List ℕ) → List ℕ → ℕ → Type 0
Compares q (Key key) (Some part) text status = (text ≡ line_said (answer_in q key.now part)) × (status ≡ status_said (answer_in q key.now part))
Compares q (Key key) None text status = (text ≡ []) × (status ≡ 0)
Compares q Nothing part text status = (text ≡ []) × (status ≡ 0)

-- ---- what `explain` answers

-- where it answers: the evidence for what is asked, and then what is said of the part, were printed and flushed
pub record AnswersExplain (holds : Stored) (o : ExplainOptions) (before after : Seen) (status : ℕ) : Type 0 where
  pub query : Query
  pub part : Option (List ℕ)
  pub text : List ℕ
  pub asked : IsQueryOf holds o query
  pub compared : IsComparedPart holds (request_asked o.options) (option_map (λ s. s.now) o.result) (option_map (λ s. s.now) o.key) part
  pub said : Compares query query.wanted part text status
  pub printed : after ≡ flushed (with_bytes before (explanation query ++ text))

-- the file of that name can't be read
abbrev pub ReportsUnread : Faulty → List ℕ → Fault → Type 0
ReportsUnread unreadable name (CannotRead told) = unreadable name × (string_bytes told ≡ name)
ReportsUnread unreadable name OutOfMemory = ⊤
ReportsUnread unreadable name fault = ⊥

-- the part that is compared can't be read
abbrev pub IsPartUnread : Faulty → RequestSpec → Option (List ℕ) → Option (List ℕ) → Fault → Type 0
IsPartUnread unreadable request (Some dir) (Some key) fault = ReportsUnread unreadable (part_of_key request dir key) fault
IsPartUnread unreadable request (Some dir) None fault = ⊥
IsPartUnread unreadable request None key fault = ⊥

-- why nothing is printed: what `seq` would refuse; or the first file can't be read before what is taken of it, or the part
abbrev pub IsExplainRefusal : Stored → Faulty → Known → ExplainOptions → Fault → Type 0
IsExplainRefusal holds unreadable known o fault =
    IsWorkRefusal holds unreadable known o.options o.skips.now [] fault
    ⊎ ReportsUnread unreadable (first_name o.options) fault
    ⊎ IsPartUnread unreadable (request_asked o.options) (option_map (λ s. s.now) o.result) (option_map (λ s. s.now) o.key) fault

-- why not all could be printed: just one more call of the writer has failed, or memory was wanting
abbrev pub IsPrintFault : Seen → Seen → Fault → Type 0
IsPrintFault before after fault = ((fault ≡ CannotPrint) × (after.failed ≡ counted before.failed)) ⊎ (fault ≡ OutOfMemory)

-- why `explain` doesn't answer: it is refused and nothing was printed, or not all could be
abbrev pub IsExplainUnanswered : Stored → Faulty → Known → ExplainOptions → Seen → Seen → Fault → Type 0
IsExplainUnanswered holds unreadable known o before after fault =
    (IsExplainRefusal holds unreadable known o fault × (after ≡ before)) ⊎ IsPrintFault before after fault
