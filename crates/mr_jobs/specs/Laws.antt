-- What the computed definitions are, in the words of the subject.
use Rattle.std.specs.Prelude.{◌≡◌, ◌↔◌, ℕ, ◌<◌, ◌≤◌, ◌⊎◌, Bool, List, [], None, Some, IsTrue, All, length, sum_by}
use Rattle.mr_bytes.specs.declared.Value.TheVariants.{One}
use Rattle.mr_jobs.specs.JobSpec.{JobSpec, JobFits, NthField, counts, folds_words, job_flags, job_literal, job_number}
use Rattle.mr_jobs.specs.Emissions.{emissions, keys_of, value_at}
use Rattle.mr_jobs.specs.Fields.{IsNthBetween, IsNthStretch, field_of}
use Rattle.mr_jobs.specs.Literal.{Holds, holds}
use Rattle.mr_jobs.specs.Url.{IsRequestFor, url_of}

-- a line holds a literal exactly where the literal stands at some place of it
abbrev pub HoldsByPlaces : Type 0
HoldsByPlaces = (fold : Bool) (line literal : List ℕ) → IsTrue (holds fold line literal) ↔ Holds fold line literal

-- the resource is the one key that fits the line
abbrev pub UrlByParts : Type 0
UrlByParts = (line key : List ℕ) → (url_of line ≡ Some key) ↔ IsRequestFor line key

abbrev pub OneKeyFits : Type 0
OneKeyFits = (line a b : List ℕ) → IsRequestFor line a → IsRequestFor line b → a ≡ b

-- with a separator, the field is the one stretch of that number between separators
abbrev pub FieldsAreBetween : Type 0
FieldsAreBetween = (separator number : ℕ) (line key : List ℕ) → 0 < number → (field_of (Some separator) number line ≡ Some key) ↔ IsNthBetween separator number line key

-- without one, it is the one maximal stretch of that number without spaces and tabs
abbrev pub FieldsAreStretches : Type 0
FieldsAreStretches = (number : ℕ) (line key : List ℕ) → 0 < number → (field_of None number line ≡ Some key) ↔ IsNthStretch number line key

-- a job is known by its number, its flags and its literal
abbrev pub JobsAreNamed : Type 0
JobsAreNamed = (a b : JobSpec) → JobFits a → JobFits b → job_number a ≡ job_number b → job_flags a ≡ job_flags b → job_literal a ≡ job_literal b → a ≡ b

-- an empty record has one field, if a separator is given, and that is empty
abbrev pub HasEmptyField : JobSpec → List ℕ → Type 0
HasEmptyField job line = (line ≡ []) × ((separator : ℕ) × (job ≡ NthField (Some separator) 1))

-- a record has no more emissions than bytes, except for an empty field
abbrev pub FewEmissions : Type 0
FewEmissions = (job : JobSpec) (file start : ℕ) (line : List ℕ) → JobFits job → (length (emissions job file start line) ≤ length line) ⊎ HasEmptyField job line

-- each key stands in its record, compared folded where the job folds words
abbrev pub KeysStand : Type 0
KeysStand = (job : JobSpec) (line : List ℕ) → All (Holds (folds_words job) line) (keys_of job line)

-- no key is longer than its record
abbrev pub ShortKeys : Type 0
ShortKeys = (job : JobSpec) (file start : ℕ) (line : List ℕ) → All (λ e. length e.0 ≤ length line) (emissions job file start line)

-- the keys of a record have together no more bytes than the record
abbrev pub KeysFitTheRecord : Type 0
KeysFitTheRecord = (job : JobSpec) (file start : ℕ) (line : List ℕ) → sum_by (λ e. length e.0) (emissions job file start line) ≤ length line

-- a job that counts emits no other value than One
abbrev pub CountersEmitOnes : Type 0
CountersEmitOnes = (job : JobSpec) (file start : ℕ) (line : List ℕ) → IsTrue (counts job) → All (λ e. e.1 ≡ One) (emissions job file start line)

-- all pairs of a record have the value that its job and its place tell
abbrev pub OneValueEach : Type 0
OneValueEach = (job : JobSpec) (file start : ℕ) (line : List ℕ) → All (λ e. e.1 ≡ value_at job file start) (emissions job file start line)
