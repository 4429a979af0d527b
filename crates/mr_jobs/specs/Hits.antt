-- Where a literal stands among the lines of a text.
use Rattle.std.specs.Prelude.{◌≡◌, ℕ, ◌+◌, ◌<◌, ◌≤◌, Bool, IsTrue, List, Option, MatchOption, length, slice_range}
use Rattle.mr_input.specs.Files.{nth_file}
use Rattle.mr_jobs.specs.declared.literal_search.Known.{Known}
use Rattle.mr_jobs.specs.JobSpec.{JobSpec}
use Rattle.mr_jobs.specs.Literal.{StandsAt}

-- a literal that is looked for in a text, compared folded where the flag is true
pub record Sought : Type 0 where
  pub text : List ℕ
  pub literal : List ℕ
  pub fold : Bool

-- the literal stands at no place from `from` on and before `to`
abbrev pub StandsNowhere : Sought → ℕ → ℕ → Type 0
StandsNowhere sought from to = (place : ℕ) → from ≤ place → place < to → StandsAt sought.fold sought.text sought.literal place → ⊥

-- the least place at which the literal stands, and `None` where it stands nowhere
abbrev pub IsFirstPlace : Sought → Option ℕ → Type 0
IsFirstPlace sought r =
    MatchOption r ((k : ℕ) → StandsAt sought.fold sought.text sought.literal k → ⊥)
    (λ at. StandsAt sought.fold sought.text sought.literal at × StandsNowhere sought 0 at)

-- what is known of a text is so
pub record AreSo (sought : Sought) (known : Known) : Type 0 where
  pub order : known.from ≤ known.clear
  pub nowhere : StandsNowhere sought known.from known.clear
  pub stands : IsTrue known.found → StandsAt sought.fold sought.text sought.literal known.clear

-- a job with the files of which it maps the lines
pub record Source : Type 0 where
  pub job : JobSpec
  pub files : List (List ℕ)

-- the line is the part of the file of that number that begins at the place `start`
pub record IsLine (files : List (List ℕ)) (file start : ℕ) (line : List ℕ) : Type 0 where
  pub inside : file < length files
  pub within : start + length line ≤ length (nth_file files file)
  pub bytes : slice_range (nth_file files file) start (start + length line) ≡ line
