-- What an answer says of what is left to judge behind a border.
use Rattle.std.specs.Prelude.{◌≡◌, ◌+◌, ℕ, None, List, Result, MatchResult}
use Rattle.mr_input.specs.Files.{contents}
use Rattle.mr_certform.specs.Walking.{items_left, halt}
use Rattle.mr_index.specs.Index.{triples_of}
use Rattle.mr_verdict.specs.declared.answers.No.{No}
use Rattle.mr_verdict.specs.Verdict.{part_faults, entries_in, first}
use Rattle.mr_verdict.specs.Steps.{Answers, Known, subject}
use Rattle.mr_judge.specs.Borders.{behind_entries}
use Rattle.mr_judge.specs.declared.remainder.Remainder.{Remainder}

-- what it is judged against
abbrev pub known_of : Remainder → Known
known_of r = record {
  request = r.request.now;
  triples = triples_of r.request.now.job r.kept.now.cut r.kept.now.skips;
  outputs = contents r.outputs.now;
}

-- all its faults, in the order of the tests
abbrev pub faults_left : Remainder → List No
faults_left r = part_faults (subject (known_of r)) (halt r.walker) (behind_entries r.border r.named) (items_left r.walker)

-- there are none, and so many entries in all; or the first of them, or want of memory
abbrev pub IsJudged : Remainder → Result ℕ No → Type 0
IsJudged r answer =
    MatchResult answer (λ n. (first (faults_left r) ≡ None) × (n ≡ r.named + entries_in (items_left r.walker))) (Answers (faults_left r))
