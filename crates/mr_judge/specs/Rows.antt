-- Of no public promise: a row that is judged by the pair that it brings, whatever pairs there are.
use Rattle.std.specs.Prelude.{◌≡◌, ℕ, ◌-◌, Option, Some, None, MatchOption, List, []}
use Rattle.std.specs.Option.{option_map}
use Rattle.mr_bytes.specs.declared.Name.{Name}
use Rattle.mr_bytes.specs.Pairs.{Triple}
use Rattle.mr_jobs.specs.JobSpec.{RequestSpec}
use Rattle.mr_sequential.specs.Good.{named}
use Rattle.mr_certform.specs.declared.grammar_state.Item.{Item}
use Rattle.mr_certform.specs.declared.grammar_state.Item.TheVariants.{Entry, End}
use Rattle.mr_verdict.specs.declared.answers.No.{No}
use Rattle.mr_verdict.specs.Verdict.{Reached, Subject, entry_tests, after_entry, tests, after}
use Rattle.mr_verdict.specs.Steps.{subject_with}
use Rattle.mr_judge.specs.declared.border.FoundItem.{FoundItem}

-- where the row's item is an entry, what was found is what is emitted under its name
abbrev pub IsFound : List Triple → FoundItem → Type 0
IsFound ts r = (name : Name) → r.item ≡ Entry name
    → MatchOption r.found (named ts name ≡ None) (λ p. named ts name ≡ Some (record { key = p.0.now; value = p.1; name = name }))

-- what a row is judged against: the rules of the request, and the outputs; no pairs, since a row brings its own
abbrev pub row_subject : RequestSpec → List (List ℕ) → Subject
row_subject request outputs = subject_with (record { request = request; triples = [] }) outputs

-- the pair that a row brings for an entry of this name, where it brings one
abbrev pub brought : Name → FoundItem → Option Triple
brought name row = option_map (λ p. record { key = p.0.now; value = p.1; name = name }) row.found

-- what an item is tested for, given the row that brings its pair; the end isn't tested by a row
abbrev pub item_tests : Subject → Reached → FoundItem → Item → List No
item_tests s st row (Entry name) = entry_tests s (st.next - 1) st name (brought name row)
item_tests s st row End = []
item_tests s st row i = tests s st i

-- what is remembered behind it
abbrev pub item_after : Subject → Reached → FoundItem → Item → Reached
item_after s st row (Entry name) = after_entry s st (brought name row)
item_after s st row i = after s st i

-- what a row's item is tested for, by the pair that the row brings
abbrev pub row_tests : Subject → Reached → FoundItem → List No
row_tests s st row = item_tests s st row row.item

-- what is remembered behind a row
abbrev pub row_after : Subject → Reached → FoundItem → Reached
row_after s st row = item_after s st row row.item
