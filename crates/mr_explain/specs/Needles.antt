-- Of no public promise: records that lack a literal.
use Rattle.std.specs.Prelude.{◌≡◌, ℕ, Bool, false, List}
use Rattle.std.specs.List.{AllByRecursion}
use Rattle.mr_records.specs.Records.{records}
use Rattle.mr_jobs.specs.JobSpec.{JobSpec}
use Rattle.mr_jobs.specs.Literal.{holds}
use Rattle.mr_explain.specs.Explained.{IsUnwanted}
use Rattle.mr_explain.specs.declared.query.Wanted.{Wanted}

-- the line doesn't hold the literal
abbrev pub Lacks : Bool → List ℕ → List ℕ → Type 0
Lacks fold literal line = holds fold line literal ≡ false

-- no record of these bytes holds it
abbrev pub AllLack : Bool → List ℕ → List ℕ → Type 0
AllLack fold literal bytes = AllByRecursion (λ r. Lacks fold literal r.bytes) (records bytes)

-- a record that lacks it is not looked for
abbrev pub IsNeedle : JobSpec → Wanted → Bool → List ℕ → Type 0
IsNeedle job wanted fold literal = (line : List ℕ) → Lacks fold literal line → IsUnwanted job wanted line
