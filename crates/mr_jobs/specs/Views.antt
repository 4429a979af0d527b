-- How clauses see the types of this crate.
use Rattle.std.specs.Prelude.{ℕ, ◌+◌, ◌≤◌, List, map, length, slice_range}
use Rattle.mr_bytes.specs.declared.Value.{Value}
use Rattle.mr_jobs.specs.declared.job.Kind.{Kind}
use Rattle.mr_jobs.specs.declared.job.Kind.TheVariants.{Words, Grep, Url, Index, Field}
use Rattle.mr_jobs.specs.declared.emissions.Entry.{Entry}
use Rattle.mr_jobs.specs.JobSpec.{JobSpec, WordCount, LinesWith, Resources, InvertedIndex, NthField}
use Rattle.mr_jobs.specs.Emissions.{Emission}

abbrev pub spec_of : Kind → JobSpec
spec_of (Words keep_case) = WordCount keep_case
spec_of (Grep literal fold) = LinesWith literal.items fold
spec_of Url = Resources
spec_of (Index keep_case) = InvertedIndex keep_case
spec_of (Field field) = NthField field.separator field.number

-- the emission that an entry shows, by the bytes of all keys
abbrev pub emission_at : List ℕ → Entry → Emission
emission_at keys e = (slice_range keys e.start e.end, e.value)

abbrev pub entries_seen : List ℕ → List Entry → List Emission
entries_seen keys es = map (emission_at keys) es

-- the entry's key stands among the bytes of all keys
abbrev pub IsIn : List ℕ → Entry → Type 0
IsIn keys e = (e.start ≤ e.end) × (e.end ≤ length keys)

-- the entry of a key that is put behind the others
abbrev pub entry_for : List ℕ → List ℕ → Value → Entry
entry_for keys key value = record { start = length keys; end = length keys + length key; value = value }
