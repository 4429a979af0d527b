-- What the meter of a judge counts.
use Rattle.std.specs.Prelude.{◌≡◌, ℕ, ◌+◌, ◌≤◌, List, length, Result, IfOk}
use Rattle.mr_bytes.specs.declared.RecordName.{RecordName}
use Rattle.mr_jobs.specs.JobSpec.{RequestSpec}
use Rattle.mr_splits.specs.Cut.{Cut, records_of}
use Rattle.mr_certform.specs.declared.grammar_state.Item.{Item}
use Rattle.mr_index.specs.declared.index.Meter.{Meter}
use Rattle.mr_index.specs.Index.{mapped_among}
use Rattle.mr_verdict.specs.declared.answers.Yes.{Yes}
use Rattle.mr_verdict.specs.Verdict.{entries_in}

abbrev pub cut_by : RequestSpec → List (List ℕ) → Cut
cut_by request files = record { size = request.split; files = files }

-- each record is mapped at most once
abbrev pub MapsOnce : Cut → Meter → Meter → Type 0
MapsOnce cut old new = (old.mapped ≤ new.mapped) × (new.mapped ≤ old.mapped + length (records_of cut))

-- each entry among the items is looked up at most once, and each record of the cut files mapped at most once
pub record IsBounded (cut : Cut) (items : List Item) (old new : Meter) : Type 0 where
  pub lookups : (old.lookups ≤ new.lookups) × (new.lookups ≤ old.lookups + entries_in items)
  pub mapped : MapsOnce cut old new

-- a look-up for each pair, and each record mapped that isn't left out
pub record IsExact (cut : Cut) (skips : List RecordName) (pairs : ℕ) (old new : Meter) : Type 0 where
  pub lookups : new.lookups ≡ old.lookups + pairs
  pub mapped : new.mapped ≡ old.mapped + mapped_among skips (records_of cut)

-- so it is on a yes
abbrev pub MapsExactly : {E : Type 0} → Cut → Meter → Meter → Result Yes E → Type 0
MapsExactly cut old new answer = IfOk answer (λ y. IsExact cut y.skips.items y.pairs old new)
