-- The assembled result: the files and the certificate that a state of the master names (OSDI 2004, section 3.1).
use Rattle.std.specs.Prelude.{ℕ, suc, if◌then◌else◌, List, [], ◌∷◌, ◌++◌, map, length}
use Rattle.std.specs.Option.{option_map_or}
use Rattle.mr_bytes.specs.declared.RecordName.{RecordName}
use Rattle.mr_jobs.specs.JobSpec.{RequestSpec, flags_of, job_literal, job_number}
use Rattle.mr_certform.specs.Value.{Contents}
use Rattle.mr_core.specs.declared.entries.Split.{Split}
use Rattle.mr_core.specs.Master.{State}
use Rattle.mr_sequential.specs.Rules.{Text}
use Rattle.mr_task.specs.Values.{Reduced}

-- the record of this number in a split
abbrev pub in_split : ℕ → ℕ → RecordName
in_split split n = record { split = split; rec = n }

-- the records that each split leaves out, the first split being this
abbrev pub records_from : ℕ → List (List ℕ) → List RecordName
records_from split [] = []
records_from split (set ∷ sets) = map (in_split split) set ++ records_from (suc split) sets

-- what a split leaves out: its set, once that is fixed
abbrev pub fixed_set : Split → List ℕ
fixed_set sp = if sp.fixed then sp.skips else []

abbrev pub fixed_sets : State → List (List ℕ)
fixed_sets st = map fixed_set st.splits

-- the records that the result leaves out
abbrev pub left_out_records : State → List RecordName
left_out_records st = records_from 0 (fixed_sets st)

-- of a partition that is not committed
abbrev pub nothing : Reduced
nothing = record { output = []; groups = [] }

-- the committed reduce outputs by partition; `what` gives the output under each number
abbrev pub committed_values : (ℕ → Reduced) → State → List Reduced
committed_values what st = map (λ o. option_map_or what o nothing) st.committed

-- the files
abbrev pub assembled_outputs : (ℕ → Reduced) → State → List Text
assembled_outputs what st = map (λ v. v.output) (committed_values what st)

-- the certificate of a request and files
abbrev pub assembled_certificate : RequestSpec → List (List ℕ) → (ℕ → Reduced) → State → Contents
assembled_certificate request files what st = record {
  job = job_number request.job;
  flags = flags_of request;
  literal = job_literal request.job;
  parts = request.parts;
  split_size = request.split;
  lengths = map length files;
  skips = left_out_records st;
  groups = map (λ v. v.groups) (committed_values what st);
}
