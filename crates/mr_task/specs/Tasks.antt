-- A map task that is taken piece by piece.
use Rattle.std.specs.Prelude.{◌≡◌, ℕ, List, length}
use Rattle.mr_bytes.specs.declared.By.{By}
use Rattle.mr_bytes.specs.Pairs.{Triple}
use Rattle.mr_jobs.specs.JobSpec.{JobSpec, RequestSpec}
use Rattle.mr_partition.specs.Hosts.{partition_by}
use Rattle.mr_splits.specs.Cut.{Cut, records_of}
use Rattle.mr_splits.specs.Named.{of_split}
use Rattle.mr_task.specs.Mapped.{IsMapped, Mapped}
use Rattle.mr_task.specs.Values.{emitted_between, has_number}

-- its plan and its job, how keys are cut by partition, its split, the records left out, and the number of the next record
pub record MapState : Type 0 where
  pub plan : Cut
  pub job : JobSpec
  pub by : By
  pub parts : ℕ
  pub split : ℕ
  pub skips : List ℕ
  pub next : ℕ

-- how many records a split has
abbrev pub record_count : Cut → ℕ → ℕ
record_count plan split = length (of_split split (records_of plan))

-- and that of a task
abbrev pub records_in : MapState → ℕ
records_in t = record_count t.plan t.split

-- what the records of a split give from one on and before another
abbrev pub between : Cut → JobSpec → ℕ → List ℕ → ℕ → ℕ → List Triple
between plan job split skips from next = emitted_between job plan.size plan.files split skips from next

-- a task of which no record is mapped yet
pub record IsMapTask (plan : Cut) (request : RequestSpec) (split : ℕ) (skips : List ℕ) (t : MapState) : Type 0 where
  pub is : t ≡ record { plan = plan; job = request.job; by = request.by; parts = request.parts; split = split; skips = t.skips; next = 0 }
  pub same : (n : ℕ) → has_number t.skips n ≡ has_number skips n

-- the output is what the records give from the next one on and before record `next`
abbrev pub IsPieceOf : MapState → ℕ → Mapped → Type 0
IsPieceOf t next out = IsMapped (λ k. partition_by t.by k t.parts) t.parts (between t.plan t.job t.split t.skips t.next next) out
