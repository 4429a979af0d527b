-- What a yes is worth.
use Rattle.std.specs.Prelude.{◌≡◌, ℕ, ◌<◌, ◌≤◌, IsTrue, List, length}
use Rattle.std.specs.List.{AllByRecursion}
use Rattle.mr_bytes.specs.declared.RecordName.{RecordName}
use Rattle.mr_bytes.specs.Lists.{Rises}
use Rattle.mr_bytes.specs.Order.{record_order}
use Rattle.mr_input.specs.Files.{nth_file}
use Rattle.mr_jobs.specs.JobSpec.{RequestSpec}
use Rattle.mr_splits.specs.Named.{named_records}
use Rattle.mr_splits.specs.Cut.{is_record}
use Rattle.mr_certform.specs.Value.{Contents, Spells}
use Rattle.mr_sequential.specs.Emitted.{emitted}
use Rattle.mr_sequential.specs.Rules.{rules_of}
use Rattle.mr_sequential.specs.Laws.{IsInKeyOrder}
use Rattle.mr_sequential.specs.Sequential.{sequential}
use Rattle.mr_verdict.specs.declared.answers.Yes.{Yes}
use Rattle.mr_verdict.specs.Verdict.{Accepted}

-- what a yes says
abbrev pub accepted_of : Yes → Accepted
accepted_of y = record { skips = y.skips.items; pairs = y.pairs }

-- the bytes spell a certificate that lists just these left-out records; they rise, exist, and are no more than the
-- request allows; there are as many outputs as partitions, each byte for byte that of the sequential execution without
-- those records, its keys rising strictly; and so many pairs are emitted without them
pub record IsCertified (request : RequestSpec) (files outputs : List (List ℕ)) (bytes : List ℕ) (skips : List RecordName) (pairs : ℕ) : Type 0 where
  pub certificate : Contents
  pub spelled : Spells bytes certificate
  pub listed : certificate.skips ≡ skips
  pub rise : Rises record_order skips
  pub exist : AllByRecursion (λ name. IsTrue (is_record (named_records request.split files) name)) skips
  pub allowed : length skips ≤ request.skips
  pub count : length outputs ≡ request.parts
  pub sequential_is : (p : ℕ) → p < request.parts → nth_file outputs p ≡ sequential request files skips p
  pub by_key : (p : ℕ) → p < request.parts → IsInKeyOrder (rules_of request) (emitted request.job request.split files skips) p (nth_file outputs p)
  pub all : pairs ≡ length (emitted request.job request.split files skips)
