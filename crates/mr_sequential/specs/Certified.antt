-- The certificate of the sequential execution.
use Rattle.std.specs.Prelude.{ℕ, List, map, length}
use Rattle.std.specs.List.{range_with_len}
use Rattle.mr_bytes.specs.declared.Name.{Name}
use Rattle.mr_bytes.specs.declared.RecordName.{RecordName}
use Rattle.mr_jobs.specs.JobSpec.{RequestSpec, flags_of, job_literal, job_number}
use Rattle.mr_certform.specs.Value.{Contents}
use Rattle.mr_bytes.specs.Pairs.{Triple}
use Rattle.mr_sequential.specs.Emitted.{emitted}
use Rattle.mr_sequential.specs.Rules.{Key, rules_of}
use Rattle.mr_sequential.specs.Sequential.{keys_of, triples_with}

-- the names of the triples of a key, in the order of the input
abbrev pub names_with : List Triple → Key → List Name
names_with ts k = map (λ t. t.name) (triples_with ts k)

-- the groups of a partition, by rising key
abbrev pub groups_of : (Key → ℕ) → List Triple → ℕ → List (List Name)
groups_of part ts p = map (names_with ts) (keys_of part (map (λ t. t.key) ts) p)

-- the certificate of the sequential execution of a job over an input, without the left-out records
abbrev pub certificate_of : RequestSpec → List (List ℕ) → List RecordName → Contents
certificate_of request files skips = record {
  job = job_number request.job;
  flags = flags_of request;
  literal = job_literal request.job;
  parts = request.parts;
  split_size = request.split;
  lengths = map length files;
  skips = skips;
  groups = map (groups_of (rules_of request).part (emitted request.job request.split files skips)) (range_with_len 0 request.parts);
}
