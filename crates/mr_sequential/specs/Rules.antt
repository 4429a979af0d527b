-- What outputs are made by: the partition of each key, and the text of a key with its values (OSDI 2004, sections 2 and 4.1).
use Rattle.std.specs.Prelude.{ℕ, List}
use Rattle.mr_bytes.specs.declared.Value.{Value}
use Rattle.mr_jobs.specs.JobSpec.{RequestSpec}
use Rattle.mr_partition.specs.Hosts.{partition_by}
use Rattle.mr_reduce.specs.Text.{text_of}

-- a key, by its bytes
abbrev pub Key : Type 0
Key = List ℕ

-- bytes of an output
abbrev pub Text : Type 0
Text = List ℕ

pub record Rules : Type 0 where
  pub part : Key → ℕ
  pub text : Key → List Value → Text

-- the partition of a key under a request
abbrev pub part : RequestSpec → Key → ℕ
part request key = partition_by request.by key request.parts

-- those of a request
abbrev pub rules_of : RequestSpec → Rules
rules_of request = record { part = part request; text = text_of request.job }
