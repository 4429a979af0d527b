-- What the answers of the program are worth.
use Rattle.std.specs.Prelude.{◌≡◌, ℕ, ◌<◌, None, List, ◌++◌, length, codes, decimal}
use Rattle.mr_bytes.specs.declared.RecordName.{RecordName}
use Rattle.mr_input.specs.Files.{nth_file}
use Rattle.mr_jobs.specs.JobSpec.{RequestSpec}
use Rattle.mr_certform.specs.declared.version.Version.{Version}
use Rattle.mr_certform.specs.Value.{SpellsIn}
use Rattle.mr_sequential.specs.Certified.{certificate_of}
use Rattle.mr_sequential.specs.Sequential.{sequential}
use Rattle.mr_sequential.specs.Skips.{skip_fault}

-- what is said of a result by a word: its files, its pairs, and the records that are left out
abbrev pub counts_line : List ℕ → ℕ → ℕ → ℕ → List ℕ
counts_line word files pairs left_out =
    word ++ (decimal files ++ (codes " files, " ++ (decimal pairs ++ (codes " pairs, " ++ (decimal left_out ++ codes " left out\n")))))

-- what is said of a sequential execution
abbrev pub done_line : ℕ → ℕ → ℕ → List ℕ
done_line = counts_line (codes "done: ")

-- the outputs of the sequential execution without these records, which it may leave out, and bytes of its certificate in this
-- version
pub record IsSequentialResult (version : Version) (request : RequestSpec) (files : List (List ℕ)) (skips : List RecordName) (outputs : List (List ℕ)) (bytes : List ℕ) : Type 0 where
  pub allowed : skip_fault request files skips ≡ None
  pub count : length outputs ≡ request.parts
  pub texts : (p : ℕ) → p < request.parts → nth_file outputs p ≡ sequential request files skips p
  pub spelled : SpellsIn version bytes (certificate_of request files skips)
