-- What the verdict of a yes is true of.
use Rattle.std.proofs.Common.{◌≡◌, ℕ, zero, suc, Bool, List, [], ◌∷◌, length, refl, ◌∙◌, arith}
use Rattle.std.proofs.lemmas.List.{length-append}
use Rattle.mr_bytes.specs.declared.RecordName.{RecordName}
use Rattle.mr_jobs.specs.JobSpec.{RequestSpec}
use Rattle.mr_verdict.specs.Headline.{IsCertified}
use Rattle.mr_shards.specs.Truth.{IsTrueOf}
use Rattle.mr_shards.proofs.JudgedLaws.{true-of-stretch}
use Rattle.mr_files.specs.Names.{part_file, part_files}
use Rattle.mr_files.specs.Stretches.{Stretch}
use Rattle.mr_commands.specs.Verdicts.{verdict_about}

files_count : (n : ℕ) → length (part_files n) ≡ n
unfolding part_files
files_count zero = refl
files_count (suc n) = length-append (part_files n) (part_file n ∷ []) ∙ omega (arith, files_count n)

pub true_of : (request : RequestSpec) (s : Stretch) (files : List (List ℕ)) (ends : Bool) (outputs : List (List ℕ)) (bytes : List ℕ) (skips : List RecordName) (pairs : ℕ)
    → length s.names ≡ length files → IsCertified request files outputs bytes skips pairs → IsTrueOf request (verdict_about request s files ends outputs skips pairs) files outputs
true_of request s files ends outputs bytes skips pairs e certified =
    true-of-stretch request s.names files (part_files (length outputs)) outputs s.from ends skips pairs e (files_count (length outputs))
    certified.rise certified.exist certified.count certified.sequential_is certified.all
