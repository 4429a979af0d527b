-- What the answers on parts of a result say of all of it.
use Rattle.std.proofs.Common.{◌≡◌, ℕ, List, length, arith, ap, sym, ◌∙◌}
use Rattle.std.specs.Prelude.{Result, Vec}
use Rattle.std.specs.Global.{Global}
use Rattle.std.proofs.lemmas.List.{length-map}
use Rattle.mr_jobs.specs.JobSpec.{RequestSpec}
use Rattle.mr_input.specs.Files.{contents}
use Rattle.mr_certform.specs.declared.grammar_state.Item.{Item}
use Rattle.mr_certform.specs.Spelling.{items_of, stop}
use Rattle.mr_verdict.specs.declared.answers.No.{No}
use Rattle.mr_verdict.specs.Steps.{header_met}

pub as_many : (files : List (Vec ℕ Global)) (n m : ℕ) → length files ≡ n → n ≡ m → length (contents files) ≡ m
as_many files n m e d = let l : length (contents files) ≡ length files = length-map files (λ (f : Vec ℕ Global). f.items) in omega (arith, l, e, d)

pub header_is : (o : RequestSpec) (files : List (List ℕ)) (bytes : List ℕ) (at : ℕ) (is : List Item) (r : Result (List Item) No) → at ≡ stop bytes → is ≡ items_of bytes → header_met at o files is ≡ r → header_met (stop bytes) o files (items_of bytes) ≡ r
header_is o files bytes at is r a e h = ap (λ n. header_met n o files (items_of bytes)) (sym a) ∙ (ap (header_met at o files) (sym e) ∙ h)
