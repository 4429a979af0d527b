use Rattle.std.proofs.Common.{arith, ◌≤◌, ◌+◌, subst, sym, length, take, ℕ, Vec, Global}
use Rattle.std.proofs.lemmas.Bool.{false≢true}
use Rattle.std.proofs.lemmas.Grind.{common_steps}
use Rattle.mr_input.specs.Files.{total_size, contents}
use Rattle.mr_input.proofs.FileLemmas.{total_size-more}
use Rattle.mr_input.proofs.is_small.Goals as goal

pub returns-then-room-len : goal.returns-then-room-len
returns-then-room-len c =
    let fs = c.args.files.now in
    let more : total_size (contents (take c.loop-file.file-index fs)) + length c.file-item.result.items ≤ total_size (contents fs) =
    subst (λ (f : Vec ℕ Global). total_size (contents (take c.loop-file.file-index fs)) + length f.items ≤ total_size (contents fs)) (sym c.file-item.is)
    (total_size-more fs c.loop-file.file-index c.file-item.result c.loop-file-test.true) in
    (λ t. absurd (false≢true t), λ h. absurd (grind (arith, common_steps)))
