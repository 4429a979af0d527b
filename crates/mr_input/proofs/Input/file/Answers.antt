use Rattle.std.proofs.Common.{arith, length, ◌≡◌, ap, Vec, Global, ℕ}
use Rattle.std.proofs.lemmas.List.{length-map}
use Rattle.mr_input.proofs.FileLemmas.{length-file}
use Rattle.mr_input.proofs.Input.file.Goals as goal

pub returns-clause-small : goal.returns-clause-small
returns-clause-small c =
    let fs = c.self.inside.files.items in
    let file = c.index.result.now in
    let same : length fs ≡ length c.args.self.now = simp length-map at (ap length c.self.view_is) in
    let within = length-file fs c.args.i file (omega (arith, same, c.requires)) in
    let one = ap (λ (f : Vec ℕ Global). length f.items) c.index.ensures in
    omega (arith, within, one, ap length c.deref.ensures.value, c.self.invariant.small)
