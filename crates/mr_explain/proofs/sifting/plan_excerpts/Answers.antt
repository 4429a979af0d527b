use Rattle.std.proofs.Common.{ℕ, ◌+◌, ◌-◌, ◌*◌, ◌≤◌, List, [], ◌∷◌, length, arith}
use Rattle.std.proofs.lemmas.Nat.{div-add-mod'}
use Rattle.std.proofs.lemmas.List.Sums.{sum_by-cons}
use Rattle.mr_input.specs.Files.{split_total, total_size}
use Rattle.mr_explain.proofs.sifting.plan_excerpts.Goals as goal

-- splits of 64 MiB hold no more bytes than the files, and one split more for each file
few : (files : List (List ℕ)) → split_total 67108864 files * 67108864 ≤ total_size files + length files * 67108864
unfolding split_total
few [] = omega arith
few (f ∷ fs) = omega (arith, few fs, div-add-mod' (length f + 67108864 - 1) 67108864, sum_by-cons length f fs)

pub new_fitting-requires-clause-few : goal.new_fitting-requires-clause-few
new_fitting-requires-clause-few c =
    let files : List (List ℕ) = c.args.excerpts.now in
    omega (arith, few files, c.files-few.ensures.few, c.files-few.ensures.count, c.files-few.ensures.small)
