use Rattle.std.proofs.Common.{◌≡◌, ℕ, zero, suc, ◌<◌, List, [], ◌∷◌, get_or, map, refl, ap, sym, ◌∙◌, length, arith}
use Rattle.std.proofs.lemmas.List.{append-nil}
use Rattle.std.specs.Fmt.{digits}
use Rattle.mr_bytes.specs.Pairs.{Triple}
use Rattle.mr_merge.specs.Merged.{joined}
use Rattle.mr_spill.specs.Regions.{region}
use Rattle.mr_task.specs.Worked.{emitted_letters, first_run, letter, letters, only_partition, second_run}
use Rattle.mr_task.proofs.reduce.worked_tasks.Goals as goal

-- of one partition alone
each-of-one : (runs regions : List (List Triple)) → regions ≡ map (λ run. region only_partition run 0) runs
    → (p : ℕ) → p < 1 → get_or (regions ∷ []) p [] ≡ map (λ run. region only_partition run p) runs
each-of-one runs regions is zero h = is
each-of-one runs regions is (suc p) h = absurd (omega (arith, h))

pub returns-clause-one_run : goal.returns-clause-one_run
returns-clause-one_run c = record { runs = emitted_letters ∷ []; all = refl; one_each = refl; each = each-of-one (emitted_letters ∷ []) (letters ∷ []) refl }

pub returns-clause-two_runs : goal.returns-clause-two_runs
returns-clause-two_runs c =
    let runs : List (List Triple) = (letter 98 0 ∷ letter 97 1 ∷ []) ∷ (letter 98 2 ∷ []) ∷ [] in
    record { runs = runs; all = refl; one_each = refl; each = each-of-one runs (first_run ∷ second_run ∷ []) refl }

-- one run of two pairs doesn't give the third
not-cut : (runs : List (List Triple)) → joined runs ≡ emitted_letters → first_run ∷ [] ≡ map (λ run. region only_partition run 0) runs → ⊥
not-cut [] all is = absurd (cc is)
not-cut (r ∷ []) all is =
    let same : r ≡ emitted_letters = sym (append-nil r) ∙ all in
    let given : first_run ∷ [] ≡ letters ∷ [] = is ∙ ap (λ run. region only_partition run 0 ∷ []) same in
    let one : first_run ≡ letters = cc given in
    omega (arith, ap length one)
not-cut (r ∷ s ∷ rs) all is = absurd (cc is)

pub returns-clause-not_cut : goal.returns-clause-not_cut
returns-clause-not_cut c cut = not-cut cut.runs cut.all (cut.each 0 (omega arith))

pub returns-clause-reduced : goal.returns-clause-reduced
unfolding digits
returns-clause-reduced c = refl

pub returns-clause-reduced_runs : goal.returns-clause-reduced_runs
unfolding digits
returns-clause-reduced_runs c = refl
