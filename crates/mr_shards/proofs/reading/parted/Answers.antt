use Rattle.std.proofs.Common.{◌≡◌, ℕ, List, [], ◌∷◌, ◌++◌, Option, Some, None, ap, sym, ◌∙◌}
use Rattle.mr_bytes.specs.Cut.{Lacks, cut}
use Rattle.mr_bytes.proofs.CutLemmas.{cut-parts}
use Rattle.mr_shards.proofs.reading.parted.Goals as goal

-- the parts, and nothing where there are none
abbrev parts_in : Option (List ℕ × List ℕ) → List ℕ × List ℕ
parts_in None = ([], [])
parts_in (Some p) = p

at_space : (told a b : List ℕ) → Lacks 32 a → told ≡ a ++ 32 ∷ b → cut 32 told ≡ Some (a, b)
at_space told a b clear e = ap (cut 32) e ∙ cut-parts 32 a b clear

pub returns-in-Some : goal.returns-in-Some
returns-in-Some c = λ a b clear e.
    let same : Some (c.in-Some.parts.0.now, c.in-Some.parts.1.now) ≡ Some (a, b) = sym c.in-Some.ensures.value ∙ at_space c.args.told.now a b clear e in
    (ap (λ o. (parts_in o).0) same, ap (λ o. (parts_in o).1) same)

pub returns-in-None : goal.returns-in-None
returns-in-None c = λ a b clear e.
    let same : None ≡ Some (a, b) = sym c.in-None.ensures.value ∙ at_space c.args.told.now a b clear e in
    absurd (cc same)
