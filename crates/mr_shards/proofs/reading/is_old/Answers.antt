use Rattle.std.proofs.Common.{◌≡◌, ℕ, ◌<◌, ◌^◌, eqb, Bool, true, false, cond, List, [], ◌∷◌, refl, ap, ◌∙◌, arith}
use Rattle.std.specs.Prelude.{codes, decimal}
use Rattle.mr_shards.specs.Lines.{lines}
use Rattle.mr_shards.specs.Reading.{told_under}
use Rattle.mr_shards.proofs.SpellLemmas.{under-all}
use Rattle.mr_shards.proofs.reading.is_old.Goals as goal

small : (b : Bool) → cond b 1 2 < 2 ^ 64
small true = omega arith
small false = omega arith

version-is : (b : Bool) → eqb (cond b 1 2) 1 ≡ b
version-is true = refl
version-is false = refl

pub returns : goal.returns
returns c = λ old v fits e.
    let under : told_under (codes "verdict") (lines c.args.text.now) ≡ decimal (cond old 1 2) ∷ [] =
    ap (λ (t : List ℕ). told_under (codes "verdict") (lines t)) e ∙ under-all old (codes "verdict") v fits in
    let told = c.first_told.ensures (decimal (cond old 1 2)) [] under in
    ap (λ n. eqb n 1) (c.number_or_zero.ensures (cond old 1 2) (small old) told) ∙ version-is old
