use Rattle.std.proofs.Common.{◌≡◌, ℕ, List, cond, eqb, not, map, ap₂, ◌∙◌, ◌||◌}
use Rattle.std.proofs.lemmas.Simd.{zip2_splat, zip2-map}
use lib.Bits.{bit_and}
use lib.Lanes.{zip2}
use Rattle.mr_lanes.proofs.LaneLemmas.{classified}
use Rattle.mr_lanes.proofs.blanks.no_blanks.Goals as goal

abbrev apart : ℕ → ℕ → ℕ
apart a b = cond (not (eqb a b)) 255 0

both : (f g : ℕ → ℕ) (v : List ℕ) {a b : List ℕ} → a ≡ map f v → b ≡ map g v → zip2 bit_and a b ≡ map (λ x. bit_and (f x) (g x)) v
both f g v p q = ap₂ (zip2 bit_and) p q ∙ zip2-map bit_and f g v

pub returns : goal.returns
returns c =
    let v = c.args.lanes in
    let long = c.fits-lanes.0 in
    classified _ (λ x. not (eqb x 32 || eqb x 9)) v _ c.fits-lanes (both _ _ v (zip2_splat apart v 64 32 long) (zip2_splat apart v 64 9 long)) tt
