use Rattle.std.proofs.Common.{◌≡◌, ◌+◌, ◌++◌, ◌∷◌, [], sym, ap, ◌∙◌, arith, subst, ◌-◌, List, ℕ}
use Rattle.std.proofs.lemmas.List.{append_assoc, append-nil}
use lib.Bits.{bit_and}
use lib.Count.{count_trailing_zeros}
use Rattle.mr_lanes.specs.Bits.{set_bits, Extends}
use Rattle.mr_lanes.proofs.BitLemmas.{lowest, set_bits-zero, extends_more}
use Rattle.mr_lanes.proofs.blocks.push_places.Goals as goal

pub loop-rest-preserved : goal.loop-rest-preserved
loop-rest-preserved c =
    let l = c.loop-rest in
    let base = c.args.base in
    let place = base + count_trailing_zeros 64 l.rest in
    let left = bit_and l.rest (l.rest - 1) in
    let first = lowest 64 base l.rest (omega arith) (omega arith) in
    let items = c.in_ok-push.ensures.items in
    record {
      all = ap (λ (xs : List ℕ). xs ++ set_bits 64 base left) items ∙ append_assoc l.places.items (place ∷ []) (set_bits 64 base left)
          ∙ ap (λ (xs : List ℕ). l.places.items ++ xs) (sym first) ∙ l.invariant.all;
      kept = subst (λ (xs : List ℕ). Extends c.args.places.now.items xs) (sym items) (extends_more c.args.places.now.items l.places.items (place ∷ []) l.invariant.kept);
    }

pub returns-clause-all : goal.returns-clause-all
returns-clause-all c =
    let l = c.loop-rest in
    let none : l.rest ≡ 0 = omega arith in
    sym (append-nil l.places.items) ∙ ap (λ (xs : List ℕ). l.places.items ++ xs) (sym (ap (set_bits 64 c.args.base) none ∙ set_bits-zero 64 c.args.base)) ∙ l.invariant.all
