use Rattle.std.proofs.Common.{◌≡◌, ◌∙◌, ◌-◌, ap, sym, drop, take, length, arith, ℕ, min, List}
use Rattle.std.proofs.lemmas.List.{drop_min, take_min, length-take}
use Rattle.mr_certform.specs.Packed.{names_held}
use Rattle.mr_certform.proofs.Packed.{drop_held, take_held}
use Rattle.mr_certform.proofs.names.Names.split_at.Goals as goal

-- how many are left to split off behind the packed names
behind : (n m : ℕ) (front xs : List ℕ) → m ≡ min n (length xs) → front ≡ take m xs → n - length front ≡ n - length xs
behind n m front xs least is = omega (arith, ap length is, length-take m xs, least)

pub returns-clause-back : goal.returns-clause-back
returns-clause-back c =
    let n = c.self.inside in
    let count : ℕ = c.args.count in
    let packed : c.split_at.result.1.now ≡ drop count n.packed.now = c.split_at.ensures.back ∙ ap (λ k. drop k n.packed.now) c.min.ensures ∙ drop_min count n.packed.now in
    let next = behind count c.min.result c.split_at.result.0.now n.packed.now c.min.ensures c.split_at.ensures.front in
    let plain : c.split_at-2.result.1.now ≡ drop (count - length n.packed.now) n.plain.now = c.split_at-2.ensures.back ∙ ap (λ k. drop k n.plain.now) next in
    (λ i. names_held n.spans.now (packed i) (plain i)) ∙ sym (drop_held n.spans.now count n.packed.now n.plain.now) ∙ ap (drop count) c.self.view_is

pub returns-clause-front : goal.returns-clause-front
returns-clause-front c =
    let n = c.self.inside in
    let count : ℕ = c.args.count in
    let packed : c.split_at.result.0.now ≡ take count n.packed.now = c.split_at.ensures.front ∙ ap (λ k. take k n.packed.now) c.min.ensures ∙ take_min count n.packed.now in
    let next = behind count c.min.result c.split_at.result.0.now n.packed.now c.min.ensures c.split_at.ensures.front in
    let plain : c.split_at-2.result.0.now ≡ take (count - length n.packed.now) n.plain.now = c.split_at-2.ensures.front ∙ ap (λ k. take k n.plain.now) next in
    (λ i. names_held n.spans.now (packed i) (plain i)) ∙ sym (take_held n.spans.now count n.packed.now n.plain.now) ∙ ap (take count) c.self.view_is
