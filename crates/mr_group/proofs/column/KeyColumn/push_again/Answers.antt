use Rattle.std.proofs.Common.{◌≡◌, ◌++◌, ◌∷◌, ◌<◌, ◌-◌, [], ℕ, List, ap, sym, subst, ◌∙◌, arith, length, get_or}
use Rattle.std.proofs.lemmas.List.{length-map}
use Rattle.mr_group.specs.Column.{AreNumbers}
use Rattle.mr_group.specs.Interner.{key_at}
use Rattle.mr_group.proofs.ColumnLemmas.{numbers-again}
use Rattle.mr_group.proofs.column.KeyColumn.push_again.Goals as goal

pub invariant_of-self-2 : goal.invariant_of-self-2
invariant_of-self-2 c =
    let ks : List (List ℕ) = c.self.inside.keys in
    let is : List ℕ = c.self.inside.numbers.items in
    let some : length is - 1 < length is = omega (arith, c.requires, ap length c.self.view_is, length-map is (key_at ks)) in
    let n : ℕ = c.index-last.result.now in
    let last : get_or is (length is - 1) n ≡ n = ap (λ (m : ℕ). get_or is (m - 1) n) (sym (c.len.ensures ∙ c.self.inside.numbers.ok.0)) ∙ sym c.index-last.ensures in
    let pushed : c.push_reserved.new.self.items ≡ is ++ n ∷ [] = c.push_reserved.ensures.items ∙ ap (λ (l : List ℕ). l ++ n ∷ []) c.reserve.ensures.items in
    subst (AreNumbers ks) (sym pushed)
    (numbers-again ks is n c.self.invariant (subst (λ (m : ℕ). m < length ks) last (c.self.invariant.inside (length is - 1) n some)))
