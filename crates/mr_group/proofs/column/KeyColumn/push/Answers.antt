use Rattle.std.proofs.Common.{◌≡◌, ◌++◌, ◌∷◌, [], ℕ, List, ap, sym, subst, ◌∙◌}
use Rattle.mr_group.specs.Column.{AreNumbers, keyed}
use Rattle.mr_group.proofs.ColumnLemmas.{keyed-more, numbers-more}
use Rattle.mr_group.proofs.column.KeyColumn.push.Goals as goal

pub invariant_of-self-2 : goal.invariant_of-self-2
invariant_of-self-2 c =
    let col = c.self.inside in
    let n : ℕ = c.in_ok-number.number in
    let numbers : c.push_reserved.new.self.items ≡ col.numbers.items ++ n ∷ [] =
    c.push_reserved.ensures.items ∙ ap (λ (l : List ℕ). l ++ n ∷ []) c.reserve.ensures.items in
    subst (AreNumbers c.number_of.new.self) (sym numbers)
    (numbers-more col.keys c.number_of.new.self col.numbers.items c.args.key.now n c.self.invariant c.in_ok-number.ensures.grows
    c.in_ok-number.ensures.next c.in_ok-number.ensures.is)

pub returns-clause-ok : goal.returns-clause-ok
returns-clause-ok c =
    let col = c.self.inside in
    let n : ℕ = c.in_ok-number.number in
    let numbers : c.push_reserved.new.self.items ≡ col.numbers.items ++ n ∷ [] =
    c.push_reserved.ensures.items ∙ ap (λ (l : List ℕ). l ++ n ∷ []) c.reserve.ensures.items in
    ap (keyed c.number_of.new.self) numbers
    ∙ keyed-more col.keys c.number_of.new.self col.numbers.items c.args.key.now n c.self.invariant c.in_ok-number.ensures.grows c.in_ok-number.ensures.is
    ∙ ap (λ (l : List (List ℕ)). l ++ c.args.key.now ∷ []) c.self.view_is
