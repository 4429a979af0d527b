use Rattle.std.proofs.Common.{◌==◌, ℕ, List, sym, ap, ◌∙◌}
use Rattle.std.proofs.lemmas.List.Sorted.{IsNonDecreasingBy-from_sort, list_any-IsPermutation}
use Rattle.mr_task.specs.Values.{has_number}
use Rattle.mr_task.proofs.runs.in_order.Goals as goal

pub returns-clause-rise : goal.returns-clause-rise
returns-clause-rise c = IsNonDecreasingBy-from_sort (λ x. x) c.sort_unstable.new.self.items c.sort_unstable.ensures.sorted

pub returns-clause-same : goal.returns-clause-same
returns-clause-same c = λ n.
    sym (ap (λ (l : List ℕ). has_number l n) (sym c.in_ok-rising.ensures.items)
    ∙ list_any-IsPermutation (λ m. m == n) c.in_ok-rising.rising.items c.sort_unstable.new.self.items c.sort_unstable.ensures.permutation)
