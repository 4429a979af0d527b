use Rattle.std.proofs.lemmas.Cmp.{nat_list_cmp_total, then_total, on_total, nat_cmp_total}
use Rattle.mr_bytes.specs.declared.Name.{Name}
use Rattle.mr_bytes.proofs.names.order_law.Goals as goal

pub returns-clause-keys : goal.returns-clause-keys
returns-clause-keys c = nat_list_cmp_total

pub returns-clause-names : goal.returns-clause-names
returns-clause-names c =
    then_total (on_total (λ (n : Name). n.split) nat_cmp_total)
    (then_total (on_total (λ (n : Name). n.rec) nat_cmp_total) (on_total (λ (n : Name). n.place) nat_cmp_total))
