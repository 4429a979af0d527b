use Rattle.std.proofs.Common.{ℕ, List, Vec, Global}
use Rattle.std.proofs.lemmas.Result.{on_ok_weaker}
use Rattle.mr_reduce.specs.Text.{total_line}
use Rattle.mr_sequential.proofs.TextLemmas.{contents-set}
use Rattle.mr_sequential.proofs.texts.add_total.Goals as goal

pub returns-clause-ok : goal.returns-clause-ok
returns-clause-ok c =
    let ts : List (Vec ℕ Global) = c.args.texts.now.items in
    let was : Vec ℕ Global = c.index_mut-text.result.now in
    let now : Vec ℕ Global = c.append_total.new.out in
    on_ok_weaker c.append_total.result
    (λ grown. contents-set ts c.args.row.part was now (total_line c.args.row.key.now c.args.total) c.requires c.index_mut-text.ensures.value grown)
    c.append_total.ensures.ok
