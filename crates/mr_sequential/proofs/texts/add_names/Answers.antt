use Rattle.std.proofs.Common.{ℕ, List, Vec, Global, map}
use Rattle.std.proofs.lemmas.Result.{on_ok_weaker}
use Rattle.mr_reduce.specs.Text.{text_of}
use Rattle.mr_splits.specs.Cut.{records_of}
use Rattle.mr_sequential.specs.Names.{value_under}
use Rattle.mr_sequential.proofs.TextLemmas.{contents-set}
use Rattle.mr_sequential.proofs.texts.add_names.Goals as goal

pub returns-clause-ok : goal.returns-clause-ok
returns-clause-ok c =
    let ts : List (Vec ℕ Global) = c.args.texts.now.items in
    let was : Vec ℕ Global = c.index_mut-text.result.now in
    let now : Vec ℕ Global = c.add_text.new.text in
    on_ok_weaker c.add_text.result
    (λ grown. contents-set ts c.args.row.part was now
    (text_of c.args.job.now c.args.row.key.now (map (value_under c.args.job.now (records_of c.args.plan.now)) c.args.names))
    c.requires.part c.index_mut-text.ensures.value grown)
    c.add_text.ensures
