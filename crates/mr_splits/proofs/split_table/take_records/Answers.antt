use Rattle.std.proofs.Common.{◌-◌, ◌++◌, ◌∷◌, [], ℕ, List, ap, ◌∙◌, arith, append_assoc}
use Rattle.mr_splits.proofs.LineLemmas.{ends_in, takes-last}
use Rattle.mr_splits.proofs.split_table.take_records.Goals as goal

pub returns-clause-taken : goal.returns-clause-taken
returns-clause-taken c =
    let stop : ℕ = c.in-Some.stop in
    let ends : List ℕ = ends_in c.args.bytes.now c.args.from (c.args.end - 1) in (
      ends ++ stop ∷ [],
      c.in_ok-push-in-Some.ensures.items ∙ ap (λ (es : List ℕ). es ++ stop ∷ []) c.in_ok-line_ends_between.ensures.all
          ∙ append_assoc c.args.ends.now.items ends (stop ∷ []),
      takes-last c.args.bytes.now c.args.from c.args.end stop (omega arith) c.requires.end c.in-Some.ensures,
    )
