use Rattle.std.proofs.Common.{ℕ, List, [], ◌∷◌, ◌++◌, ap, ◌∙◌}
use Rattle.mr_bytes.specs.Pairs.{Triple}
use Rattle.mr_spill.specs.Entries.{Entry, beside}
use Rattle.mr_spill.proofs.TableLemmas.{beside-push}
use Rattle.mr_spill.proofs.pair_columns.PairColumns.push.Goals as goal

pub returns-in-Ok-clause-ok : goal.returns-in-Ok-clause-ok
returns-in-Ok-clause-ok c =
    let n = c.self.inside in
    let e : Entry = (c.args.value, c.args.name) in
    ap (λ (ks : List (List ℕ)). beside ks c.push.new.self) c.in-Ok.ensures.ok
    ∙ ap (beside (n.keys ++ c.args.key.now ∷ [])) c.in_ok-push.ensures.ok
    ∙ beside-push n.keys n.entries c.args.key.now e c.self.invariant.same
    ∙ ap (λ (ts : List Triple). ts ++ record { key = c.args.key.now; value = c.args.value; name = c.args.name } ∷ []) c.self.view_is
