use Rattle.std.proofs.Common.{◌∙◌, ◌++◌, ◌∷◌, ap, sym, take}
use Rattle.mr_shards.proofs.LineLemmas.{behind, parted}
use Rattle.mr_shards.proofs.line.split_line.Goals as goal

pub returns-in-Some : goal.returns-in-Some
returns-in-Some c =
    let line = c.args.line.now in
    let tab = c.args.tab in (
      _,
      parted 9 tab line c.if-tab-line.true c.if-line-tab-eq9.true ∙ ap (λ l. take tab line ++ 9 ∷ l) (sym (behind tab line)),
      c.in-Some.ensures,
    )
