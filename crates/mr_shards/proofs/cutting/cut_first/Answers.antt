use Rattle.std.proofs.Common.{◌∙◌, ◌++◌, ◌∷◌, take, ap, sym}
use Rattle.mr_shards.proofs.LineLemmas.{behind, parted}
use Rattle.mr_shards.proofs.cutting.cut_first.Goals as goal

pub returns : goal.returns
returns c =
    let text = c.args.text.now in
    let mark = c.args.mark in
    let at = c.in_ok-at.at in
    let is = c.in_ok-at.ensures in (parted mark at text is.0 is.1 ∙ ap (λ l. take at text ++ mark ∷ l) (sym (behind at text)), is.2)
