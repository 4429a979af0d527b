use Rattle.std.proofs.Common.{◌+◌, ◌∙◌, ◌++◌, ◌∷◌, take, ap, sym, subst, eqb-true}
use Rattle.mr_bytes.specs.Cut.{Lacks}
use Rattle.mr_shards.proofs.LineLemmas.{behind, lacks_all, lacks_behind, parted}
use Rattle.mr_shards.proofs.cutting.cut_last.Goals as goal

pub returns : goal.returns
returns c =
    let text = c.args.text.now in
    let mark = c.args.mark in
    let at = c.in_ok-at.at in (
      parted mark at text c.in_ok-at.ensures.0.high (eqb-true _ mark c.in_ok-at.ensures.1) ∙ ap (λ l. take at text ++ mark ∷ l) (sym (behind at text)),
      subst (Lacks mark) (sym (behind at text)) (lacks_behind mark (at + 1) text c.in_ok-at.ensures.0.after),
    )

pub returns-in_err-at : goal.returns-in_err-at
returns-in_err-at c = rw c.from_residual.ensures (lacks_all c.args.mark c.args.text.now c.in_err-at.ensures)
