use Rattle.std.proofs.Common.{◌∙◌, ◌++◌, [], ◌∷◌, append_assoc, append-nil, ap, subst, sym}
use Rattle.mr_shards.specs.Lines.{lines}
use Rattle.mr_shard_files.specs.Pairs.{IsTotal}
use Rattle.mr_shard_files.proofs.PairLemmas.{no-lines, total_more, total_of_line}
use Rattle.mr_shards.proofs.ReadingLemmas.{lines-next}
use Rattle.mr_shard_files.proofs.pairs.pairs_in.Goals as goal

pub loop-line-preserved : goal.loop-line-preserved
loop-line-preserved c =
    let job = c.args.job.now in
    let inv = c.loop-line.invariant in
    let line = c.in-Some.line.now in
    let behind = c.in-Some.behind.now in
    record {
      done = inv.done ++ line ∷ [];
      is = inv.is ∙ ap (λ ls. inv.done ++ ls) (ap lines c.in-Some.ensures.0 ∙ lines-next line behind c.in-Some.ensures.1) ∙ sym (append_assoc inv.done (line ∷ []) (lines behind));
      total = total_more job inv.done (line ∷ []) c.loop-line.total c.pairs_in_line.result c.sum_of-total.result inv.total (total_of_line job line c.pairs_in_line.result c.pairs_in_line.ensures) c.sum_of-total.ensures;
    }

pub returns : goal.returns
returns c =
    let inv = c.loop-line.invariant in
    subst (λ ls. IsTotal c.args.job.now ls c.loop-line.total) (sym (inv.is ∙ ap (λ ls. inv.done ++ ls) (no-lines c.loop-line.rest.now c.in_default.ensures) ∙ append-nil inv.done)) inv.total
