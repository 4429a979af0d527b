use Rattle.std.proofs.Common.{ℕ, ◌++◌, List, sym, ap, ◌∙◌, arith}
use Rattle.mr_group.specs.declared.rows.Row.{Row}
use Rattle.mr_splits.specs.Cut.{records_of}
use Rattle.mr_sequential.specs.Rows.{count_line, row_texts}
use Rattle.mr_sequential.proofs.FillLemmas.{counted-texts}
use Rattle.mr_sequential.proofs.texts.texts_of.Goals as goal

pub returns-then-counts-clause-texts : goal.returns-then-counts-clause-texts
returns-then-counts-clause-texts c = λ p h.
    let rows : List Row = c.args.rows.now in
    c.in_ok-count_texts.ensures.ok p (omega (arith, h, c.in_ok-texts.ensures.count, c.len.ensures, c.args.groups.now.group_counts.ok.0))
    ∙ ap (λ (l : List ℕ). l ++ row_texts (count_line c.as_slice.result.now) p 0 rows) (c.in_ok-texts.ensures.empty p)
    ∙ ap (λ (l : List ℕ). row_texts (count_line l) p 0 rows) c.as_slice.ensures.value
    ∙ counted-texts c.args.job.now (records_of c.args.plan.now) rows c.args.groups.now p (sym c.counts.ensures ∙ c.if-counts.true) c.requires.names.within
