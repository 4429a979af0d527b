use Rattle.mr_explain.proofs.LineLemmas.{next-line}
use Rattle.mr_explain.proofs.comparing.line_from.Goals as goal

pub returns-clause-next : goal.returns-clause-next
returns-clause-next c = next-line c.args.text.now c.args.from c.in_ok-end.end c.min.result c.in_ok-end.ensures c.min.ensures
