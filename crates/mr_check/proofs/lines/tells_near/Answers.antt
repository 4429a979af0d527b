use Rattle.std.proofs.Common.{arith}
use Rattle.mr_check.proofs.LineKeyLemmas.{apart_32, near}
use Rattle.mr_check.proofs.lines.tells_near.Goals as goal

pub returns : goal.returns
returns c h =
    near c.args.line c.args.key c.args.count c.line_feeds-end.result c.tabs-tabs.result _ (omega arith) (omega arith) (omega arith)
    c.line_feeds-end.ensures c.tabs-tabs.ensures (λ i h. apart_32 c.args.line c.args.key i c.fits-line.0 c.fits-key.0 h) (omega arith) (omega arith) (omega arith) (omega arith) (omega arith)
