use Rattle.mr_explain.proofs.LawLemmas.{count-is}
use Rattle.mr_explain.specs.Explained.{kept_text, left_out_text}
use Rattle.mr_explain.proofs.WrittenLemmas.{written}
use Rattle.mr_explain.proofs.evidence.explain.Goals as goal

pub returns-clause-count : goal.returns-clause-count
returns-clause-count g c = count-is c.args.query.now c.walk_kept.new.walk.totals c.in_ok-walk_kept.ensures.counts

pub returns-clause-written : goal.returns-clause-written
returns-clause-written g c =
    let seen = g.W.CountedWrite.seen in
    written (seen c.args.writer.now) (seen c.walk_kept.new.writer) (seen c.walk_left_out.new.writer) (kept_text c.args.query.now) (left_out_text c.args.query.now)
    c.in_ok-walk_kept.ensures.put c.in_ok-walk_left_out.ensures.put
