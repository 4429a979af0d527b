use Rattle.std.proofs.lemmas.Result.{on_ok_weaker}
use Rattle.mr_reduce.proofs.WritingLemmas.{writes-all}
use Rattle.mr_reduce.proofs.writer.TextWriter.finish.Goals as goal

pub returns-clause-ok : goal.returns-clause-ok
returns-clause-ok c = on_ok_weaker c.put_end.result
    (λ grown job key values before was fits.
    writes-all job key values before c.args.self c.args.out.now.items c.put_end.new.out.items was fits grown)
    c.put_end.ensures.ok
