use Rattle.std.proofs.Common.{map}
use Rattle.mr_commands.proofs.Streamed.{yes_given, no_given}
use Rattle.mr_commands.proofs.judging.judge_files.Goals as goal

pub returns-in-Ok-clause-answer : goal.returns-in-Ok-clause-answer
returns-in-Ok-clause-answer g c = yes_given c.args.job.now.request.now c.args.job.now.input.now (map (λ r. g.R.CountedRead.remaining r.reader) c.args.parts.now) (g.R.CountedRead.remaining c.args.certificate.now.reader) c.in-Ok.yes c.in-Ok.ensures.judged

pub returns-in_ok-trace_fault-in-Err-clause-answer : goal.returns-in_ok-trace_fault-in-Err-clause-answer
returns-in_ok-trace_fault-in-Err-clause-answer g c =
    no_given c.args.job.now.request.now c.args.job.now.input.now (map (λ r. g.R.CountedRead.remaining r.reader) c.args.parts.now) (g.R.CountedRead.remaining c.args.certificate.now.reader) c.in-Err.no c.in_ok-trace_fault-in-Err.field-0 c.in-Err.ensures.judged c.in_ok-trace_fault-in-Err.ensures
