use Rattle.std.proofs.Common.{◌≡◌, ◌+◌, ◌++◌, length, take, drop}
use Rattle.mr_bytes.specs.Lists.{Rises}
use Rattle.mr_bytes.specs.Order.{name_order}
use Rattle.mr_jobs.specs.Emissions.{emissions}
use Rattle.mr_sequential.specs.Emitted.{placed_from}
use Rattle.mr_spill.specs.Column.{names_of}
use Rattle.mr_task.specs.Runs.{AreAlike, AreOf, Takes}
use Rattle.mr_task.proofs.runs.Runs.take_record.Given as goal

abbrev pub invariant-loop-key : goal.invariant-loop-key
invariant-loop-key l =
    let es = emissions l.fn.mapper.job l.line.file l.line.start l.line.bytes.now in
    let ts = placed_from l.number 0 es in
    record {
      alike : AreAlike l.fn.self l.self;
      own : AreOf l.self.split l.self.buffer.pairs;
      count : l.place + length l.emitter ≡ length es;
      left : drop l.place ts ≡ placed_from l.number l.place l.emitter;
      rise : Rises name_order (names_of (l.self.buffer.pairs ++ drop l.place ts));
      taken : Takes (take l.place ts) l.fn.self l.self;
    }

abbrev pub decreases-loop-key : goal.decreases-loop-key
decreases-loop-key l = length l.emitter
