use Rattle.std.proofs.Common.{ap, inr, string_bytes, subst}
use Rattle.std.proofs.lemmas.Result.{err_from_is_err_and}
use Rattle.mr_shard_files.specs.Made.{ReportsUnwritten}
use Rattle.mr_shard_files.specs.Streams.{IsStopped}
use Rattle.mr_shard_files.proofs.MadeLemmas.{all_written, unwritten_back}
use Rattle.mr_shard_files.proofs.RoundLemmas.{refused_rounds}
use Rattle.mr_shard_files.proofs.partition.part_filled.Goals as goal

pub returns-in-Err-Part-clause-err : goal.returns-in-Err-Part-clause-err
returns-in-Err-Part-clause-err g c =
    let made = c.args.made.now in
    let unwritten = ReportsUnwritten (g.W.CountedWrite.can_fail made.writer) (string_bytes made.name) in
    let m = c.args.merge.now in
    refused_rounds g.R.CountedRead.remaining g.R.CountedRead.can_fail m.job.now m.files.now m.partition m.verdicts.now unwritten c.args.parts.now c.merge_rounds.new.parts c.in-Err-Part.fault
    (subst (IsStopped g.R.CountedRead.remaining g.R.CountedRead.can_fail unwritten m.job.now m.files.now c.args.parts.now c.merge_rounds.new.parts) c.in-Err-Part.field-0-is c.in-Err-Part.ensures.err)

pub returns-in_err-flush-clause-err : goal.returns-in_err-flush-clause-err
returns-in_err-flush-clause-err g c =
    let p = err_from_is_err_and c.from_residual-in_err-flush.result c.from_residual-in_err-flush.ensures.1 in
    let can_fail = g.W.CountedWrite.can_fail in
    rw p.1 (rw p.2 (inr (unwritten_back (can_fail c.merge_rounds.new.made.writer) (can_fail c.args.made.now.writer) (string_bytes c.merge_rounds.new.made.name) (string_bytes c.args.made.now.name)
    c.in_err-flush.field-0.0 c.merge_rounds.ensures.later (ap string_bytes c.merge_rounds.ensures.name) c.in_err-flush.ensures.err)))

pub returns-in_err-note-clause-err : goal.returns-in_err-note-clause-err
returns-in_err-note-clause-err g c =
    let p = err_from_is_err_and c.from_residual-in_err-note.result c.from_residual-in_err-note.ensures.1 in
    rw p.1 (rw p.2 (inr tt))

pub note-requires : goal.note-requires
note-requires g c = c.in_ok-flush.ensures.ok.none_late

pub returns-clause-ok : goal.returns-clause-ok
returns-clause-ok g c =
    let (text, merged, written) = c.in-Ok.ensures.ok in
    let flushed = c.in_ok-flush.ensures.ok in
    let has = flushed.written text written in (
      text,
      record { mid = c.merge_rounds.new.parts; new = c.settle_all-2.new.parts; merged = merged; settled = c.in_ok-settle_all.ensures.ok },
      all_written g.W.CountedWrite.seen text c.flush.new.self has flushed.none_late,
      c.in_ok-note.ensures text has,
    )
