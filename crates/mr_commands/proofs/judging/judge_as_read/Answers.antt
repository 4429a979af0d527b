use Rattle.std.proofs.Common.{map, ap}
use Rattle.std.proofs.lemmas.Result.{err_from_is_err_and}
use Rattle.mr_commands.specs.Judgements.{files_judged}
use Rattle.mr_commands.proofs.Streamed.{answered, read_told, unread_told}
use Rattle.mr_commands.proofs.judging.judge_as_read.Goals as goal

pub returns-in_err-parts-clause-answer : goal.returns-in_err-parts-clause-answer
returns-in_err-parts-clause-answer g c = rw (err_from_is_err_and c.from_residual.result c.from_residual.ensures.1).1 tt

pub returns-in_err-parts-clause-refused : goal.returns-in_err-parts-clause-refused
returns-in_err-parts-clause-refused g c =
    let p = err_from_is_err_and c.from_residual.result c.from_residual.ensures.1 in
    let e = c.in_err-parts.field-0.0 in
    let cause = g.C.ReadCause.cause in
    rw p.1 (read_told cause e p.0 (unread_told (g.S.Store.unreadable c.args.store.now) (files_judged c.args.job.now) cause e c.requires.cause c.in_err-parts.ensures.refused) p.2)

pub returns-in_err-judge_files-clause-answer : goal.returns-in_err-judge_files-clause-answer
returns-in_err-judge_files-clause-answer g c = rw (err_from_is_err_and c.from_residual-in_err-judge_files.result c.from_residual-in_err-judge_files.ensures.1).1 tt

pub returns-in_err-judge_files-clause-refused : goal.returns-in_err-judge_files-clause-refused
returns-in_err-judge_files-clause-refused g c =
    let p = err_from_is_err_and c.from_residual-in_err-judge_files.result c.from_residual-in_err-judge_files.ensures.1 in
    rw p.1 (read_told g.C.ReadCause.cause c.in_err-judge_files.field-0.0 p.0 c.in_err-judge_files.ensures.refused p.2)

pub returns-clause-answer : goal.returns-clause-answer
returns-clause-answer g c =
    let read = c.in_ok-parts.ensures in
    answered (g.S.Store.holds c.args.store.now) c.args.job.now _ _ _ c.in_ok-judge_files.field-0 (ap (map (λ x. g.S.Reader.CountedRead.remaining x.reader)) c.as_mut_slice-parts.ensures.value) read.outputs read.certificate c.in_ok-judge_files.ensures.answer
