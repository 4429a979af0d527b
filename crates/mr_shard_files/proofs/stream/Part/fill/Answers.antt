use Rattle.std.proofs.Common.{[], ap, string_bytes}
use Rattle.std.proofs.lemmas.Result.{err_from_is_err_and}
use Rattle.mr_shard_files.proofs.StreamLemmas.{moves_none, moves_on, unread_back}
use Rattle.mr_shard_files.proofs.stream.Part.fill.Goals as goal

pub loop-self-init : goal.loop-self-init
loop-self-init g c = moves_none g.R.CountedRead.remaining g.R.CountedRead.can_fail c.args.self.now

pub returns-in_err-read_piece-clause-err : goal.returns-in_err-read_piece-clause-err
returns-in_err-read_piece-clause-err g c =
    let p = err_from_is_err_and c.from_residual.result c.from_residual.ensures.1 in
    let can_fail = g.R.CountedRead.can_fail in
    let part = c.loop-self.self in
    rw p.1 (rw p.2 (unread_back c.in_err-read_piece.field-0.0 (can_fail part.reader) (can_fail c.args.self.now.reader) (string_bytes part.name) (string_bytes c.args.self.now.name)
    c.loop-self.invariant.later (ap string_bytes c.loop-self.invariant.name) c.in_err-read_piece.ensures.err))

pub loop-self-preserved : goal.loop-self-preserved
loop-self-preserved g c =
    moves_on g.R.CountedRead.remaining g.R.CountedRead.can_fail c.args.self.now c.loop-self.self c.read_piece.new.self [] [] c.loop-self.invariant c.in_ok-read_piece.ensures.moves

pub loop-self-smaller : goal.loop-self-smaller
loop-self-smaller g c = c.in_ok-read_piece.ensures.falls
