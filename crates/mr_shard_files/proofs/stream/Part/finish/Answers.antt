use Rattle.std.proofs.Common.{[], ◌++◌}
use Rattle.mr_shard_files.proofs.StreamLemmas.{moves_on}
use Rattle.mr_shard_files.proofs.stream.Part.finish.Goals as goal

pub loop-self-preserved : goal.loop-self-preserved
loop-self-preserved g c =
    let remaining = g.R.CountedRead.remaining in
    let can_fail = g.R.CountedRead.can_fail in
    let p = c.loop-self.self in
    let d = c.let_go.new.self in
    let n = c.read_piece.new.self in
    let x = c.loop-self.invariant.0 ++ p.held in (
      x ++ [],
      moves_on remaining can_fail c.args.self.now d n x [] (moves_on remaining can_fail c.args.self.now p d c.loop-self.invariant.0 p.held c.loop-self.invariant.1 c.let_go.ensures.moves) c.in_ok-read_piece.ensures.moves,
    )

pub returns-clause-moves : goal.returns-clause-moves
returns-clause-moves g c =
    let p = c.loop-self.self in (
      c.loop-self.invariant.0 ++ p.held,
      moves_on g.R.CountedRead.remaining g.R.CountedRead.can_fail c.args.self.now p c.let_go-2.new.self c.loop-self.invariant.0 p.held c.loop-self.invariant.1 c.let_go-2.ensures.moves,
    )
