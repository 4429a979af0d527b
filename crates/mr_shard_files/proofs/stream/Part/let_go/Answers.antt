use Rattle.std.proofs.Common.{refl}
use Rattle.mr_shard_files.proofs.StreamLemmas.{moves_let_go}
use Rattle.mr_shard_files.proofs.stream.Part.let_go.Goals as goal

pub returns-clause-moves : goal.returns-clause-moves
returns-clause-moves g c =
    moves_let_go g.R.CountedRead.remaining g.R.CountedRead.can_fail c.args.self.now c.digest_held.new.self _ c.digest_held.ensures c.new.ensures refl refl refl refl refl refl refl
