use Rattle.std.proofs.Common.{ap, length, refl}
use Rattle.mr_shard_files.proofs.StreamLemmas.{moves_passed}
use Rattle.mr_shard_files.proofs.stream.Part.pass.Goals as goal

pub returns : goal.returns
returns g c = moves_passed g.R.CountedRead.remaining g.R.CountedRead.can_fail c.args.self.now c.digest_held.new.self _ c.args.count c.requires c.digest_held.ensures c.pass.ensures (ap length c.bytes.ensures) refl
    refl refl refl refl refl
