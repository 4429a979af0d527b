use Rattle.std.proofs.Common.{◌+◌}
use Rattle.mr_shards.proofs.LineLemmas.{lacks_all, lacks_behind}
use Rattle.mr_shard_files.proofs.pairs.whole_lines.Goals as goal

pub returns-in-Some-clause-rest : goal.returns-in-Some-clause-rest
returns-in-Some-clause-rest c = lacks_behind 10 (c.in-Some.at + 1) c.args.bytes.now c.in-Some.ensures.0.after

pub returns-in-None-clause-rest : goal.returns-in-None-clause-rest
returns-in-None-clause-rest c = lacks_all 10 c.args.bytes.now c.in-None.ensures
