use Rattle.mr_shards.proofs.NameSpotLemmas.{name-within, split-within}
use Rattle.mr_shards.proofs.spots.spot_at.Goals as goal

pub locate-found-requires-clause-split : goal.locate-found-requires-clause-split
locate-found-requires-clause-split c = split-within c.args.plan.now.size c.args.plan.now.files c.args.name c.requires.some c.requires.exists

pub locate-found-requires-clause-record : goal.locate-found-requires-clause-record
locate-found-requires-clause-record c = name-within c.args.plan.now.size c.args.plan.now.files c.args.name c.requires.some c.requires.exists
