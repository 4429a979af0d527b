use Rattle.mr_core.proofs.FetchLaws as laws
use Rattle.mr_core.proofs.master.fetched.Goals as goal

pub returns : goal.returns
returns c = laws.committed_fetched
