use Rattle.mr_sequential.proofs.SkipLaws.{good_skips}
use Rattle.mr_sequential.proofs.skips_law.Goals as goal

pub returns : goal.returns
returns c = good_skips
