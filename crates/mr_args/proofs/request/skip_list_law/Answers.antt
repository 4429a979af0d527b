use Rattle.mr_args.proofs.SkipLists.{one_list}
use Rattle.mr_args.proofs.request.skip_list_law.Goals as goal

pub returns : goal.returns
returns c = one_list
