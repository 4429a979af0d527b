use Rattle.mr_certform.proofs.Walks.{read_in, longest_items}
use Rattle.mr_certform.proofs.laws.items_law.Goals as goal

pub returns-clause-stand : goal.returns-clause-stand
returns-clause-stand c = read_in

pub returns-clause-longest : goal.returns-clause-longest
returns-clause-longest c = longest_items
