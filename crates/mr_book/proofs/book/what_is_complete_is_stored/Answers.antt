use Rattle.mr_book.proofs.StoredLaws.{output_stored, commit_stored}
use Rattle.mr_book.proofs.book.what_is_complete_is_stored.Goals as goal

pub returns-clause-outputs : goal.returns-clause-outputs
returns-clause-outputs c b kept = output_stored b.shape b.history b.state b.maps kept.run kept.stored.maps

pub returns-clause-commits : goal.returns-clause-commits
returns-clause-commits c b kept = commit_stored b.shape b.history b.state b.reduces kept.run kept.stored.reduces
