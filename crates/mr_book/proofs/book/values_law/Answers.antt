use Rattle.mr_book.proofs.Cuts.{cuts_dont_matter}
use Rattle.mr_book.proofs.Done.{values_are_sequential}
use Rattle.mr_book.proofs.book.values_law.Goals as goal

pub returns-clause-sequential : goal.returns-clause-sequential
returns-clause-sequential c = values_are_sequential

pub returns-clause-cuts : goal.returns-clause-cuts
returns-clause-cuts c = cuts_dont_matter
