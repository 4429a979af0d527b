use Rattle.std.proofs.Common.{refl}
use Rattle.std.specs.Fmt.{digits}
use Rattle.mr_bytes.specs.Words.{extend, word_spans_from}
use Rattle.mr_records.specs.Records.{lengthen, records_from}
use Rattle.mr_splits.specs.Named.{named_from, named_files}
use Rattle.mr_partition.specs.Partition.{fnv_from}
use Rattle.mr_sequential.specs.Emitted.{placed_from}
use Rattle.mr_book.proofs.Premises.{is_done}
use Rattle.mr_book.proofs.book.worked_law.Goals as goal

pub returns-clause-region : goal.returns-clause-region
returns-clause-region c = refl

pub returns-clause-without : goal.returns-clause-without
returns-clause-without c = refl

pub returns-clause-value : goal.returns-clause-value
unfolding digits
returns-clause-value c = refl

pub returns-clause-cut : goal.returns-clause-cut
unfolding digits
returns-clause-cut c = refl

pub returns-clause-end : goal.returns-clause-end
returns-clause-end c = refl

pub returns-clause-output : goal.returns-clause-output
unfolding extend word_spans_from lengthen records_from named_from named_files fnv_from placed_from digits
returns-clause-output c = refl

pub returns-clause-certificate : goal.returns-clause-certificate
unfolding extend word_spans_from lengthen records_from named_from named_files fnv_from placed_from digits
returns-clause-certificate c = refl

pub returns-clause-premises : goal.returns-clause-premises
returns-clause-premises c = is_done
