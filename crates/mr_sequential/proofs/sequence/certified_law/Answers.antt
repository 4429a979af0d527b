use Rattle.std.proofs.Common.{refl}
use Rattle.std.specs.Fmt.{digits}
use Rattle.mr_bytes.specs.Words.{extend, word_spans_from}
use Rattle.mr_records.specs.Records.{lengthen, records_from}
use Rattle.mr_splits.specs.Named.{named_from, named_files}
use Rattle.mr_partition.specs.Partition.{fnv_from}
use Rattle.mr_sequential.specs.Emitted.{placed_from}
use Rattle.mr_sequential.proofs.CertifiedLaws.{sequential_is_good}
use Rattle.mr_sequential.proofs.sequence.certified_law.Goals as goal

pub returns-clause-good : goal.returns-clause-good
returns-clause-good c = sequential_is_good

pub returns-clause-worked_groups : goal.returns-clause-worked_groups
unfolding extend word_spans_from lengthen records_from named_from named_files fnv_from placed_from
returns-clause-worked_groups c = refl

pub returns-clause-worked_output : goal.returns-clause-worked_output
unfolding extend word_spans_from lengthen records_from named_from named_files fnv_from placed_from digits
returns-clause-worked_output c = refl
