use Rattle.std.proofs.Common.{refl}
use Rattle.std.specs.Fmt.{digits}
use Rattle.mr_bytes.specs.Words.{extend, word_spans_from}
use Rattle.mr_jobs.specs.Literal.{begins_with, holds}
use Rattle.mr_jobs.specs.Url.{before_byte}
use Rattle.mr_partition.specs.Partition.{fnv_from}
use Rattle.mr_records.specs.Records.{lengthen, records_from}
use Rattle.mr_splits.specs.Named.{named_files, named_from}
use Rattle.mr_sequential.specs.Emitted.{placed_from}
use Rattle.mr_shards.specs.Lines.{after_first, after_last, before_last, fields, lines, longer}
use Rattle.mr_shards.proofs.portions.worked_law.Goals as goal

pub returns-clause-files : goal.returns-clause-files
returns-clause-files c = refl

pub returns-clause-spots : goal.returns-clause-spots
unfolding records_from lengthen named_from named_files
returns-clause-spots c = refl

pub returns-clause-names : goal.returns-clause-names
unfolding records_from lengthen named_from named_files
returns-clause-names c = refl

pub returns-clause-lines : goal.returns-clause-lines
unfolding records_from lengthen named_from named_files placed_from lines longer before_last after_last after_first before_byte begins_with holds fnv_from digits
returns-clause-lines c = refl

pub returns-clause-index : goal.returns-clause-index
unfolding records_from lengthen named_from named_files placed_from lines longer before_last after_last after_first word_spans_from extend fields fnv_from digits
returns-clause-index c = refl
