use Rattle.mr_shards.proofs.EmissionLemmas.{emitted_of_both}
use Rattle.mr_shards.proofs.PortionLaws.{merged_is_whole, outputs_are_texts}
use Rattle.mr_shards.proofs.RecordLemmas.{records_of_both}
use Rattle.mr_shards.proofs.ShiftLemmas.{merged_at_once}
use Rattle.mr_shards.proofs.portions.portions_law.Goals as goal

pub returns-clause-records : goal.returns-clause-records
returns-clause-records c = records_of_both

pub returns-clause-emitted : goal.returns-clause-emitted
returns-clause-emitted c = emitted_of_both

pub returns-clause-texts : goal.returns-clause-texts
returns-clause-texts c = outputs_are_texts

pub returns-clause-merged : goal.returns-clause-merged
returns-clause-merged c = merged_is_whole

pub returns-clause-at_once : goal.returns-clause-at_once
returns-clause-at_once c = merged_at_once
