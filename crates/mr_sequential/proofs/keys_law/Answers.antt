use Rattle.mr_sequential.proofs.KeyLaws.{keys_rise, keys_are_unique, outputs_are_in_key_order}
use Rattle.mr_sequential.proofs.keys_law.Goals as goal

pub returns-clause-rising : goal.returns-clause-rising
returns-clause-rising c = keys_rise

pub returns-clause-unique : goal.returns-clause-unique
returns-clause-unique c = keys_are_unique

pub returns-clause-outputs : goal.returns-clause-outputs
returns-clause-outputs c = outputs_are_in_key_order
