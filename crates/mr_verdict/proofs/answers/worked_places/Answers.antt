use Rattle.mr_verdict.proofs.VerdictRowLemmas.{row_third_yes, row_third_no_pair, row_third_entry_order, row_third_key_differs, row_third_wrong_partition, row_third_key_order, row_third_output, row_third_output_longer}
use Rattle.mr_verdict.proofs.answers.worked_places.Goals as goal

pub returns : goal.returns
returns c = record {
  yes = row_third_yes;
  no_pair = row_third_no_pair;
  entry_order = row_third_entry_order;
  key_differs = row_third_key_differs;
  wrong_partition = row_third_wrong_partition;
  key_order = row_third_key_order;
  output = row_third_output;
  output_longer = row_third_output_longer;
}
