use Rattle.mr_verdict.proofs.VerdictRowLemmas.{row_spelled, row_yes, row_short_spelled, row_short_yes, row_short_twice, row_short_no_number, row_short_no_pair, row_short_too_great, row_short_cut, row_entry_order, row_unnamed, row_cut, row_longer, row_output_longer, row_output_cut, row_too_many, row_left_out, row_skip_twice, row_no_record, row_wrong_partition, row_right_partition, row_no_pair, row_key_differs, row_key_order, row_swapped, row_other_input, row_other_job, row_two_outputs}
use Rattle.mr_verdict.proofs.answers.worked_rows.Goals as goal

pub returns : goal.returns
returns c = record {
  spelled = row_spelled;
  yes = row_yes;
  short_spelled = row_short_spelled;
  short_yes = row_short_yes;
  short_twice = row_short_twice;
  short_no_number = row_short_no_number;
  short_no_pair = row_short_no_pair;
  short_too_great = row_short_too_great;
  short_cut = row_short_cut;
  entry_order = row_entry_order;
  unnamed = row_unnamed;
  cut = row_cut;
  longer = row_longer;
  output_longer = row_output_longer;
  output_cut = row_output_cut;
  too_many = row_too_many;
  left_out = row_left_out;
  skip_twice = row_skip_twice;
  no_record = row_no_record;
  wrong_partition = row_wrong_partition;
  right_partition = row_right_partition;
  no_pair = row_no_pair;
  key_differs = row_key_differs;
  key_order = row_key_order;
  swapped = row_swapped;
  other_input = row_other_input;
  other_job = row_other_job;
  two_outputs = row_two_outputs;
}
