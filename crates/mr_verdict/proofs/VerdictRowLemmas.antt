-- Worked verdicts, by computation.
use Rattle.std.proofs.Common.{◌≡◌, ℕ, refl, [], ◌∷◌, ◌++◌, take, Ok, Err, true, arith}
use Rattle.std.proofs.lemmas.Fmt.{decimal_digit}
use Rattle.mr_bytes.specs.Words.{extend, word_spans_from}
use Rattle.mr_certform.specs.Spelling.{items_from, items_of, stop}
use Rattle.mr_certform.specs.declared.version.Version.TheVariants.{V2}
use Rattle.mr_certform.specs.Short.{short, short_at, short_name_bytes, short_name_at}
use Rattle.mr_certform.specs.Value.{certificate_items, spelling}
use Rattle.mr_jobs.specs.JobSpec.{WordCount}
use Rattle.mr_partition.specs.Partition.{fnv_from}
use Rattle.mr_records.specs.Records.{lengthen, records_from}
use Rattle.mr_sequential.specs.Emitted.{placed_from}
use Rattle.mr_splits.specs.Named.{named_from, named_files}
use Rattle.mr_verdict.specs.declared.answers.No.{No}
use Rattle.mr_verdict.specs.Verdict.{verdict_of}
use Rattle.mr_verdict.specs.VerdictRows.{words, a_b_a, a_b_aa, line, a2_b1, name, certificate_in, certificate, of_groups, good_bytes, short_front, short_back, short_bytes, says, of_a, last_name, says_without, word, b1_d1, of_third, first_record}

-- all that the rows compute with
computing : ℕ
unfolding verdict_of certificate_items spelling short short_at short_name_bytes short_name_at items_of items_from stop fnv_from lengthen records_from placed_from named_from named_files extend word_spans_from
computing = 0

pub row_spelled : certificate 1 6 [] (((name 0 0 0 ∷ name 0 0 2 ∷ []) ∷ (name 0 0 1 ∷ []) ∷ []) ∷ []) ≡ good_bytes
unfolding computing
row_spelled = refl

pub row_yes : says a2_b1 good_bytes ≡ Ok (record { skips = []; pairs = 3 })
unfolding computing
row_yes = rw (decimal_digit 2 (omega arith), decimal_digit 1 (omega arith))

pub row_short_spelled : certificate_in V2 1 6 [] (((name 0 0 0 ∷ name 0 0 2 ∷ []) ∷ (name 0 0 1 ∷ []) ∷ []) ∷ []) ≡ short_bytes
unfolding computing
row_short_spelled = refl

pub row_short_yes : says a2_b1 short_bytes ≡ Ok (record { skips = []; pairs = 3 })
unfolding computing
row_short_yes = rw (decimal_digit 2 (omega arith), decimal_digit 1 (omega arith))

pub row_short_twice : says a2_b1 (short_front ++ 0 ∷ 0 ∷ 0 ∷ 0 ∷ 0 ∷ 0 ∷ short_back) ≡ Err (No.EntryOrder 0 0 1)
unfolding computing
row_short_twice = refl

pub row_short_no_number : says a2_b1 (short_front ++ 0 ∷ 0 ∷ 0 ∷ 0 ∷ 0 ∷ 0x82 ∷ 0 ∷ short_back) ≡ Err (No.Malformed 55)
unfolding computing
row_short_no_number = refl

pub row_short_no_pair : says a2_b1 (short_front ++ 0xff ∷ 0xff ∷ 0xff ∷ 0xff ∷ 0x0f ∷ 0 ∷ 0 ∷ 0 ∷ 0 ∷ 2 ∷ short_back) ≡ Err (No.NoSuchPair 0 0 0)
unfolding computing
row_short_no_pair = refl

pub row_short_too_great : says a2_b1 (short_front ++ 0xff ∷ 0xff ∷ 0xff ∷ 0xff ∷ 0x1f ∷ 0 ∷ 0 ∷ 0 ∷ 0 ∷ 2 ∷ short_back) ≡ Err (No.Malformed 52)
unfolding computing
row_short_too_great = refl

pub row_short_cut : says a2_b1 (take 64 short_bytes) ≡ Err (No.Malformed 62)
unfolding computing
row_short_cut = rw (decimal_digit 2 (omega arith))

pub row_entry_order : of_groups a2_b1 ((name 0 0 0 ∷ name 0 0 0 ∷ []) ∷ (name 0 0 1 ∷ []) ∷ []) ≡ Err (No.EntryOrder 0 0 1)
unfolding computing
row_entry_order = refl

pub row_unnamed : of_groups (line 97 50) ((name 0 0 0 ∷ name 0 0 2 ∷ []) ∷ []) ≡ Err (No.Unnamed 3 2)
unfolding computing
row_unnamed = rw (decimal_digit 2 (omega arith))

pub row_cut : says a2_b1 (take 91 good_bytes) ≡ Err (No.Malformed 80)
unfolding computing
row_cut = rw (decimal_digit 2 (omega arith))

pub row_longer : says a2_b1 (good_bytes ++ 0 ∷ []) ≡ Err (No.Malformed 92)
unfolding computing
row_longer = rw (decimal_digit 2 (omega arith), decimal_digit 1 (omega arith))

pub row_output_longer : says (a2_b1 ++ 0 ∷ []) good_bytes ≡ Err (No.OutputDiffers 0 8)
unfolding computing
row_output_longer = rw (decimal_digit 2 (omega arith), decimal_digit 1 (omega arith))

pub row_output_cut : says (take 7 a2_b1) good_bytes ≡ Err (No.OutputDiffers 0 7)
unfolding computing
row_output_cut = rw (decimal_digit 2 (omega arith), decimal_digit 1 (omega arith))

pub row_too_many : says_without 0 (first_record ∷ []) ≡ Err (No.TooManySkips 1)
unfolding computing
row_too_many = refl

pub row_left_out : says_without 1 (first_record ∷ []) ≡ Ok (record { skips = first_record ∷ []; pairs = 1 })
unfolding computing
row_left_out = rw (decimal_digit 1 (omega arith))

pub row_skip_twice : says_without 2 (first_record ∷ first_record ∷ []) ≡ Err (No.SkipOrder 1)
unfolding computing
row_skip_twice = refl

pub row_no_record : says_without 1 (record { split = 0; rec = 2 } ∷ []) ≡ Err (No.NoSuchRecord 0)
unfolding computing
row_no_record = refl

pub row_wrong_partition : of_a (line 97 49 ∷ [] ∷ [] ∷ []) (((name 0 0 0 ∷ []) ∷ []) ∷ [] ∷ [] ∷ []) ≡ Err (No.WrongPartition 0 0 0)
unfolding computing
row_wrong_partition = refl

pub row_right_partition : of_a ([] ∷ line 97 49 ∷ [] ∷ []) ([] ∷ ((name 0 0 0 ∷ []) ∷ []) ∷ [] ∷ []) ≡ Ok (record { skips = []; pairs = 1 })
unfolding computing
row_right_partition = rw (decimal_digit 1 (omega arith))

pub row_no_pair : of_groups a2_b1 ((last_name ∷ name 0 0 2 ∷ []) ∷ (name 0 0 1 ∷ []) ∷ []) ≡ Err (No.NoSuchPair 0 0 0)
unfolding computing
row_no_pair = refl

pub row_key_differs : of_groups a2_b1 ((name 0 0 0 ∷ name 0 0 1 ∷ []) ∷ (name 0 0 1 ∷ []) ∷ []) ≡ Err (No.KeyDiffers 0 0 1)
unfolding computing
row_key_differs = refl

pub row_key_order : of_groups (line 97 49 ++ line 97 49 ++ line 98 49) ((name 0 0 0 ∷ []) ∷ (name 0 0 2 ∷ []) ∷ (name 0 0 1 ∷ []) ∷ []) ≡ Err (No.KeyOrder 0 1 0)
unfolding computing
row_key_order = rw (decimal_digit 1 (omega arith))

pub row_swapped : of_groups a2_b1 ((name 0 0 1 ∷ []) ∷ (name 0 0 0 ∷ name 0 0 2 ∷ []) ∷ []) ≡ Err (No.OutputDiffers 0 0)
unfolding computing
row_swapped = rw (decimal_digit 1 (omega arith))

pub row_other_input : verdict_of (words 1 0) (a_b_aa ∷ []) (a2_b1 ∷ []) good_bytes ≡ Err No.OtherInput
unfolding computing
row_other_input = refl

pub row_other_job : verdict_of (record (words 1 0) { job = WordCount true }) (a_b_a ∷ []) (a2_b1 ∷ []) good_bytes ≡ Err No.OtherJob
unfolding computing
row_other_job = refl

pub row_two_outputs : verdict_of (words 1 0) (a_b_a ∷ []) (a2_b1 ∷ a2_b1 ∷ []) good_bytes ≡ Err No.OutputCount
unfolding computing
row_two_outputs = refl

pub row_third_yes : of_third (b1_d1 ++ line 102 50) (word 3 ∷ word 4 ∷ []) ≡ Ok (record { skips = []; pairs = 6 })
unfolding computing
row_third_yes = rw (decimal_digit 2 (omega arith), decimal_digit 1 (omega arith))

pub row_third_no_pair : of_third (b1_d1 ++ line 102 50) (word 3 ∷ word 9 ∷ []) ≡ Err (No.NoSuchPair 1 2 1)
unfolding computing
row_third_no_pair = rw (decimal_digit 2 (omega arith), decimal_digit 1 (omega arith))

pub row_third_entry_order : of_third (b1_d1 ++ line 102 50) (word 3 ∷ word 3 ∷ []) ≡ Err (No.EntryOrder 1 2 1)
unfolding computing
row_third_entry_order = rw (decimal_digit 2 (omega arith), decimal_digit 1 (omega arith))

pub row_third_key_differs : of_third (b1_d1 ++ line 102 50) (word 3 ∷ word 5 ∷ []) ≡ Err (No.KeyDiffers 1 2 1)
unfolding computing
row_third_key_differs = rw (decimal_digit 2 (omega arith), decimal_digit 1 (omega arith))

pub row_third_wrong_partition : of_third (b1_d1 ++ line 102 50) (word 5 ∷ word 4 ∷ []) ≡ Err (No.WrongPartition 1 2 0)
unfolding computing
row_third_wrong_partition = rw (decimal_digit 2 (omega arith), decimal_digit 1 (omega arith))

pub row_third_key_order : of_third (b1_d1 ++ line 102 50) (word 1 ∷ word 4 ∷ []) ≡ Err (No.KeyOrder 1 2 0)
unfolding computing
row_third_key_order = rw (decimal_digit 2 (omega arith), decimal_digit 1 (omega arith))

pub row_third_output : of_third (b1_d1 ++ line 102 51) (word 3 ∷ word 4 ∷ []) ≡ Err (No.OutputDiffers 1 10)
unfolding computing
row_third_output = rw (decimal_digit 2 (omega arith), decimal_digit 1 (omega arith))

pub row_third_output_longer : of_third (b1_d1 ++ line 102 50 ++ line 102 50) (word 3 ∷ word 4 ∷ []) ≡ Err (No.OutputDiffers 1 12)
unfolding computing
row_third_output_longer = rw (decimal_digit 2 (omega arith), decimal_digit 1 (omega arith))
