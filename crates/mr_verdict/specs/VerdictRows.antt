-- Worked verdicts.
use Rattle.std.specs.Prelude.{◌≡◌, ℕ, true, false, List, [], ◌∷◌, ◌++◌, take, Result, Ok, Err}
use Rattle.mr_bytes.specs.declared.By.TheVariants.{Key}
use Rattle.mr_bytes.specs.declared.Name.{Name}
use Rattle.mr_bytes.specs.declared.RecordName.{RecordName}
use Rattle.mr_jobs.specs.JobSpec.{RequestSpec, WordCount}
use Rattle.mr_certform.specs.declared.version.Version.{Version}
use Rattle.mr_certform.specs.declared.version.Version.TheVariants.{V1, V2}
use Rattle.mr_certform.specs.Value.{spelling}
use Rattle.mr_verdict.specs.declared.answers.No.{No}
use Rattle.mr_verdict.specs.Verdict.{Accepted, verdict_of}

-- count words, folded: so many partitions, splits of 64 bytes, at most so many records left out
abbrev pub words : ℕ → ℕ → RequestSpec
words parts skips = record { job = WordCount false; by = Key; parts = parts; split = 64; skips = skips }

-- `a b a`
abbrev pub a_b_a : List ℕ
a_b_a = 97 ∷ 32 ∷ 98 ∷ 32 ∷ 97 ∷ 10 ∷ []

-- `a b aa`
abbrev pub a_b_aa : List ℕ
a_b_aa = 97 ∷ 32 ∷ 98 ∷ 32 ∷ 97 ∷ 97 ∷ 10 ∷ []

-- `a b` and `c`
abbrev pub a_b_c : List ℕ
a_b_c = 97 ∷ 32 ∷ 98 ∷ 10 ∷ 99 ∷ 10 ∷ []

-- a byte, a tab, another, and a line feed
abbrev pub line : ℕ → ℕ → List ℕ
line word digit = word ∷ 9 ∷ digit ∷ 10 ∷ []

-- two times `a`, once `b`
abbrev pub a2_b1 : List ℕ
a2_b1 = line 97 50 ++ line 98 49

abbrev pub name : ℕ → ℕ → ℕ → Name
name split rec place = record { split = split; rec = rec; place = place }

-- the certificate of words over one file of so many bytes, in a version
abbrev pub certificate_in : Version → ℕ → ℕ → List RecordName → List (List (List Name)) → List ℕ
certificate_in version parts size skips groups =
    spelling version (record { job = 1; flags = 0; literal = []; parts = parts; split_size = 64; lengths = size ∷ []; skips = skips; groups = groups })

abbrev pub certificate : ℕ → ℕ → List RecordName → List (List (List Name)) → List ℕ
certificate = certificate_in V1

-- what is said of an output and one partition's groups over `a b a`
abbrev pub of_groups : List ℕ → List (List Name) → Result Accepted No
of_groups output groups = verdict_of (words 1 0) (a_b_a ∷ []) (output ∷ []) (certificate 1 6 [] (groups ∷ []))

abbrev pub good_bytes : List ℕ
good_bytes =
    0x4d ∷ 0x52 ∷ 0x43 ∷ 0x45 ∷ 0x52 ∷ 0x54 ∷ 0x31 ∷ 0x0a
    ∷ 0 ∷ 0 ∷ 0 ∷ 1 ∷ 0 ∷ 0 ∷ 0 ∷ 0 ∷ 0 ∷ 0 ∷ 0 ∷ 0 ∷ 0 ∷ 0 ∷ 0 ∷ 1 ∷ 0 ∷ 0 ∷ 0 ∷ 0x40 ∷ 0 ∷ 0 ∷ 0 ∷ 1
    ∷ 0 ∷ 0 ∷ 0 ∷ 0 ∷ 0 ∷ 0 ∷ 0 ∷ 6 ∷ 0 ∷ 0 ∷ 0 ∷ 0 ∷ 0 ∷ 0 ∷ 0 ∷ 2
    ∷ 0 ∷ 0 ∷ 0 ∷ 2 ∷ 0 ∷ 0 ∷ 0 ∷ 0 ∷ 0 ∷ 0 ∷ 0 ∷ 0 ∷ 0 ∷ 0 ∷ 0 ∷ 0 ∷ 0 ∷ 0 ∷ 0 ∷ 0 ∷ 0 ∷ 0 ∷ 0 ∷ 0 ∷ 0 ∷ 0 ∷ 0 ∷ 2
    ∷ 0 ∷ 0 ∷ 0 ∷ 1 ∷ 0 ∷ 0 ∷ 0 ∷ 0 ∷ 0 ∷ 0 ∷ 0 ∷ 0 ∷ 0 ∷ 0 ∷ 0 ∷ 1 ∷ []

-- the same certificate in version 2: three bytes a name, each behind the name before
abbrev pub short_front : List ℕ
short_front =
    0x4d ∷ 0x52 ∷ 0x43 ∷ 0x45 ∷ 0x52 ∷ 0x54 ∷ 0x32 ∷ 0x0a
    ∷ 0 ∷ 0 ∷ 0 ∷ 1 ∷ 0 ∷ 0 ∷ 0 ∷ 0 ∷ 0 ∷ 0 ∷ 0 ∷ 0 ∷ 0 ∷ 0 ∷ 0 ∷ 1 ∷ 0 ∷ 0 ∷ 0 ∷ 0x40 ∷ 0 ∷ 0 ∷ 0 ∷ 1
    ∷ 0 ∷ 0 ∷ 0 ∷ 0 ∷ 0 ∷ 0 ∷ 0 ∷ 6 ∷ 0 ∷ 0 ∷ 0 ∷ 0 ∷ 0 ∷ 0 ∷ 0 ∷ 2
    ∷ 0 ∷ 0 ∷ 0 ∷ 2 ∷ []

abbrev pub short_back : List ℕ
short_back = 0 ∷ 0 ∷ 0 ∷ 1 ∷ 0 ∷ 0 ∷ 1 ∷ []

abbrev pub short_bytes : List ℕ
short_bytes = short_front ++ 0 ∷ 0 ∷ 0 ∷ 0 ∷ 0 ∷ 2 ∷ short_back

-- what is said of an output and a certificate's bytes over `a b a`
abbrev pub says : List ℕ → List ℕ → Result Accepted No
says output bytes = verdict_of (words 1 0) (a_b_a ∷ []) (output ∷ []) bytes

-- what is said of outputs and of the groups of three partitions over `a`
abbrev pub of_a : List (List ℕ) → List (List (List Name)) → Result Accepted No
of_a outputs groups = verdict_of (words 3 0) ((97 ∷ 10 ∷ []) ∷ []) outputs (certificate 3 2 [] groups)

-- the greatest name that a certificate can spell
abbrev pub last_name : Name
last_name = name 4294967295 4294967295 4294967295

-- with the record `a b` left out, and so many allowed
abbrev pub says_without : ℕ → List RecordName → Result Accepted No
says_without most skips = verdict_of (words 1 most) (a_b_c ∷ []) (line 99 49 ∷ []) (certificate 1 6 skips (((name 0 1 0 ∷ []) ∷ []) ∷ []))

-- `a b d f f a`: of two partitions, the first has `a`, and the second `b`, `d` and `f`
abbrev pub a_b_d_f : List ℕ
a_b_d_f = 97 ∷ 32 ∷ 98 ∷ 32 ∷ 100 ∷ 32 ∷ 102 ∷ 32 ∷ 102 ∷ 32 ∷ 97 ∷ 10 ∷ []

-- its word at this place
abbrev pub word : ℕ → Name
word place = name 0 0 place

abbrev pub b1_d1 : List ℕ
b1_d1 = line 98 49 ++ line 100 49

-- what is said of the second output and of the last of three groups of the second partition
abbrev pub of_third : List ℕ → List Name → Result Accepted No
of_third output third =
    verdict_of (words 2 0) (a_b_d_f ∷ []) (line 97 50 ∷ output ∷ [])
    (certificate 2 12 [] (((word 0 ∷ word 5 ∷ []) ∷ []) ∷ ((word 1 ∷ []) ∷ (word 2 ∷ []) ∷ third ∷ []) ∷ []))

abbrev pub first_record : RecordName
first_record = record { split = 0; rec = 0 }

-- worked verdicts
pub record WorkedVerdicts : Type 0 where
  pub spelled : certificate 1 6 [] (((name 0 0 0 ∷ name 0 0 2 ∷ []) ∷ (name 0 0 1 ∷ []) ∷ []) ∷ []) ≡ good_bytes
  pub yes : says a2_b1 good_bytes ≡ Ok (record { skips = []; pairs = 3 })
  pub short_spelled : certificate_in V2 1 6 [] (((name 0 0 0 ∷ name 0 0 2 ∷ []) ∷ (name 0 0 1 ∷ []) ∷ []) ∷ []) ≡ short_bytes
  pub short_yes : says a2_b1 short_bytes ≡ Ok (record { skips = []; pairs = 3 })
  pub short_twice : says a2_b1 (short_front ++ 0 ∷ 0 ∷ 0 ∷ 0 ∷ 0 ∷ 0 ∷ short_back) ≡ Err (No.EntryOrder 0 0 1)
  pub short_no_number : says a2_b1 (short_front ++ 0 ∷ 0 ∷ 0 ∷ 0 ∷ 0 ∷ 0x82 ∷ 0 ∷ short_back) ≡ Err (No.Malformed 55)
  pub short_no_pair : says a2_b1 (short_front ++ 0xff ∷ 0xff ∷ 0xff ∷ 0xff ∷ 0x0f ∷ 0 ∷ 0 ∷ 0 ∷ 0 ∷ 2 ∷ short_back) ≡ Err (No.NoSuchPair 0 0 0)
  pub short_too_great : says a2_b1 (short_front ++ 0xff ∷ 0xff ∷ 0xff ∷ 0xff ∷ 0x1f ∷ 0 ∷ 0 ∷ 0 ∷ 0 ∷ 2 ∷ short_back) ≡ Err (No.Malformed 52)
  pub short_cut : says a2_b1 (take 64 short_bytes) ≡ Err (No.Malformed 62)
  pub entry_order : of_groups a2_b1 ((name 0 0 0 ∷ name 0 0 0 ∷ []) ∷ (name 0 0 1 ∷ []) ∷ []) ≡ Err (No.EntryOrder 0 0 1)
  pub unnamed : of_groups (line 97 50) ((name 0 0 0 ∷ name 0 0 2 ∷ []) ∷ []) ≡ Err (No.Unnamed 3 2)
  pub cut : says a2_b1 (take 91 good_bytes) ≡ Err (No.Malformed 80)
  pub longer : says a2_b1 (good_bytes ++ 0 ∷ []) ≡ Err (No.Malformed 92)
  pub output_longer : says (a2_b1 ++ 0 ∷ []) good_bytes ≡ Err (No.OutputDiffers 0 8)
  pub output_cut : says (take 7 a2_b1) good_bytes ≡ Err (No.OutputDiffers 0 7)
  pub too_many : says_without 0 (first_record ∷ []) ≡ Err (No.TooManySkips 1)
  pub left_out : says_without 1 (first_record ∷ []) ≡ Ok (record { skips = first_record ∷ []; pairs = 1 })
  pub skip_twice : says_without 2 (first_record ∷ first_record ∷ []) ≡ Err (No.SkipOrder 1)
  pub no_record : says_without 1 (record { split = 0; rec = 2 } ∷ []) ≡ Err (No.NoSuchRecord 0)
  pub wrong_partition : of_a (line 97 49 ∷ [] ∷ [] ∷ []) (((name 0 0 0 ∷ []) ∷ []) ∷ [] ∷ [] ∷ []) ≡ Err (No.WrongPartition 0 0 0)
  pub right_partition : of_a ([] ∷ line 97 49 ∷ [] ∷ []) ([] ∷ ((name 0 0 0 ∷ []) ∷ []) ∷ [] ∷ []) ≡ Ok (record { skips = []; pairs = 1 })
  pub no_pair : of_groups a2_b1 ((last_name ∷ name 0 0 2 ∷ []) ∷ (name 0 0 1 ∷ []) ∷ []) ≡ Err (No.NoSuchPair 0 0 0)
  pub key_differs : of_groups a2_b1 ((name 0 0 0 ∷ name 0 0 1 ∷ []) ∷ (name 0 0 1 ∷ []) ∷ []) ≡ Err (No.KeyDiffers 0 0 1)
  pub key_order : of_groups (line 97 49 ++ line 97 49 ++ line 98 49) ((name 0 0 0 ∷ []) ∷ (name 0 0 2 ∷ []) ∷ (name 0 0 1 ∷ []) ∷ []) ≡ Err (No.KeyOrder 0 1 0)
  pub swapped : of_groups a2_b1 ((name 0 0 1 ∷ []) ∷ (name 0 0 0 ∷ name 0 0 2 ∷ []) ∷ []) ≡ Err (No.OutputDiffers 0 0)
  pub other_input : verdict_of (words 1 0) (a_b_aa ∷ []) (a2_b1 ∷ []) good_bytes ≡ Err No.OtherInput
  pub other_job : verdict_of (record (words 1 0) { job = WordCount true }) (a_b_a ∷ []) (a2_b1 ∷ []) good_bytes ≡ Err No.OtherJob
  pub two_outputs : verdict_of (words 1 0) (a_b_a ∷ []) (a2_b1 ∷ a2_b1 ∷ []) good_bytes ≡ Err No.OutputCount

-- worked verdicts of the second partition, in its third group, at its second entry
pub record WorkedPlaces : Type 0 where
  pub yes : of_third (b1_d1 ++ line 102 50) (word 3 ∷ word 4 ∷ []) ≡ Ok (record { skips = []; pairs = 6 })
  pub no_pair : of_third (b1_d1 ++ line 102 50) (word 3 ∷ word 9 ∷ []) ≡ Err (No.NoSuchPair 1 2 1)
  pub entry_order : of_third (b1_d1 ++ line 102 50) (word 3 ∷ word 3 ∷ []) ≡ Err (No.EntryOrder 1 2 1)
  pub key_differs : of_third (b1_d1 ++ line 102 50) (word 3 ∷ word 5 ∷ []) ≡ Err (No.KeyDiffers 1 2 1)
  pub wrong_partition : of_third (b1_d1 ++ line 102 50) (word 5 ∷ word 4 ∷ []) ≡ Err (No.WrongPartition 1 2 0)
  pub key_order : of_third (b1_d1 ++ line 102 50) (word 1 ∷ word 4 ∷ []) ≡ Err (No.KeyOrder 1 2 0)
  pub output : of_third (b1_d1 ++ line 102 51) (word 3 ∷ word 4 ∷ []) ≡ Err (No.OutputDiffers 1 10)
  pub output_longer : of_third (b1_d1 ++ line 102 50 ++ line 102 50) (word 3 ∷ word 4 ∷ []) ≡ Err (No.OutputDiffers 1 12)
