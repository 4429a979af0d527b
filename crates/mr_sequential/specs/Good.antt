-- A good result: outputs with the names that a certificate lists, against what a job emits over an input.
use Rattle.std.specs.Prelude.{◌≡◌, ℕ, ◌<◌, ◌≤◌, ◌==◌, Bool, ◌&&◌, IsTrue, IsSome, Option, List, [], ◌∷◌, length, map, slice_index_or}
use Rattle.std.specs.Option.{option_map_or}
use Rattle.std.specs.List.{AllByRecursion, filter_map, flat_map, find}
use Rattle.mr_bytes.specs.declared.Name.{Name}
use Rattle.mr_bytes.specs.declared.Value.{Value}
use Rattle.mr_bytes.specs.Lists.{Rises}
use Rattle.mr_bytes.specs.Order.{key_order, name_order, record_order}
use Rattle.mr_jobs.specs.JobSpec.{RequestSpec, flags_of, job_literal, job_number}
use Rattle.mr_input.specs.Files.{nth_file}
use Rattle.mr_splits.specs.Named.{named_records}
use Rattle.mr_splits.specs.Cut.{is_record}
use Rattle.mr_certform.specs.Value.{Contents, Spells}
use Rattle.mr_bytes.specs.Pairs.{Triple}
use Rattle.mr_sequential.specs.Emitted.{emitted}
use Rattle.mr_sequential.specs.Rules.{Key, Text, Rules, rules_of}

abbrev pub has_name : Name → Triple → Bool
has_name n t = (t.name.split == n.split) && ((t.name.rec == n.rec) && (t.name.place == n.place))

-- the triple of that name
abbrev pub named : List Triple → Name → Option Triple
named ts n = find (has_name n) ts

-- the key under that name; where there is none, no bytes
abbrev pub key_under : List Triple → Name → Key
key_under ts n = option_map_or (λ t. t.key) (named ts n) []

-- the key of a group is that of its first entry
abbrev pub key_of : List Triple → List Name → Key
key_of ts [] = []
key_of ts (n ∷ ns) = key_under ts n

-- the values of the named triples
abbrev pub values_under : List Triple → List Name → List Value
values_under ts ns = map (λ t. t.value) (filter_map (named ts) ns)

-- the text of the group of these names
abbrev pub text_under : (Key → List Value → Text) → List Triple → List Name → Text
text_under text ts ns = text (key_of ts ns) (values_under ts ns)

-- there is an entry, each names a triple, names rise, all entries have one key, and its partition is p
pub record IsGoodGroup (part : Key → ℕ) (ts : List Triple) (p : ℕ) (ns : List Name) : Type 0 where
  pub some_entry : 1 ≤ length ns
  pub entries : AllByRecursion (λ n. IsSome (named ts n)) ns
  pub names_rise : Rises name_order ns
  pub one_key : AllByRecursion (λ n. key_under ts n ≡ key_of ts ns) ns
  pub partition : part (key_of ts ns) ≡ p

-- each group is good, and keys rise from group to group
pub record AreGoodGroups (part : Key → ℕ) (ts : List Triple) (p : ℕ) (gs : List (List Name)) : Type 0 where
  pub each : AllByRecursion (IsGoodGroup part ts p) gs
  pub keys_rise : Rises key_order (map (key_of ts) gs)

-- the groups are good, and the output is their texts, joined
pub record IsGoodPart (rules : Rules) (ts : List Triple) (p : ℕ) (gs : List (List Name)) (output : Text) : Type 0 where
  pub groups : AreGoodGroups rules.part ts p gs
  pub output_is : output ≡ flat_map (text_under rules.text ts) gs

-- the groups of a partition, and none past the last
abbrev pub groups_at : List (List (List Name)) → ℕ → List (List Name)
groups_at parts p = slice_index_or parts p []

-- the names of all entries
abbrev pub entries_of : List (List (List Name)) → List Name
entries_of parts = flat_map (λ groups. flat_map (λ ns. ns) groups) parts

-- one output for each partition, each partition good, and as many entries as triples
pub record AreGood (rules : Rules) (ts : List Triple) (parts : List (List (List Name))) (outputs : List Text) : Type 0 where
  pub one_each : length outputs ≡ length parts
  pub each : (p : ℕ) → p < length parts → IsGoodPart rules ts p (groups_at parts p) (nth_file outputs p)
  pub none_left_out : length (entries_of parts) ≡ length ts

-- the certificate is of this request and these files, what it leaves out is allowed, and its groups with the outputs are
-- good against all that is emitted without that
pub record IsGood (request : RequestSpec) (files outputs : List (List ℕ)) (c : Contents) : Type 0 where
  pub job : c.job ≡ job_number request.job
  pub flags : c.flags ≡ flags_of request
  pub literal : c.literal ≡ job_literal request.job
  pub parts : c.parts ≡ request.parts
  pub split_size : c.split_size ≡ request.split
  pub lengths : c.lengths ≡ map length files
  pub skips_rise : Rises record_order c.skips
  pub skips_exist : AllByRecursion (λ name. IsTrue (is_record (named_records request.split files) name)) c.skips
  pub skips_few : length c.skips ≤ request.skips
  pub one_each : length c.groups ≡ request.parts
  pub result : AreGood (rules_of request) (emitted request.job request.split files c.skips) c.groups outputs

-- the bytes spell a certificate, and with it the outputs are good
pub record IsGoodResult (request : RequestSpec) (files outputs : List (List ℕ)) (bytes : List ℕ) : Type 0 where
  pub certificate : Contents
  pub spelled : Spells bytes certificate
  pub good : IsGood request files outputs certificate
