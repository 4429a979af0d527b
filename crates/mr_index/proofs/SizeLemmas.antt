-- How many bytes the keys of all pairs have together: each record gives at most as many as it has.
use Rattle.std.proofs.Common.{◌≡◌, ℕ, ◌+◌, ◌/◌, ◌≤◌, ◌^◌, cond, true, false, List, [], ◌∷◌, ◌++◌, length, refl, ap, arith, eqb, length-append, slice_range}
use Rattle.std.proofs.lemmas.List.Sums.{sum_by-cons, sum_by-append}
use Rattle.std.specs.List.{flat_map}
use Rattle.mr_bytes.specs.declared.RecordName.{RecordName}
use Rattle.mr_bytes.specs.declared.Value.{Value}
use Rattle.mr_records.specs.Records.{Record, lengthen, records_from, records}
use Rattle.mr_input.specs.Files.{split_count, total_size}
use Rattle.mr_jobs.specs.JobSpec.{JobSpec}
use Rattle.mr_jobs.specs.Emissions.{Emission, emissions}
use Rattle.mr_jobs.proofs.CountLemmas.{keys_fit}
use Rattle.mr_splits.specs.Named.{NamedRecord, is_left_out, named_from, named_files, named_records, of_split}
use Rattle.mr_sequential.specs.Pairs.{kept_pairs}
use Rattle.mr_sequential.proofs.SourceLemmas.{few_pairs}
use Rattle.mr_index.specs.Pairs.{pairs_from, pairs_seen, EndsRise, Sound, keys_size, Fits}
use Rattle.mr_index.specs.declared.pairs.Pairs.{Pairs}
use Rattle.mr_index.proofs.PairLemmas.{rise-request, range-size}

abbrev key_length : Emission → ℕ
key_length e = length e.0

size-pairs : (at : ℕ) (keys ends : List ℕ) (values : List Value) → EndsRise at (length keys) ends → length values ≡ length ends
    → at + keys_size (pairs_from at keys ends values) ≡ length keys
size-pairs at keys [] values r h = omega (arith, r)
size-pairs at keys (e ∷ ends) [] r h = absurd (omega (arith, h))
size-pairs at keys (e ∷ ends) (v ∷ values) r h =
    omega (
      arith,
      sum_by-cons key_length (slice_range keys at e, v) (pairs_from e keys ends values),
      size-pairs e keys ends values r.1 (omega (arith, h)),
      range-size keys at e r.0 (rise-request e (length keys) ends r.1),
      r.0,
    )

-- the keys have together the bytes of the buffer
pub size-seen : (p : Pairs) → Sound p → keys_size (pairs_seen p) ≡ length p.keys.items
size-seen p s = omega (arith, size-pairs 0 p.keys.items p.ends.items p.values s.rise s.values)

-- ---- the bytes of all records

bytes_in : List NamedRecord → ℕ
bytes_in [] = 0
bytes_in (r ∷ rs) = length r.bytes + bytes_in rs

plain_bytes : List Record → ℕ
plain_bytes [] = 0
plain_bytes (r ∷ rs) = length r.bytes + plain_bytes rs

bytes-append : (xs ys : List NamedRecord) → bytes_in (xs ++ ys) ≡ bytes_in xs + bytes_in ys
unfolding bytes_in
bytes-append [] ys = omega arith
bytes-append (x ∷ xs) ys = omega (arith, bytes-append xs ys)

bytes-named : (size file first split next : ℕ) (rs : List Record) → bytes_in (named_from size file first split next rs) ≡ plain_bytes rs
unfolding bytes_in plain_bytes named_from
bytes-named size file first split next [] = refl
bytes-named size file first split next (r ∷ rs) =
    ap (λ n. length r.bytes + n)
    (bytes-named size file first (first + r.start / size) (cond (eqb (first + r.start / size) split) next 0 + 1) rs)

bytes-lengthen : (at b n : ℕ) (rs : List Record) → plain_bytes rs ≤ n → plain_bytes (lengthen at b rs) ≤ n + 1
unfolding plain_bytes lengthen
bytes-lengthen at b n [] h = omega arith
bytes-lengthen at b n (r ∷ rs) h = omega (arith, h)

bytes-records : (at : ℕ) (bs : List ℕ) → plain_bytes (records_from at bs) ≤ length bs
unfolding plain_bytes records_from
bytes-records at [] = omega arith
bytes-records at (b ∷ bs) =
    let rest : List Record = records_from (at + 1) bs in
    let later : plain_bytes rest ≤ length bs = bytes-records (at + 1) bs in
    let longer : plain_bytes (lengthen at b rest) ≤ length bs + 1 = bytes-lengthen at b (length bs) rest later in
    elim (eqb b 10) as (λ t. plain_bytes (cond t (record { start = at; bytes = [] } ∷ rest) (lengthen at b rest)) ≤ length (b ∷ bs)) [
      | true ↦ omega (arith, later)
      | false ↦ omega (arith, longer)
    ]

bytes-files : (size file first : ℕ) (files : List (List ℕ)) → bytes_in (named_files size file first files) ≤ total_size files
unfolding bytes_in named_files
bytes-files size file first [] = omega arith
bytes-files size file first (f ∷ fs) =
    let here = bytes-named size file first first 0 (records f) in
    let later = bytes-files size (file + 1) (first + split_count size f) fs in
    omega (
      arith,
      bytes-append (named_from size file first first 0 (records f)) (named_files size (file + 1) (first + split_count size f) fs),
      here,
      later,
      bytes-records 0 f,
      sum_by-cons (length {A = ℕ}) f fs,
    )

kept-size : (job : JobSpec) (skips : List RecordName) (r : NamedRecord) → keys_size (kept_pairs job skips r) ≤ length r.bytes
kept-size job skips r =
    elim (is_left_out skips r.name) as (λ t. keys_size (cond t [] (emissions job r.file r.start r.bytes)) ≤ length r.bytes) [
      | true ↦ omega arith
      | false ↦ keys_fit job r.file r.start r.bytes
    ]

all-size : (job : JobSpec) (skips : List RecordName) (rs : List NamedRecord) → keys_size (flat_map (kept_pairs job skips) rs) ≤ bytes_in rs
unfolding bytes_in
all-size job skips [] = omega arith
all-size job skips (r ∷ rs) =
    omega (arith, sum_by-append key_length (kept_pairs job skips r) (flat_map (kept_pairs job skips) rs), kept-size job skips r, all-size job skips rs)

-- what a job emits over files within the limits of an input
all-fits : (job : JobSpec) (skips : List RecordName) (size : ℕ) (files : List (List ℕ)) → length files ≤ 1024 → total_size files ≤ 2 ^ 30
    → Fits (flat_map (kept_pairs job skips) (named_records size files))
all-fits job skips size files few small = (
  omega (arith, few_pairs job skips size files few small),
  omega (arith, all-size job skips (named_records size files), bytes-files size 0 0 files, small),
)

-- a split gives no more than all records
split-few : (gives : NamedRecord → List Emission) (split : ℕ) (rs : List NamedRecord)
    → (length (flat_map gives (of_split split rs)) ≤ length (flat_map gives rs)) × (keys_size (flat_map gives (of_split split rs)) ≤ keys_size (flat_map gives rs))
split-few gives split [] = (omega arith, omega arith)
split-few gives split (r ∷ rs) =
    let later = split-few gives split rs in
    let own : List NamedRecord = of_split split rs in
    let long = length-append (gives r) (flat_map gives rs) in
    let size = sum_by-append key_length (gives r) (flat_map gives rs) in
    elim (eqb r.name.split split) as (λ b. (length (flat_map gives (cond b (r ∷ own) own)) ≤ length (flat_map gives (r ∷ rs)))
    × (keys_size (flat_map gives (cond b (r ∷ own) own)) ≤ keys_size (flat_map gives (r ∷ rs)))) [
      | true ↦ (
        omega (arith, later.0, long, length-append (gives r) (flat_map gives own)),
        omega (arith, later.1, size, sum_by-append key_length (gives r) (flat_map gives own)),
      )
      | false ↦ (omega (arith, later.0, long), omega (arith, later.1, size))
    ]

pub split-fits : (job : JobSpec) (skips : List RecordName) (split size : ℕ) (files : List (List ℕ)) → length files ≤ 1024 → total_size files ≤ 2 ^ 30
    → Fits (flat_map (kept_pairs job skips) (of_split split (named_records size files)))
split-fits job skips split size files few small =
    let all = all-fits job skips size files few small in
    let own = split-few (kept_pairs job skips) split (named_records size files) in
    (omega (arith, all.0, own.0), omega (arith, all.1, own.1))
