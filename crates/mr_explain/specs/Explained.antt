-- The evidence behind a count: the records of an input that give a key, or that give nothing, and what is printed of them.
use Rattle.std.specs.Prelude.{◌≡◌, ℕ, ◌+◌, ◌==◌, Bool, nat_lt, if◌then◌else◌, List, [], ◌∷◌, ◌++◌, codes, count_by, decimal, filter, length, slice_index_or, sum_by, take, false}
use Rattle.std.specs.List.{filter_map, flat_map}
use Rattle.std.specs.Str.{bytes_eq}
use Rattle.mr_input.specs.Files.{nth_file}
use Rattle.mr_jobs.specs.JobSpec.{JobSpec}
use Rattle.mr_jobs.specs.Emissions.{Emission, emissions}
use Rattle.mr_splits.specs.Named.{NamedRecord}
use Rattle.mr_splits.specs.Cut.{record_named, records_of}
use Rattle.mr_splits.specs.Kept.{kept_records}
use Rattle.mr_store.specs.Devices.{Seen, counted}
use Rattle.mr_explain.specs.declared.query.ExplainFault.{ExplainFault}
use Rattle.mr_explain.specs.declared.query.ExplainFault.TheVariants.{Device}
use Rattle.mr_explain.specs.declared.query.Query.{Query}
use Rattle.mr_explain.specs.declared.query.SourceFile.{SourceFile}
use Rattle.mr_explain.specs.declared.query.Wanted.{Wanted}
use Rattle.mr_explain.specs.declared.query.Wanted.TheVariants.{Key, Nothing}

-- the pairs that have the key
abbrev pub pairs_with : List ℕ → List Emission → List Emission
pairs_with key es = filter (λ e. bytes_eq e.0 key) es

-- the key is among their keys
abbrev pub has_key : List ℕ → List Emission → Bool
has_key key es = nat_lt 0 (length (pairs_with key es))

-- a record that emits these pairs is looked for: it gives the key, or nothing
abbrev pub is_wanted : Wanted → List Emission → Bool
is_wanted (Key key) es = has_key key.now es
is_wanted Nothing es = length es == 0

-- a record of these bytes is not looked for, wherever it stands
abbrev pub IsUnwanted : JobSpec → Wanted → List ℕ → Type 0
IsUnwanted job wanted line = (file start : ℕ) → is_wanted wanted (emissions job file start line) ≡ false

-- how many of the pairs have the key
abbrev pub value_count : Wanted → List Emission → ℕ
value_count (Key key) es = length (pairs_with key.now es)
value_count Nothing es = 0

-- what a record emits
abbrev pub pairs_of : JobSpec → NamedRecord → List Emission
pairs_of job r = emissions job r.file r.start r.bytes

-- the records that are looked for, in their order
abbrev pub evidence : JobSpec → Wanted → List NamedRecord → List NamedRecord
evidence job wanted rs = filter (λ r. is_wanted wanted (pairs_of job r)) rs

-- how many values records have for the key
abbrev pub pair_total : JobSpec → Wanted → List NamedRecord → ℕ
pair_total job wanted rs = sum_by (λ r. value_count wanted (pairs_of job r)) rs

-- the line feeds of a file before a place
abbrev pub feeds_before : List ℕ → ℕ → ℕ
feeds_before file place = count_by (λ b. b == 0x0A) (take place file)

abbrev pub no_source : SourceFile
no_source = record { name = record { ref_ptr = (0, 0); now = [] }; lines_before = 0; bytes_before = 0 }

abbrev pub nth_source : List SourceFile → ℕ → SourceFile
nth_source sources file = slice_index_or sources file no_source

-- FILE, a colon, LINE from 1, a colon, OFFSET from 0, and a colon
abbrev pub head_of : SourceFile → ℕ → ℕ → List ℕ
head_of source feeds start =
    source.name.now ++ 58 ∷ decimal (source.lines_before + feeds + 1) ++ 58 ∷ decimal (source.bytes_before + start) ++ 58 ∷ []

-- what is printed of the record `bytes`, which begins at the place `start` of the file `file`
abbrev pub line_at : List SourceFile → List (List ℕ) → ℕ → ℕ → List ℕ → List ℕ
line_at sources files file start bytes =
    head_of (nth_source sources file) (feeds_before (nth_file files file) start) start ++ bytes ++ 10 ∷ []

-- the first of these records that are looked for, up to the limit, each behind the prefix
abbrev pub listing : Query → List ℕ → List NamedRecord → List ℕ
listing q prefix rs =
    flat_map (λ r. prefix ++ line_at q.sources.now q.plan.now.files r.file r.start r.bytes) (take q.limit (evidence q.job.now q.wanted rs))

-- the label, and how many pairs and records
abbrev pub summary_line : List ℕ → ℕ → ℕ → List ℕ
summary_line label pairs records =
    label ++ codes ": " ++ decimal pairs ++ codes " pairs in " ++ decimal records ++ codes " records\n"

abbrev pub label_of : Wanted → List ℕ
label_of (Key key) = key.now
label_of Nothing = codes "nothing"

abbrev pub summary_of : JobSpec → Wanted → List ℕ → List NamedRecord → List ℕ
summary_of job wanted label rs = summary_line label (pair_total job wanted rs) (length (evidence job wanted rs))

-- the records that the job reads
abbrev pub kept_of : Query → List NamedRecord
kept_of q = kept_records q.skips.now (records_of q.plan.now)

-- those that it is told to leave out
abbrev pub left_out_of : Query → List NamedRecord
left_out_of q = filter_map (record_named (records_of q.plan.now)) q.skips.now

-- the kept records that are looked for, and how many
abbrev pub kept_text : Query → List ℕ
kept_text q = listing q [] (kept_of q) ++ summary_of q.job.now q.wanted (label_of q.wanted) (kept_of q)

-- the left-out records that are looked for, and how many; nothing where there are none
abbrev pub left_out_text : Query → List ℕ
left_out_text q =
    if length (evidence q.job.now q.wanted (left_out_of q)) == 0
    then []
    else listing q (codes "left out:") (left_out_of q) ++ summary_of q.job.now q.wanted (codes "left out") (left_out_of q)

-- all that is printed
abbrev pub explanation : Query → List ℕ
explanation q = kept_text q ++ left_out_text q

-- why printing stopped: at `Device`, just one more call of the writer has failed
abbrev pub IsCutOff : Seen → Seen → ExplainFault → Type 0
IsCutOff before after fault = fault ≡ Device → after.failed ≡ counted before.failed
