-- Each record is a line of its file.
use Rattle.std.proofs.Common.{◌≡◌, ℕ, ◌+◌, ◌-◌, ◌<◌, ◌≤◌, ◌/◌, cond, eqb, List, [], ◌∷◌, length, get_or, drop, All, refl, sym, ◌∙◌, ap, subst, arith, slice_range, length-drop}
use Rattle.std.proofs.lemmas.List.{drop-drop, get_or-drop, length-take}
use Rattle.std.proofs.lemmas.List.Elements.{All-nil, All-cons, All-head, All-tail, All-append}
use Rattle.mr_records.specs.Records.{Record, records}
use Rattle.mr_records.specs.Ends.{ended_at, EndsRise, is_open}
use Rattle.mr_records.proofs.EndLemmas.{ends_of}
use Rattle.mr_input.specs.Files.{nth_file, split_count}
use Rattle.mr_jobs.specs.Hits.{IsLine}
use Rattle.mr_splits.specs.Named.{NamedRecord, named_from, named_files, named_records}

-- the record is a line of its file
abbrev pub Stands : List (List ℕ) → NamedRecord → Type 0
Stands files r = IsLine files r.file r.start r.bytes

-- the bytes of a record are those of its file from its start on
abbrev LineIn : List ℕ → Record → Type 0
LineIn file r = (r.start + length r.bytes ≤ length file) × (slice_range file r.start (r.start + length r.bytes) ≡ r.bytes)

range_line : (file : List ℕ) (from e : ℕ) → from ≤ e → e ≤ length file → LineIn file (record { start = from; bytes = slice_range file from e })
range_line file from e order within =
    let size : from + length (slice_range file from e) ≡ e = omega (arith, length-take (e - from) (drop from file), length-drop from file, order, within) in
    (omega (arith, size, within), ap (slice_range file from) size)

ended_lines : (file : List ℕ) (from : ℕ) (ends : List ℕ) → EndsRise file from ends → All (LineIn file) (ended_at file from ends)
ended_lines file from [] rise = All-nil (LineIn file)
ended_lines file from (e ∷ es) rise =
    All-cons (LineIn file) (record { start = from; bytes = slice_range file from e }) (ended_at file (e + 1) es)
    (range_line file from e rise.0 rise.1) (ended_lines file (e + 1) es rise.2)

file_lines : (file : List ℕ) → All (LineIn file) (records file)
file_lines file =
    let tail : List ℕ = cond (is_open file) (length file ∷ []) [] in
    let ended = ends_of file tail refl in
    subst (All (LineIn file)) (sym ended.1) (ended_lines file 0 _ ended.0)

named_lines : (size file first split next : ℕ) (files : List (List ℕ)) (rs : List Record) → file < length files → All (LineIn (nth_file files file)) rs
    → All (Stands files) (named_from size file first split next rs)
unfolding named_from
named_lines size file first split next files [] inside lines = All-nil (Stands files)
named_lines size file first split next files (r ∷ rs) inside lines =
    let here : ℕ = first + r.start / size in
    let number : ℕ = cond (eqb here split) next 0 in
    let line : LineIn (nth_file files file) r = All-head (LineIn (nth_file files file)) r rs lines in
    All-cons (Stands files) (record { name = record { split = here; rec = number }; file = file; start = r.start; bytes = r.bytes })
    (named_from size file first here (number + 1) rs)
    (record { inside = inside; within = line.0; bytes = line.1 })
    (named_lines size file first here (number + 1) files rs inside (All-tail (LineIn (nth_file files file)) r rs lines))

files_lines : (size file first : ℕ) (files fs : List (List ℕ)) → fs ≡ drop file files → All (Stands files) (named_files size file first fs)
unfolding named_files
files_lines size file first files [] is = All-nil (Stands files)
files_lines size file first files (f ∷ fs) is =
    let inside : file < length files = omega (arith, ap length is, length-drop file files) in
    let here : f ≡ nth_file files file =
    ap (λ (l : List (List ℕ)). get_or l 0 []) is ∙ get_or-drop file files 0 [] ∙ ap (λ (i : ℕ). get_or files i []) (let e : file + 0 ≡ file = omega arith in e) in
    let lines : All (LineIn (nth_file files file)) (records f) = subst (λ (g : List ℕ). All (LineIn (nth_file files file)) (records g)) (sym here) (file_lines (nth_file files file)) in
    All-append (Stands files) (named_from size file first first 0 (records f)) (named_files size (file + 1) (first + split_count size f) fs)
    (named_lines size file first first 0 files (records f) inside lines)
    (files_lines size (file + 1) (first + split_count size f) files fs (ap (drop 1) is ∙ drop-drop 1 file files))

pub records-stand : (size : ℕ) (files : List (List ℕ)) → All (Stands files) (named_records size files)
records-stand size files = files_lines size 0 0 files files refl
