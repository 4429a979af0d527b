-- Each record belongs to the split that has its start.
use Rattle.std.proofs.Common.{◌≡◌, ℕ, ◌+◌, ◌*◌, ◌/◌, ◌<◌, ◌≤◌, ◌≢◌, zero, suc, min, cond, eqb, filter, map, List, [], ◌∷◌, ◌++◌, length, get_or, take, drop, All, refl, sym, ◌∙◌, ap, subst, arith, length-drop}
use Rattle.std.proofs.lemmas.List.{drop-drop, get_or-drop}
use Rattle.std.proofs.lemmas.List.Elements.{All-nil, All-cons, All-append, filter-append}
use Rattle.std.proofs.lemmas.List.{append-nil}
use Rattle.std.proofs.lemmas.Bool.{eq-eqb, ne_eqb}
use Rattle.std.proofs.Math.Nat.{div-mul-le_self, lt-div-mul-add}
use Rattle.mr_records.specs.Records.{Record, records}
use Rattle.mr_input.specs.Files.{split_count, split_total, nth_file}
use Rattle.mr_splits.specs.Named.{NamedRecord, named_from, named_files}
use Rattle.mr_splits.specs.Belongs.{Belongs, RecordsBelong, RecordsAreByFile}
use Rattle.mr_splits.specs.Laws.{record_of}
use Rattle.mr_records.proofs.RecordLemmas.{nil_case}
use Rattle.mr_splits.proofs.JoinedLemmas.{named-of}
use Rattle.mr_splits.proofs.StartLemmas.{StartsIn, starts-file, div-within}
use Rattle.mr_splits.proofs.TableLemmas.{split_total-more, split_total-none}

belongs-one : (size file first number : ℕ) (files : List (List ℕ)) (r : Record) → 0 < size → file < length files → first ≡ split_total size (take file files)
    → r.start < length (nth_file files file)
    → Belongs size files (record { name = record { split = first + r.start / size; rec = number }; file = file; start = r.start; bytes = r.bytes })
belongs-one size file first number files r some inside is h =
    let j : ℕ = r.start / size in
    let low : j * size ≤ r.start = div-mul-le_self r.start size in
    let high : r.start < j * size + size = lt-div-mul-add some in
    record {
      place = record { file = file; start = j * size; end = min ((j + 1) * size) (length (nth_file files file)) };
      split = record { in_file = j; file = inside; exists = div-within size r.start (length (nth_file files file)) some h; number = ap (λ k. k + j) is; start = refl; end = refl };
      file = refl;
      from = low;
      before = omega (arith, high, h);
    }

belongs-named : (size file first split next low : ℕ) (files : List (List ℕ)) (rs : List Record) → 0 < size → file < length files
    → first ≡ split_total size (take file files) → StartsIn low (length (nth_file files file)) rs
    → All (Belongs size files) (named_from size file first split next rs)
unfolding named_from
belongs-named size file first split next low files [] some inside is starts = All-nil (Belongs size files)
belongs-named size file first split next low files (r ∷ rs) some inside is starts =
    let here : ℕ = first + r.start / size in
    let number : ℕ = cond (eqb here split) next 0 in
    All-cons (Belongs size files) (record { name = record { split = here; rec = number }; file = file; start = r.start; bytes = r.bytes })
    (named_from size file first here (number + 1) rs)
    (belongs-one size file first number files r some inside is starts.1)
    (belongs-named size file first here (number + 1) (r.start + 1) files rs some inside is starts.2)

belongs-files : (size file : ℕ) (files fs : List (List ℕ)) → 0 < size → fs ≡ drop file files
    → All (Belongs size files) (named_files size file (split_total size (take file files)) fs)
unfolding named_files
belongs-files size file files [] some is = All-nil (Belongs size files)
belongs-files size file files (f ∷ fs) some is =
    let P : NamedRecord → Type 0 = Belongs size files in
    let inside : file < length files = omega (arith, ap length is, length-drop file files) in
    let here : f ≡ nth_file files file =
    ap (λ (l : List (List ℕ)). get_or l 0 []) is ∙ get_or-drop file files 0 [] ∙ ap (λ (i : ℕ). get_or files i []) (let e : file + 0 ≡ file = omega arith in e) in
    let first : ℕ = split_total size (take file files) in
    let next : split_total size (take (file + 1) files) ≡ first + split_count size f =
    split_total-more size files file inside ∙ ap (λ (g : List ℕ). first + split_count size g) (sym here) in
    let one : All P (named_from size file first first 0 (records f)) =
    subst (λ (g : List ℕ). All P (named_from size file first first 0 (records g))) (sym here)
    (belongs-named size file first first 0 0 files (records (nth_file files file)) some inside refl (starts-file (nth_file files file))) in
    let rest : All P (named_files size (file + 1) (first + split_count size f) fs) =
    subst (λ (n : ℕ). All P (named_files size (file + 1) n fs)) next
    (belongs-files size (file + 1) files fs some (ap (drop 1) is ∙ drop-drop 1 file files)) in
    All-append P (named_from size file first first 0 (records f)) (named_files size (file + 1) (first + split_count size f) fs) one rest

pub records-belong : RecordsBelong
records-belong size files some =
    subst (λ (n : ℕ). All (Belongs size files) (named_files size 0 n files)) (split_total-none size files) (belongs-files size 0 files files some refl)

-- the records told of the file `i`
abbrev of_file : ℕ → List NamedRecord → List NamedRecord
of_file i rs = filter (λ (r : NamedRecord). eqb r.file i) rs

own-file : (size file first split next i : ℕ) (rs : List Record) → file ≡ i
    → of_file i (named_from size file first split next rs) ≡ named_from size file first split next rs
unfolding named_from
own-file size file first split next i [] e = refl
own-file size file first split next i (r ∷ rs) e =
    let here : ℕ = first + r.start / size in
    let number : ℕ = cond (eqb here split) next 0 in
    let one : NamedRecord = record { name = record { split = here; rec = number }; file = file; start = r.start; bytes = r.bytes } in
    let rest : List NamedRecord = named_from size file first here (number + 1) rs in
    ap (λ t. cond t (one ∷ of_file i rest) (of_file i rest)) (eq-eqb file i e)
    ∙ ap (λ (l : List NamedRecord). one ∷ l) (own-file size file first here (number + 1) i rs e)

other-file : (size file first split next i : ℕ) (rs : List Record) → file ≢ i → of_file i (named_from size file first split next rs) ≡ []
unfolding named_from
other-file size file first split next i [] e = refl
other-file size file first split next i (r ∷ rs) e =
    let here : ℕ = first + r.start / size in
    let number : ℕ = cond (eqb here split) next 0 in
    let one : NamedRecord = record { name = record { split = here; rec = number }; file = file; start = r.start; bytes = r.bytes } in
    let rest : List NamedRecord = named_from size file first here (number + 1) rs in
    ap (λ t. cond t (one ∷ of_file i rest) (of_file i rest)) (ne_eqb file i e)
    ∙ other-file size file first here (number + 1) i rs e

later-files : (size file first i : ℕ) (fs : List (List ℕ)) → i < file → of_file i (named_files size file first fs) ≡ []
unfolding named_files
later-files size file first i [] h = refl
later-files size file first i (f ∷ fs) h =
    let mid : ℕ = first + split_count size f in
    filter-append (λ (r : NamedRecord). eqb r.file i) (named_from size file first first 0 (records f)) (named_files size (file + 1) mid fs)
    ∙ ap (λ (l : List NamedRecord). l ++ of_file i (named_files size (file + 1) mid fs)) (other-file size file first first 0 i (records f) (λ e. omega (arith, h, e)))
    ∙ later-files size (file + 1) mid i fs (omega (arith, h))

by-file : (size file first i k : ℕ) (fs : List (List ℕ)) → i ≡ file + k → map record_of (of_file i (named_files size file first fs)) ≡ records (nth_file fs k)
unfolding named_files
by-file size file first i k [] e = sym (nil_case 0)
by-file size file first i zero (f ∷ fs) e =
    let mid : ℕ = first + split_count size f in
    ap (map record_of)
    (filter-append (λ (r : NamedRecord). eqb r.file i) (named_from size file first first 0 (records f)) (named_files size (file + 1) mid fs)
    ∙ ap (λ (l : List NamedRecord). of_file i (named_from size file first first 0 (records f)) ++ l) (later-files size (file + 1) mid i fs (omega (arith, e)))
    ∙ append-nil (of_file i (named_from size file first first 0 (records f)))
    ∙ own-file size file first first 0 i (records f) (omega (arith, e)))
    ∙ named-of size file first first 0 (records f)
by-file size file first i (suc k) (f ∷ fs) e =
    let mid : ℕ = first + split_count size f in
    ap (map record_of)
    (filter-append (λ (r : NamedRecord). eqb r.file i) (named_from size file first first 0 (records f)) (named_files size (file + 1) mid fs)
    ∙ ap (λ (l : List NamedRecord). l ++ of_file i (named_files size (file + 1) mid fs)) (other-file size file first first 0 i (records f) (λ s. omega (arith, s, e))))
    ∙ by-file size (file + 1) mid i k fs (omega (arith, e))

pub records-by-file : RecordsAreByFile
records-by-file size files i = by-file size 0 0 i i files (omega arith)
