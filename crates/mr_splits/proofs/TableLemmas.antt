-- The tables of a plan as they grow, and what they say.
use Rattle.std.proofs.Common.{◌≡◌, ℕ, zero, suc, ◌+◌, ◌-◌, ◌*◌, ◌/◌, ◌<◌, ◌≤◌, min, Bool, true, false, cond, eqb, List, [], ◌∷◌, ◌++◌, length, get_or, take, drop, All, refl, sym, ◌∙◌, ap, subst, arith, inl, inr, map, append_assoc, slice_range, length-append, length-drop}
use Rattle.std.proofs.lemmas.Bool.{cases_lt, eq-eqb, ne_eqb}
use Rattle.std.proofs.lemmas.Nat.{le-div, div_below}
use Rattle.std.proofs.lemmas.List.{append-nil, drop-append-le, take-append-le, drop_at, take_all, get_or_append_left, get_or_push, length_push, take_more, at_drop_more, at_drop_all}
use Rattle.std.proofs.lemmas.List.Elements.{recursion_from_All, All-weaker}
use Rattle.std.specs.List.{AllByRecursion}
use Rattle.mr_bytes.specs.declared.Span.{Span}
use Rattle.mr_records.specs.Records.{Record, record_at, records_from, records, Within}
use Rattle.mr_records.proofs.RecordLemmas.{records_from-end}
use Rattle.mr_input.specs.Files.{split_count, split_total, nth_file}
use Rattle.mr_splits.specs.declared.plan.SplitPlace.{SplitPlace}
use Rattle.mr_splits.specs.declared.split_table.Row.{Row}
use Rattle.mr_splits.specs.Named.{NamedRecord, named_from, named_files, named_records}
use Rattle.mr_splits.specs.Places.{IsSplit}
use Rattle.mr_splits.specs.Table.{numbered, spans_from, spans_of, row_records, listed, Tiles, RowStands, Stands, Takes}
use Rattle.mr_splits.proofs.StartLemmas.{StartsIn, starts-records, div-rises}

-- records that all start in one split
pub named-here : (size file first s k : ℕ) (bytes : List ℕ) (more : List Span) (ys : List Record)
    → AllByRecursion (λ (p : Span). first + p.start / size ≡ s) more
    → named_from size file first s k (map (record_at bytes) more ++ ys)
    ≡ numbered s file k (map (record_at bytes) more) ++ named_from size file first s (k + length more) ys
unfolding named_from numbered
named-here size file first s k bytes [] ys h =
    ap (λ (n : ℕ). named_from size file first s n ys) (let e : ◌≡◌ {A = ℕ} k (k + 0) = omega arith in e)
named-here size file first s k bytes (p ∷ more) ys h =
    let here : ℕ = first + p.start / size in
    let rest : List Record = map (record_at bytes) more ++ ys in
    let one : ℕ → ℕ → List NamedRecord = λ a n.
    record { name = record { split = a; rec = n }; file = file; start = p.start; bytes = slice_range bytes p.start p.end }
    ∷ named_from size file first a (n + 1) rest in
    let number : cond (eqb here s) k 0 ≡ k = ap (λ t. cond t k 0) (eq-eqb here s h.0) in
    ap (one here) number ∙ ap (λ (a : ℕ). one a k) h.0
    ∙ ap (λ (l : List NamedRecord). record { name = record { split = s; rec = k }; file = file; start = p.start; bytes = slice_range bytes p.start p.end } ∷ l)
    (named-here size file first s (k + 1) bytes more ys h.1
    ∙ ap (λ (n : ℕ). numbered s file (k + 1) (map (record_at bytes) more) ++ named_from size file first s n ys)
    (let e : k + 1 + length more ≡ k + suc (length more) = omega arith in e))

cond-same : (t : Bool) → ◌≡◌ {A = ℕ} (cond t 0 0) 0
cond-same true = refl
cond-same false = refl

-- the numbers begin anew where no record of the split is left
named-move : (size file first s next low high : ℕ) (rs : List Record) → 0 < size → StartsIn low high rs → s < first + low / size
    → named_from size file first s next rs ≡ named_from size file first (s + 1) 0 rs
unfolding named_from
named-move size file first s next low high [] some starts past = refl
named-move size file first s next low high (r ∷ rs) some starts past =
    let here : ℕ = first + r.start / size in
    let one : ℕ → List NamedRecord = λ n.
    record { name = record { split = here; rec = n }; file = file; start = r.start; bytes = r.bytes }
    ∷ named_from size file first here (n + 1) rs in
    let up : low / size ≤ r.start / size = div-rises size low r.start some starts.0 in
    let left : cond (eqb here s) next 0 ≡ 0 = ap (λ t. cond t next 0) (ne_eqb here s (λ e. omega (arith, e, past, up))) in
    ap one (left ∙ sym (cond-same (eqb here (s + 1))))

named-nil : (size file first s next : ℕ) → named_from size file first s next [] ≡ []
unfolding named_from
named-nil size file first s next = refl

pub named-next : (size file first j next from : ℕ) (bytes : List ℕ) → 0 < size → min ((j + 1) * size) (length bytes) ≤ from
    → named_from size file first (first + j) next (records_from from (drop from bytes))
    ≡ named_from size file first (first + (j + 1)) 0 (records_from from (drop from bytes))
named-next size file first j next from bytes some past =
    elim (cases_lt from (length bytes)) [
      | inl inside ↦
          let up : j + 1 ≤ from / size = le-div (j + 1) from size some (omega arith) in
          named-move size file first (first + j) next from (from + length (drop from bytes)) (records_from from (drop from bytes)) some
          (starts-records from (drop from bytes)) (omega (arith, up))
          ∙ ap (λ (n : ℕ). named_from size file first n 0 (records_from from (drop from bytes))) (let e : first + j + 1 ≡ first + (j + 1) = omega arith in e)
      | inr end ↦
          let none : records_from from (drop from bytes) ≡ [] = records_from-end from bytes end in
          ap (named_from size file first (first + j) next) none ∙ named-nil size file first (first + j) next
          ∙ sym (ap (named_from size file first (first + (j + 1)) 0) none ∙ named-nil size file first (first + (j + 1)) 0)
    ]

-- a part of a list that has grown behind it
range-more : {X : Type 0} (xs ys : List X) (a b : ℕ) → a ≤ b → b ≤ length xs → slice_range (xs ++ ys) a b ≡ slice_range xs a b
range-more xs ys a b order within =
    ap (take (b - a)) (drop-append-le a xs ys (omega arith))
    ∙ take-append-le (b - a) (drop a xs) ys (omega (arith, length-drop a xs))

range-end : {X : Type 0} (xs ys : List X) → slice_range (xs ++ ys) (length xs) (length xs + length ys) ≡ ys
range-end xs ys =
    ap (take (length xs + length ys - length xs)) (drop_at xs ys (length xs) refl) ∙ take_all (length xs + length ys - length xs) ys (omega arith)

pub tiles-order : (at end : ℕ) (rows : List Row) → Tiles at end rows → at ≤ end
tiles-order at end [] t = omega (arith, t)
tiles-order at end (row ∷ rows) t = omega (arith, tiles-order (at + row.count) end rows t.1)

tiles-push : (at end : ℕ) (rows : List Row) (one : Row) → Tiles at end rows → one.first ≡ end → Tiles at (end + one.count) (rows ++ one ∷ [])
tiles-push at end [] one t e = (e ∙ sym t, ap (λ (n : ℕ). n + one.count) t)
tiles-push at end (row ∷ rows) one t e = (t.0, tiles-push (at + row.count) end rows one t.1 e)

-- the range of each row lies among the ends
pub tiles-within : (at end : ℕ) (rows : List Row) (i : ℕ) (d : Row) → Tiles at end rows → i < length rows
    → (get_or rows i d).first + (get_or rows i d).count ≤ end
tiles-within at end [] i d t h = absurd (omega arith)
tiles-within at end (row ∷ rows) zero d t h = omega (arith, tiles-order (at + row.count) end rows t.1, t.0)
tiles-within at end (row ∷ rows) (suc i) d t h = tiles-within (at + row.count) end rows i d t.1 (omega arith)

tiles-first : (at end : ℕ) (rows : List Row) (d : Row) → Tiles at end rows → 0 < length rows → (get_or rows 0 d).first ≡ at
tiles-first at end [] d t h = absurd (omega arith)
tiles-first at end (row ∷ rows) d t h = t.0

-- the range of a row begins where that of the row before ends
pub tiles-next : (at end : ℕ) (rows : List Row) (i : ℕ) (d : Row) → Tiles at end rows → suc i < length rows
    → (get_or rows (suc i) d).first ≡ (get_or rows i d).first + (get_or rows i d).count
tiles-next at end [] i d t h = absurd (omega arith)
tiles-next at end (row ∷ rows) zero d t h =
    tiles-first (at + row.count) end rows d t.1 (omega arith) ∙ ap (λ (n : ℕ). n + row.count) (sym t.0)
tiles-next at end (row ∷ rows) (suc i) d t h = tiles-next (at + row.count) end rows i d t.1 (omega arith)

pub tiles-begin : (end : ℕ) (rows : List Row) (d : Row) → Tiles 0 end rows → 0 < length rows → (get_or rows 0 d).first ≡ 0
tiles-begin end rows d t h = tiles-first 0 end rows d t h

spans-more : (ends more : List ℕ) (row : Row) → row.first + row.count ≤ length ends → spans_of (ends ++ more) row ≡ spans_of ends row
spans-more ends more row h = ap (spans_from row.begin) (range-more ends more row.first (row.first + row.count) (omega arith) h)

-- the rows say the same where ends are added
listed-more : (files : List (List ℕ)) (ends more : List ℕ) (s at end : ℕ) (rows : List Row) → Tiles at end rows → end ≤ length ends
    → listed files (ends ++ more) s rows ≡ listed files ends s rows
unfolding listed
listed-more files ends more s at end [] t h = refl
listed-more files ends more s at end (row ∷ rows) t h =
    let within : row.first + row.count ≤ length ends = omega (arith, tiles-order (at + row.count) end rows t.1, t.0, h) in
    ap (λ (ss : List Span). numbered s row.place.file 0 (map (record_at (nth_file files row.place.file)) ss) ++ listed files (ends ++ more) (s + 1) rows)
    (spans-more ends more row within)
    ∙ ap (λ (l : List NamedRecord). row_records files ends s row ++ l) (listed-more files ends more (s + 1) (at + row.count) end rows t.1 h)

listed-append : (files : List (List ℕ)) (ends : List ℕ) (s : ℕ) (rows : List Row) (one : Row)
    → listed files ends s (rows ++ one ∷ []) ≡ listed files ends s rows ++ row_records files ends (s + length rows) one
unfolding listed
listed-append files ends s [] one =
    append-nil (row_records files ends s one)
    ∙ ap (λ (n : ℕ). row_records files ends n one) (let e : ◌≡◌ {A = ℕ} s (s + 0) = omega arith in e)
listed-append files ends s (row ∷ rows) one =
    let e : s + 1 + length rows ≡ s + suc (length rows) = omega arith in
    ap (λ (l : List NamedRecord). row_records files ends s row ++ l)
    (listed-append files ends (s + 1) rows one ∙ ap (λ (n : ℕ). listed files ends (s + 1) rows ++ row_records files ends n one) e)
    ∙ sym (append_assoc (row_records files ends s row) (listed files ends (s + 1) rows) (row_records files ends (s + suc (length rows)) one))

spans-new : (ends more : List ℕ) (one : Row) → one.first ≡ length ends → one.count ≡ length more → spans_of (ends ++ more) one ≡ spans_from one.begin more
spans-new ends more one first count =
    ap (λ (a : ℕ). spans_from one.begin (slice_range (ends ++ more) a (a + one.count))) first
    ∙ ap (λ (n : ℕ). spans_from one.begin (slice_range (ends ++ more) (length ends) (length ends + n))) count
    ∙ ap (spans_from one.begin) (range-end ends more)

-- one more row, for the ends that are added
pub listed-push : (files : List (List ℕ)) (ends more : List ℕ) (rows : List Row) (one : Row) → Tiles 0 (length ends) rows
    → one.first ≡ length ends → one.count ≡ length more
    → listed files (ends ++ more) 0 (rows ++ one ∷ [])
    ≡ listed files ends 0 rows ++ numbered (length rows) one.place.file 0 (map (record_at (nth_file files one.place.file)) (spans_from one.begin more))
listed-push files ends more rows one t first count =
    let new : spans_of (ends ++ more) one ≡ spans_from one.begin more = spans-new ends more one first count in
    listed-append files (ends ++ more) 0 rows one
    ∙ ap (λ (l : List NamedRecord). l ++ row_records files (ends ++ more) (0 + length rows) one)
    (listed-more files ends more 0 0 (length ends) rows t (omega arith))
    ∙ ap (λ (ss : List Span). listed files ends 0 rows ++ numbered (0 + length rows) one.place.file 0 (map (record_at (nth_file files one.place.file)) ss)) new
    ∙ ap (λ (n : ℕ). listed files ends 0 rows ++ numbered n one.place.file 0 (map (record_at (nth_file files one.place.file)) (spans_from one.begin more)))
    (let e : 0 + length rows ≡ length rows = omega arith in e)

stands-more : (size : ℕ) (files : List (List ℕ)) (ends more : List ℕ) (s : ℕ) (row : Row) → row.first + row.count ≤ length ends
    → RowStands size files ends s row → RowStands size files (ends ++ more) s row
stands-more size files ends more s row h r = record {
  place = r.place;
  within = subst (λ (ss : List Span). All (Within (nth_file files row.place.file)) ss) (sym (spans-more ends more row h)) r.within;
}

pub stands-push : (size : ℕ) (files : List (List ℕ)) (ends more : List ℕ) (rows : List Row) (one : Row) → Stands size files ends rows
    → one.first ≡ length ends → one.count ≡ length more → IsSplit size files (length rows) one.place
    → All (Within (nth_file files one.place.file)) (spans_from one.begin more)
    → Stands size files (ends ++ more) (rows ++ one ∷ [])
stands-push size files ends more rows one st first count place within =
    let new : spans_of (ends ++ more) one ≡ spans_from one.begin more = spans-new ends more one first count in
    let last : RowStands size files (ends ++ more) (length rows) one =
    record { place = place; within = subst (λ (ss : List Span). All (Within (nth_file files one.place.file)) ss) (sym new) within } in
    record {
      rows_stand = λ s d h.
          elim (cases_lt s (length rows)) [
            | inl old ↦
                subst (RowStands size files (ends ++ more) s) (sym (get_or_append_left rows (one ∷ []) d s old))
                (stands-more size files ends more s (get_or rows s d) (tiles-within 0 (length ends) rows s d st.tiles old) (st.rows_stand s d old))
            | inr late ↦
                let here : length rows ≡ s = omega (arith, late, h, length_push rows one) in
                subst (RowStands size files (ends ++ more) s) (sym (get_or_push rows one d s here))
                (subst (λ (n : ℕ). RowStands size files (ends ++ more) n one) here last)
          ];
      tiles = subst (λ (n : ℕ). Tiles 0 n (rows ++ one ∷ []))
          (ap (λ (n : ℕ). length ends + n) count ∙ sym (length-append ends more)) (tiles-push 0 (length ends) rows one st.tiles first);
    }

split_total-nil : (size : ℕ) → split_total size [] ≡ 0
unfolding split_total
split_total-nil size = refl

split_total-push : (size : ℕ) (files : List (List ℕ)) (f : List ℕ) → split_total size (files ++ f ∷ []) ≡ split_total size files + split_count size f
unfolding split_total
split_total-push size [] f = omega arith
split_total-push size (g ∷ files) f = omega (arith, split_total-push size files f)

pub split_total-more : (size : ℕ) (files : List (List ℕ)) (i : ℕ) → i < length files
    → split_total size (take (i + 1) files) ≡ split_total size (take i files) + split_count size (nth_file files i)
split_total-more size files i h = ap (split_total size) (take_more files i [] h) ∙ split_total-push size (take i files) (nth_file files i)

pub split_total-none : (size : ℕ) (files : List (List ℕ)) → split_total size (take 0 files) ≡ 0
split_total-none size files = split_total-nil size

-- how far a file is cut: `j` of its splits are in the table, and `all` is what the table will say of the files up to it
pub record Cutting (size : ℕ) (files : List (List ℕ)) (file : ℕ) (all : List NamedRecord) (start from : ℕ) (ends : List ℕ) (rows : List Row) (j : ℕ) : Type 0 where
  pub rows_are : length rows ≡ split_total size (take file files) + j
  pub stands : Stands size files ends rows
  pub said : listed files ends 0 rows
      ++ named_from size file (split_total size (take file files)) (split_total size (take file files) + j) 0 (records_from from (drop from (nth_file files file)))
      ≡ all
  pub start_is : start ≡ min (j * size) (length (nth_file files file))
  pub past : start ≤ from
  pub some_left : j ≤ split_count size (nth_file files file)

pub cutting-begun : (size : ℕ) (files : List (List ℕ)) (file : ℕ) (ends : List ℕ) (rows : List Row)
    → length rows ≡ split_total size (take file files) → Stands size files ends rows
    → Cutting size files file
    (listed files ends 0 rows
    ++ named_from size file (split_total size (take file files)) (split_total size (take file files)) 0 (records (nth_file files file)))
    0 0 ends rows 0
cutting-begun size files file ends rows count stands = record {
  rows_are = omega (arith, count);
  stands = stands;
  said = ap (λ (n : ℕ). listed files ends 0 rows ++ named_from size file (split_total size (take file files)) n 0 (records (nth_file files file)))
      (let e : split_total size (take file files) + 0 ≡ split_total size (take file files) = omega arith in e);
  start_is = omega arith;
  past = omega arith;
  some_left = omega arith;
}

split-exists : (size j n : ℕ) → 0 < size → j * size < n → j < (n + size - 1) / size
split-exists size j n some h =
    let k : j + 1 ≤ (n + size - 1) / size = le-div (j + 1) (n + size - 1) size some (omega (arith, h, some)) in
    omega (arith, k)

-- a start within the split `j` of a file
in-split : (size before j start : ℕ) → 0 < size → j * size ≤ start → start < (j + 1) * size → before + start / size ≡ before + j
in-split size before j start some low high =
    let up : j ≤ start / size = le-div j start size some low in
    let down : start / size < j + 1 = div_below start size (j + 1) some high in
    omega (arith, up, down)

pub cutting-more : (size : ℕ) (files : List (List ℕ)) (file : ℕ) (all : List NamedRecord) (start from end next : ℕ) (ends more : List ℕ)
    (rows : List Row) (one : Row) (j : ℕ) → 0 < size → file < length files → Cutting size files file all start from ends rows j
    → start < length (nth_file files file) → end ≡ min (length (nth_file files file)) (start + size)
    → Takes (nth_file files file) from end next more → end ≤ next
    → one.place ≡ record { file = file; start = start; end = end } → one.begin ≡ from → one.first ≡ length ends → one.count ≡ length more
    → Cutting size files file all end next (ends ++ more) (rows ++ one ∷ []) (j + 1)
cutting-more size files file all start from end next ends more rows one j some inside cut left end-is taken past place begin first count =
    let bytes : List ℕ = nth_file files file in
    let before : ℕ = split_total size (take file files) in
    let begins : start ≡ j * size = omega (arith, cut.start_is, left) in
    let stops : end ≡ min ((j + 1) * size) (length bytes) = omega (arith, begins, end-is) in
    let is : IsSplit size files (length rows) (record { file = file; start = start; end = end }) = record {
      in_file = j;
      file = inside;
      exists = split-exists size j (length bytes) some (omega (arith, begins, left));
      number = cut.rows_are;
      start = begins;
      end = stops;
    } in
    let file-is : one.place.file ≡ file = ap (λ (p : SplitPlace). p.file) place in
    let spans : List Span = spans_from from more in
    let here : AllByRecursion (λ (p : Span). before + p.start / size ≡ before + j) spans =
    recursion_from_All (λ (p : Span). before + p.start / size ≡ before + j) spans
    (All-weaker (λ (p : Span). (from ≤ p.start) × (p.start < end)) (λ (p : Span). before + p.start / size ≡ before + j)
    (λ p b. in-split size before j p.start some (omega (arith, b.0, cut.past, begins)) (omega (arith, b.1, stops))) spans taken.belong) in
    let rest : List Record = records_from next (drop next bytes) in
    let named : named_from size file before (before + j) 0 (records_from from (drop from bytes))
    ≡ numbered (before + j) file 0 (map (record_at bytes) spans) ++ named_from size file before (before + (j + 1)) 0 rest =
    ap (named_from size file before (before + j) 0) taken.records
    ∙ named-here size file before (before + j) 0 bytes spans rest here
    ∙ ap (λ (l : List NamedRecord). numbered (before + j) file 0 (map (record_at bytes) spans) ++ l)
    (named-next size file before j (0 + length spans) next bytes some (omega (arith, stops, past))) in
    let pushed : listed files (ends ++ more) 0 (rows ++ one ∷ []) ≡ listed files ends 0 rows ++ numbered (before + j) file 0 (map (record_at bytes) spans) =
    listed-push files ends more rows one cut.stands.tiles first count
    ∙ ap (λ (f : ℕ). listed files ends 0 rows ++ numbered (length rows) f 0 (map (record_at (nth_file files f)) (spans_from one.begin more))) file-is
    ∙ ap (λ (n : ℕ). listed files ends 0 rows ++ numbered n file 0 (map (record_at bytes) (spans_from one.begin more))) cut.rows_are
    ∙ ap (λ (b : ℕ). listed files ends 0 rows ++ numbered (before + j) file 0 (map (record_at bytes) (spans_from b more))) begin in
    record {
      rows_are = omega (arith, length_push rows one, cut.rows_are);
      stands = stands-push size files ends more rows one cut.stands first count (subst (IsSplit size files (length rows)) (sym place) is)
          (subst (λ (f : ℕ). All (Within (nth_file files f)) (spans_from one.begin more)) (sym file-is)
          (subst (λ (b : ℕ). All (Within bytes) (spans_from b more)) (sym begin) taken.within));
      said = ap (λ (l : List NamedRecord). l ++ named_from size file before (before + (j + 1)) 0 rest) pushed
          ∙ append_assoc (listed files ends 0 rows) (numbered (before + j) file 0 (map (record_at bytes) spans))
          (named_from size file before (before + (j + 1)) 0 rest)
          ∙ ap (λ (l : List NamedRecord). listed files ends 0 rows ++ l) (sym named) ∙ cut.said;
      start_is = stops;
      past = past;
      some_left = omega (arith, is.exists);
    }

-- the same, for the tables as the calls leave them
pub cutting-step : (size : ℕ) (files : List (List ℕ)) (file : ℕ) (all : List NamedRecord) (start from end next : ℕ) (ends more ends' : List ℕ)
    (rows rows' : List Row) (bytes : List ℕ) (first count j : ℕ) → 0 < size → file < length files → Cutting size files file all start from ends rows j
    → bytes ≡ nth_file files file → start < length bytes → end ≡ min (length bytes) (start + size)
    → Takes bytes from end next more → end ≤ next → first ≡ length ends → count ≡ length more
    → ends' ≡ ends ++ more
    → rows' ≡ rows ++ record { place = record { file = file; start = start; end = end }; count = count; begin = from; first = first } ∷ []
    → Cutting size files file all end next ends' rows' (j + 1)
cutting-step size files file all start from end next ends more ends' rows rows' bytes first count j some inside cut is left end-is taken past first-is count-is grown pushed =
    let one : Row = record { place = record { file = file; start = start; end = end }; count = count; begin = from; first = first } in
    let P : List ℕ → Type 0 = λ b. (start < length b) × (end ≡ min (length b) (start + size)) × Takes b from end next more in
    let all-is : P (nth_file files file) = subst P is (left, end-is, taken) in
    subst (λ (rs : List Row). Cutting size files file all end next ends' rs (j + 1)) (sym pushed)
    (subst (λ (es : List ℕ). Cutting size files file all end next es (rows ++ one ∷ []) (j + 1)) (sym grown)
    (cutting-more size files file all start from end next ends more rows one j some inside cut all-is.0 all-is.1 all-is.2 past refl refl first-is count-is))

pub cutting-done : (size : ℕ) (files : List (List ℕ)) (file : ℕ) (all : List NamedRecord) (start from : ℕ) (ends : List ℕ) (rows : List Row) (j : ℕ)
    → 0 < size → Cutting size files file all start from ends rows j → length (nth_file files file) ≤ start
    → (length rows ≡ split_total size (take file files) + split_count size (nth_file files file)) × (listed files ends 0 rows ≡ all)
cutting-done size files file all start from ends rows j some cut done =
    let bytes : List ℕ = nth_file files file in
    let before : ℕ = split_total size (take file files) in
    let whole : length bytes ≤ j * size = omega (arith, cut.start_is, done) in
    let last : (length bytes + size - 1) / size < j + 1 = div_below (length bytes + size - 1) size (j + 1) some (omega (arith, whole, some)) in
    let none : records_from from (drop from bytes) ≡ [] = records_from-end from bytes (omega (arith, cut.past, done)) in (
      omega (arith, cut.rows_are, cut.some_left, last),
      sym (append-nil (listed files ends 0 rows))
          ∙ ap (λ (l : List NamedRecord). listed files ends 0 rows ++ l)
          (sym (ap (named_from size file before (before + j) 0) none ∙ named-nil size file before (before + j) 0))
          ∙ cut.said,
    )

pub stands-none : (size : ℕ) (files : List (List ℕ)) → Stands size files [] []
stands-none size files = record { rows_stand = λ s d h. absurd (omega (arith, h)); tiles = refl }

-- the table before any file is cut
pub said-none : (size : ℕ) (files : List (List ℕ)) → listed files [] 0 [] ++ named_files size 0 (split_total size (take 0 files)) (drop 0 files) ≡ named_records size files
unfolding listed
said-none size files = ap (λ (n : ℕ). named_files size 0 n files) (split_total-none size files)

named_files-cons : (size file first : ℕ) (f : List ℕ) (fs : List (List ℕ))
    → named_files size file first (f ∷ fs) ≡ named_from size file first first 0 (records f) ++ named_files size (file + 1) (first + split_count size f) fs
unfolding named_files
named_files-cons size file first f fs = refl

named_files-nil : (size file first : ℕ) → named_files size file first [] ≡ []
unfolding named_files
named_files-nil size file first = refl

-- one more file
pub said-more : (size : ℕ) (files : List (List ℕ)) (i : ℕ) (before after all : List NamedRecord) → i < length files
    → after ≡ before ++ named_from size i (split_total size (take i files)) (split_total size (take i files)) 0 (records (nth_file files i))
    → before ++ named_files size i (split_total size (take i files)) (drop i files) ≡ all
    → after ++ named_files size (i + 1) (split_total size (take (i + 1) files)) (drop (i + 1) files) ≡ all
said-more size files i before after all h new said =
    let first : ℕ = split_total size (take i files) in
    let one : List NamedRecord = named_from size i first first 0 (records (nth_file files i)) in
    let rest : ℕ → List NamedRecord = λ n. named_files size (i + 1) n (drop (i + 1) files) in
    ap (λ (l : List NamedRecord). l ++ rest (split_total size (take (i + 1) files))) new
    ∙ append_assoc before one (rest (split_total size (take (i + 1) files)))
    ∙ ap (λ (n : ℕ). before ++ (one ++ rest n)) (split_total-more size files i h)
    ∙ ap (λ (l : List NamedRecord). before ++ l)
    (sym (at_drop_more (named_files size i first) files i [] h ∙ named_files-cons size i first (nth_file files i) (drop (i + 1) files)))
    ∙ said

pub said-all : (size : ℕ) (files : List (List ℕ)) (i : ℕ) (before all : List NamedRecord) → length files ≤ i
    → before ++ named_files size i (split_total size (take i files)) (drop i files) ≡ all → before ≡ all
said-all size files i before all h said =
    sym (append-nil before)
    ∙ ap (λ (l : List NamedRecord). before ++ l)
    (sym (at_drop_all (named_files size i (split_total size (take i files))) files i h ∙ named_files-nil size i (split_total size (take i files))))
    ∙ said
