-- What the tables of a plan say of its splits and records.
use Rattle.std.proofs.Common.{◌≡◌, ◌≢◌, ℕ, zero, suc, ◌+◌, ◌-◌, ◌<◌, ◌≤◌, eqb, List, [], ◌∷◌, ◌++◌, All, length, get_or, refl, sym, ◌∙◌, ap, subst, arith, map, append_assoc, slice_range, length-append}
use Rattle.std.proofs.lemmas.List.{append-nil, length-map, get_or_append_left, get_or-append-add}
use Rattle.std.proofs.lemmas.List.Elements.{filter-append}
use Rattle.mr_bytes.specs.declared.Span.{Span}
use Rattle.mr_records.specs.Records.{Record, record_at, Within}
use Rattle.mr_input.specs.Files.{split_total}
use Rattle.mr_input.specs.Files as input
use Rattle.mr_splits.specs.declared.split_table.Row.{Row}
use Rattle.mr_splits.specs.Named.{NamedRecord, named_records, of_split}
use Rattle.mr_splits.specs.Laws.{joined_splits}
use Rattle.mr_splits.specs.Cut.{Cut, records_of, nth_named}
use Rattle.mr_splits.specs.Table.{numbered, spans_of, nth_span, row_records, listed, Tiles, Stands}
use Rattle.mr_splits.proofs.JoinedLemmas.{of_split-same, of_split-other, joined-zero, joined-suc, splits-join}
use Rattle.mr_splits.proofs.SpanLemmas.{length-spans_of}
use Rattle.mr_splits.proofs.TableLemmas.{tiles-within, tiles-next, tiles-begin}

of_split-numbered : (s file next : ℕ) (rs : List Record) → of_split s (numbered s file next rs) ≡ numbered s file next rs
unfolding numbered
of_split-numbered s file next [] = refl
of_split-numbered s file next (r ∷ rs) =
    let one : NamedRecord = record { name = record { split = s; rec = next }; file = file; start = r.start; bytes = r.bytes } in
    of_split-same s one (numbered s file (next + 1) rs) refl ∙ ap (λ (l : List NamedRecord). one ∷ l) (of_split-numbered s file (next + 1) rs)

of_split-apart : (s t file next : ℕ) (rs : List Record) → t ≢ s → of_split s (numbered t file next rs) ≡ []
unfolding numbered
of_split-apart s t file next [] h = refl
of_split-apart s t file next (r ∷ rs) h =
    let one : NamedRecord = record { name = record { split = t; rec = next }; file = file; start = r.start; bytes = r.bytes } in
    of_split-other s one (numbered t file (next + 1) rs) h ∙ of_split-apart s t file (next + 1) rs h

of_split-append : (s : ℕ) (xs ys : List NamedRecord) → of_split s (xs ++ ys) ≡ of_split s xs ++ of_split s ys
of_split-append s xs ys = filter-append (λ (r : NamedRecord). eqb r.name.split s) xs ys

of_split-later : (files : List (List ℕ)) (ends : List ℕ) (s low : ℕ) (rows : List Row) → s < low → of_split s (listed files ends low rows) ≡ []
unfolding listed
of_split-later files ends s low [] h = refl
of_split-later files ends s low (row ∷ rows) h =
    of_split-append s (row_records files ends low row) (listed files ends (low + 1) rows)
    ∙ ap (λ (l : List NamedRecord). l ++ of_split s (listed files ends (low + 1) rows))
    (of_split-apart s low row.place.file 0 (map (record_at (input.nth_file files row.place.file)) (spans_of ends row)) (λ e. omega (arith, e, h)))
    ∙ of_split-later files ends s (low + 1) rows (omega (arith, h))

of_split-listed : (files : List (List ℕ)) (ends : List ℕ) (low k : ℕ) (rows : List Row) (d : Row) → k < length rows
    → of_split (low + k) (listed files ends low rows) ≡ row_records files ends (low + k) (get_or rows k d)
unfolding listed
of_split-listed files ends low k [] d h = absurd (omega arith)
of_split-listed files ends low zero (row ∷ rows) d h =
    let e : low ≡ low + 0 = omega arith in
    subst (λ (n : ℕ). of_split n (row_records files ends low row ++ listed files ends (low + 1) rows) ≡ row_records files ends n row) e
    (of_split-append low (row_records files ends low row) (listed files ends (low + 1) rows)
    ∙ ap (λ (l : List NamedRecord). of_split low (row_records files ends low row) ++ l) (of_split-later files ends low (low + 1) rows (omega arith))
    ∙ append-nil (of_split low (row_records files ends low row))
    ∙ of_split-numbered low row.place.file 0 (map (record_at (input.nth_file files row.place.file)) (spans_of ends row)))
of_split-listed files ends low (suc k) (row ∷ rows) d h =
    let e : low + 1 + k ≡ low + suc k = omega arith in
    of_split-append (low + suc k) (row_records files ends low row) (listed files ends (low + 1) rows)
    ∙ ap (λ (l : List NamedRecord). l ++ of_split (low + suc k) (listed files ends (low + 1) rows))
    (of_split-apart (low + suc k) low row.place.file 0 (map (record_at (input.nth_file files row.place.file)) (spans_of ends row)) (λ x. omega (arith, x)))
    ∙ subst (λ (n : ℕ). of_split n (listed files ends (low + 1) rows) ≡ row_records files ends n (get_or rows k d)) e
    (of_split-listed files ends (low + 1) k rows d (omega arith))

-- the records of a split are those of its row
row-is : (size : ℕ) (files : List (List ℕ)) (ends : List ℕ) (rows : List Row) (s : ℕ) (d : Row)
    → listed files ends 0 rows ≡ named_records size files → s < length rows
    → of_split s (named_records size files) ≡ row_records files ends s (get_or rows s d)
row-is size files ends rows s d all h =
    ap (of_split s) (sym all)
    ∙ subst (λ (n : ℕ). of_split n (listed files ends 0 rows) ≡ row_records files ends n (get_or rows s d)) (let e : 0 + s ≡ s = omega arith in e)
    (of_split-listed files ends 0 s rows d h)

length-numbered : (s file next : ℕ) (rs : List Record) → length (numbered s file next rs) ≡ length rs
unfolding numbered
length-numbered s file next [] = refl
length-numbered s file next (r ∷ rs) = ap suc (length-numbered s file (next + 1) rs)

pub records-in : (size : ℕ) (files : List (List ℕ)) (ends : List ℕ) (rows : List Row) (s : ℕ) (d : Row) → Stands size files ends rows
    → listed files ends 0 rows ≡ named_records size files → s < length rows
    → (get_or rows s d).count ≡ length (of_split s (named_records size files))
records-in size files ends rows s d st all h =
    let row : Row = get_or rows s d in
    sym (ap length (row-is size files ends rows s d all h)
    ∙ length-numbered s row.place.file 0 (map (record_at (input.nth_file files row.place.file)) (spans_of ends row))
    ∙ length-map (spans_of ends row) (record_at (input.nth_file files row.place.file))
    ∙ length-spans_of ends row (tiles-within 0 (length ends) rows s d st.tiles h))

-- the record that a span shows, with its name
abbrev pub shown : ℕ → ℕ → ℕ → List ℕ → Span → NamedRecord
shown s r file bytes p = record { name = record { split = s; rec = r }; file = file; start = p.start; bytes = slice_range bytes p.start p.end }

nth-numbered : (s file next i : ℕ) (bytes : List ℕ) (spans : List Span) (d : Span) → i < length spans
    → nth_named (numbered s file next (map (record_at bytes) spans)) i
    ≡ shown s (next + i) file bytes (get_or spans i d)
unfolding numbered
nth-numbered s file next i bytes [] d h = absurd (omega arith)
nth-numbered s file next zero bytes (p ∷ spans) d h =
    ap (λ (n : ℕ). shown s n file bytes p)
    (let e : next ≡ next + 0 = omega arith in e)
nth-numbered s file next (suc i) bytes (p ∷ spans) d h =
    nth-numbered s file (next + 1) i bytes spans d (omega arith)
    ∙ ap (λ (n : ℕ). shown s n file bytes (get_or spans i d))
    (let e : next + 1 + i ≡ next + suc i = omega arith in e)

-- where the record `r` of the split `s` stands
pub record Found (size : ℕ) (files : List (List ℕ)) (ends : List ℕ) (s r : ℕ) (row : Row) (span : Span) : Type 0 where
  pub among : row.first + r < length ends
  pub below : r < row.count
  pub range : row.first + row.count ≤ length ends
  pub all_within : All (Within (input.nth_file files row.place.file)) (spans_of ends row)
  pub file : row.place.file < length files
  pub within : Within (input.nth_file files row.place.file) span
  pub is : nth_named (of_split s (named_records size files)) r ≡ shown s r row.place.file (input.nth_file files row.place.file) span

found : (size : ℕ) (files : List (List ℕ)) (ends : List ℕ) (rows : List Row) (s r : ℕ) (d : Row) → Stands size files ends rows
    → listed files ends 0 rows ≡ named_records size files → s < length rows → r < length (of_split s (named_records size files))
    → Found size files ends s r (get_or rows s d) (nth_span (spans_of ends (get_or rows s d)) r)
found size files ends rows s r d st all h k =
    let row : Row = get_or rows s d in
    let bytes : List ℕ = input.nth_file files row.place.file in
    let stand = st.rows_stand s d h in
    let inside : row.first + row.count ≤ length ends = tiles-within 0 (length ends) rows s d st.tiles h in
    let below : r < row.count = omega (arith, k, records-in size files ends rows s d st all h) in
    let few : r < length (spans_of ends row) = omega (arith, below, length-spans_of ends row inside) in
    let none : Span = record { start = 0; end = 0 } in
    record {
      among = omega (arith, below, inside);
      below = below;
      range = inside;
      all_within = stand.within;
      file = stand.place.file;
      within = stand.within r none few;
      is = ap (λ (l : List NamedRecord). nth_named l r) (row-is size files ends rows s d all h)
          ∙ nth-numbered s row.place.file 0 r bytes (spans_of ends row) none few
          ∙ ap (λ (n : ℕ). shown s n row.place.file bytes (nth_span (spans_of ends row) r)) (let z : 0 + r ≡ r = omega arith in z);
    }

-- one more split joined
pub joined-last : (low n : ℕ) (rs : List NamedRecord) → joined_splits low (suc n) rs ≡ joined_splits low n rs ++ of_split (low + n) rs
joined-last low zero rs =
    joined-suc low 0 rs ∙ ap (λ (l : List NamedRecord). of_split low rs ++ l) (joined-zero (low + 1) rs) ∙ append-nil (of_split low rs)
    ∙ ap (λ (n : ℕ). of_split n rs) (let e : ◌≡◌ {A = ℕ} low (low + 0) = omega arith in e)
    ∙ ap (λ (l : List NamedRecord). l ++ of_split (low + 0) rs) (sym (joined-zero low rs))
joined-last low (suc n) rs =
    joined-suc low (suc n) rs ∙ ap (λ (l : List NamedRecord). of_split low rs ++ l) (joined-last (low + 1) n rs)
    ∙ sym (append_assoc (of_split low rs) (joined_splits (low + 1) n rs) (of_split (low + 1 + n) rs))
    ∙ ap (λ (l : List NamedRecord). l ++ of_split (low + 1 + n) rs) (sym (joined-suc low n rs))
    ∙ ap (λ (k : ℕ). joined_splits low (suc n) rs ++ of_split k rs) (let e : low + 1 + n ≡ low + suc n = omega arith in e)

-- a row begins behind the records of all earlier splits
pub first-is : (size : ℕ) (files : List (List ℕ)) (ends : List ℕ) (rows : List Row) (s : ℕ) (d : Row) → Stands size files ends rows
    → listed files ends 0 rows ≡ named_records size files → s < length rows
    → (get_or rows s d).first ≡ length (joined_splits 0 s (named_records size files))
first-is size files ends rows zero d st all h =
    tiles-begin (length ends) rows d st.tiles h ∙ sym (ap length (joined-zero 0 (named_records size files)))
first-is size files ends rows (suc s) d st all h =
    let rs : List NamedRecord = named_records size files in
    tiles-next 0 (length ends) rows s d st.tiles h
    ∙ ap (λ (n : ℕ). n + (get_or rows s d).count) (first-is size files ends rows s d st all (omega arith))
    ∙ ap (λ (n : ℕ). length (joined_splits 0 s rs) + n) (records-in size files ends rows s d st all (omega arith))
    ∙ sym (ap length (joined-last 0 s rs) ∙ length-append (joined_splits 0 s rs) (of_split (0 + s) rs)
    ∙ ap (λ (n : ℕ). length (joined_splits 0 s rs) + length (of_split n rs)) (let e : 0 + s ≡ s = omega arith in e))

pub joined-parts : (low a b : ℕ) (rs : List NamedRecord) → joined_splits low (a + b) rs ≡ joined_splits low a rs ++ joined_splits (low + a) b rs
joined-parts low zero b rs =
    ap (λ (n : ℕ). joined_splits low n rs) (let e : 0 + b ≡ b = omega arith in e)
    ∙ ap (λ (n : ℕ). joined_splits n b rs) (let e : ◌≡◌ {A = ℕ} low (low + 0) = omega arith in e)
    ∙ ap (λ (l : List NamedRecord). l ++ joined_splits (low + 0) b rs) (sym (joined-zero low rs))
joined-parts low (suc a) b rs =
    ap (λ (n : ℕ). joined_splits low n rs) (let e : suc a + b ≡ suc (a + b) = omega arith in e)
    ∙ joined-suc low (a + b) rs ∙ ap (λ (l : List NamedRecord). of_split low rs ++ l) (joined-parts (low + 1) a b rs)
    ∙ sym (append_assoc (of_split low rs) (joined_splits (low + 1) a rs) (joined_splits (low + 1 + a) b rs))
    ∙ ap (λ (l : List NamedRecord). l ++ joined_splits (low + 1 + a) b rs) (sym (joined-suc low a rs))
    ∙ ap (λ (n : ℕ). joined_splits low (suc a) rs ++ joined_splits n b rs) (let e : low + 1 + a ≡ low + suc a = omega arith in e)

-- all records, before a split, in it and behind it
pub around : (size : ℕ) (files : List (List ℕ)) (s : ℕ) → 0 < size → s < split_total size files
    → named_records size files
    ≡ joined_splits 0 s (named_records size files)
    ++ (of_split s (named_records size files) ++ joined_splits (s + 1) (split_total size files - s - 1) (named_records size files))
around size files s some h =
    let rs : List NamedRecord = named_records size files in
    let n : ℕ = split_total size files - s - 1 in
    sym (splits-join size files some)
    ∙ ap (λ (k : ℕ). joined_splits 0 k rs) (let e : split_total size files ≡ s + suc n = omega arith in e)
    ∙ joined-parts 0 s (suc n) rs
    ∙ ap (λ (k : ℕ). joined_splits 0 s rs ++ joined_splits k (suc n) rs) (let e : 0 + s ≡ s = omega arith in e)
    ∙ ap (λ (l : List NamedRecord). joined_splits 0 s rs ++ l) (joined-suc s n rs)

pub number-at : (size : ℕ) (files : List (List ℕ)) (s r : ℕ) → 0 < size → s < split_total size files → r < length (of_split s (named_records size files))
    → nth_named (named_records size files) (length (joined_splits 0 s (named_records size files)) + r) ≡ nth_named (of_split s (named_records size files)) r
number-at size files s r some h k =
    let rs : List NamedRecord = named_records size files in
    let before : List NamedRecord = joined_splits 0 s rs in
    let mine : List NamedRecord = of_split s rs in
    let after : List NamedRecord = joined_splits (s + 1) (split_total size files - s - 1) rs in
    let none : NamedRecord = record { name = record { split = 0; rec = 0 }; file = 0; start = 0; bytes = [] } in
    ap (λ (l : List NamedRecord). get_or l (length before + r) none) (around size files s some h)
    ∙ get_or-append-add before (mine ++ after) r none
    ∙ get_or_append_left mine after none r k

pub number-within : (size : ℕ) (files : List (List ℕ)) (s r : ℕ) → 0 < size → s < split_total size files → r < length (of_split s (named_records size files))
    → length (joined_splits 0 s (named_records size files)) + r < length (named_records size files)
number-within size files s r some h k =
    let rs : List NamedRecord = named_records size files in
    let mine : List NamedRecord = of_split s rs in
    let after : List NamedRecord = joined_splits (s + 1) (split_total size files - s - 1) rs in
    omega (arith, k, ap length (around size files s some h), length-append (joined_splits 0 s rs) (mine ++ after), length-append mine after)

-- the records before a split and in it are some of all
pub split-within : (size : ℕ) (files : List (List ℕ)) (s : ℕ) → 0 < size → s < split_total size files
    → length (joined_splits 0 s (named_records size files)) + length (of_split s (named_records size files)) ≤ length (named_records size files)
split-within size files s some h =
    let rs : List NamedRecord = named_records size files in
    let mine : List NamedRecord = of_split s rs in
    let after : List NamedRecord = joined_splits (s + 1) (split_total size files - s - 1) rs in
    omega (arith, ap length (around size files s some h), length-append (joined_splits 0 s rs) (mine ++ after), length-append mine after)

pub length-listed : (files : List (List ℕ)) (ends : List ℕ) (s at end : ℕ) (rows : List Row) → Tiles at end rows → end ≤ length ends
    → at + length (listed files ends s rows) ≡ end
unfolding listed
length-listed files ends s at end [] t h = omega (arith, t)
length-listed files ends s at end (row ∷ rows) t h =
    let later = length-listed files ends (s + 1) (at + row.count) end rows t.1 h in
    let within : row.first + row.count ≤ length ends = omega (arith, later, t.0, h) in
    omega (
      arith,
      later,
      length-append (row_records files ends s row) (listed files ends (s + 1) rows),
      length-numbered s row.place.file 0 (map (record_at (input.nth_file files row.place.file)) (spans_of ends row)),
      length-map (spans_of ends row) (record_at (input.nth_file files row.place.file)),
      length-spans_of ends row within,
    )

pub count-is : (size : ℕ) (files : List (List ℕ)) (ends : List ℕ) (rows : List Row) → Stands size files ends rows
    → listed files ends 0 rows ≡ named_records size files → length ends ≡ length (named_records size files)
count-is size files ends rows st all =
    let e = length-listed files ends 0 0 (length ends) rows st.tiles (omega arith) in
    omega (arith, e, ap length all)

-- the same, for a row as it was read
found-at : (size : ℕ) (files : List (List ℕ)) (ends : List ℕ) (rows : List Row) (s r : ℕ) (row : Row) → Stands size files ends rows
    → listed files ends 0 rows ≡ named_records size files → s < length rows → r < length (of_split s (named_records size files))
    → row ≡ get_or rows s row → Found size files ends s r row (nth_span (spans_of ends row) r)
found-at size files ends rows s r row st all h k is =
    subst (λ (x : Row). Found size files ends s r x (nth_span (spans_of ends x) r)) (sym is) (found size files ends rows s r row st all h k)

-- the same, of the cut that a plan is seen as
pub found-in : (size : ℕ) (files : List (List ℕ)) (cut : Cut) (ends : List ℕ) (rows : List Row) (s r : ℕ) (row : Row)
    → record { size = size; files = files } ≡ cut → length rows ≡ split_total size files → Stands size files ends rows
    → listed files ends 0 rows ≡ named_records size files → s < split_total cut.size cut.files → r < length (of_split s (records_of cut))
    → row ≡ get_or rows s row → Found size files ends s r row (nth_span (spans_of ends row) r)
found-in size files cut ends rows s r row seen count st all h k is =
    found-at size files ends rows s r row st all (omega (arith, h, count, ap (λ (v : Cut). split_total v.size v.files) seen))
    (omega (arith, k, ap (λ (v : Cut). length (of_split s (records_of v))) seen)) is
