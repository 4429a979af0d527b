-- Records by the places where they end.
use Rattle.std.proofs.Common.{◌≡◌, ℕ, zero, suc, ◌+◌, ◌-◌, ◌<◌, ◌≤◌, ◌&&◌, Bool, true, false, not, cond, eqb, ltb, List, [], ◌∷◌, ◌++◌, length, get_or, drop, refl, sym, ap, ◌∙◌, subst, arith, inl, inr, slice_range}
use Rattle.std.proofs.lemmas.Bool.{cases_eq, ne_eqb, eq-eqb, lt-ltb}
use Rattle.std.proofs.lemmas.List.{append-nil, get_or_default}
use Rattle.mr_lanes.specs.Lines.{line_ends_from}
use Rattle.mr_lanes.proofs.LineLemmas.{line_ends_from-more, line_ends_from-end}
use Rattle.mr_records.specs.Records.{Record, lengthen, records_from, records, nth_record}
use Rattle.mr_records.specs.Ends.{ended_at, EndsRise, is_open}
use Rattle.mr_records.proofs.RecordLemmas.{line_feed, other, records_from-end, lengthen-cons, lengthen-nil, slice_range-nil, slice_range-more}

-- where record i starts
abbrev pub start_of : ℕ → List ℕ → ℕ → ℕ
start_of from ends zero = from
start_of from ends (suc i) = get_or ends i 0 + 1

pub start_of-behind : (from : ℕ) (ends : List ℕ) (i : ℕ) → (i ≡ 0 → ⊥) → start_of from ends i ≡ get_or ends (i - 1) 0 + 1
start_of-behind from ends zero some = absurd (some refl)
start_of-behind from ends (suc i) some = let one : i ≡ suc i - 1 = omega arith in ap (λ k. get_or ends k 0 + 1) one

start_of-more : (from e : ℕ) (es : List ℕ) (i : ℕ) → start_of (e + 1) es i ≡ start_of from (e ∷ es) (suc i)
start_of-more from e es zero = refl
start_of-more from e es (suc i) = refl

pub length-ended : (file : List ℕ) (from : ℕ) (ends : List ℕ) → length (ended_at file from ends) ≡ length ends
length-ended file from [] = refl
length-ended file from (e ∷ es) = ap suc (length-ended file (e + 1) es)

pub nth_ended : (file : List ℕ) (from : ℕ) (ends : List ℕ) (i : ℕ) → i < length ends
    → nth_record (ended_at file from ends) i ≡ record { start = start_of from ends i; bytes = slice_range file (start_of from ends i) (get_or ends i 0) }
nth_ended file from [] i less = absurd (omega (arith, less))
nth_ended file from (e ∷ es) zero less = refl
nth_ended file from (e ∷ es) (suc i) less =
    nth_ended file (e + 1) es i (omega (arith, less))
    ∙ ap (λ s. record { start = s; bytes = slice_range file s (get_or es i 0) }) (start_of-more from e es i)

pub ends_within : (file : List ℕ) (from : ℕ) (ends : List ℕ) (i : ℕ) → EndsRise file from ends → i < length ends
    → (start_of from ends i ≤ get_or ends i 0) × (get_or ends i 0 ≤ length file)
ends_within file from [] i rise less = absurd (omega (arith, less))
ends_within file from (e ∷ es) zero rise less = (rise.0, rise.1)
ends_within file from (e ∷ es) (suc i) rise less =
    let later = ends_within file (e + 1) es i rise.2 (omega (arith, less)) in
    (subst (λ s. s ≤ get_or es i 0) (start_of-more from e es i) later.0, later.1)

-- the records from a place on end at these places
abbrev pub Ended : List ℕ → ℕ → List ℕ → Type 0
Ended file at ends = EndsRise file at ends × (records_from at (drop at file) ≡ ended_at file at ends)

-- the records from a place on, at which a byte stands, end at these places, of which there is one
abbrev EndedFirst : List ℕ → ℕ → List ℕ → Type 0
EndedFirst file at ends = (e : ℕ) × (es : List ℕ) × (ends ≡ e ∷ es) × Ended file at (e ∷ es)

-- the line ends from a place on, and the end of a last record that no line feed ends
abbrev ends_from : List ℕ → ℕ → List ℕ → List ℕ
ends_from file at tail = line_ends_from at (drop at file) ++ tail

none_left : (file : List ℕ) (at : ℕ) (tail : List ℕ) → length file ≤ at → ends_from file at tail ≡ tail
none_left file at tail past = ap (λ l. l ++ tail) (line_ends_from-end at file past)

at_line_feed : (file : List ℕ) (at : ℕ) (tail : List ℕ) → get_or file at 0 ≡ 10 → ends_from file at tail ≡ at ∷ ends_from file (at + 1) tail
at_line_feed file at tail lf =
    ap (λ l. l ++ tail) (line_ends_from-more at file
    ∙ ap (λ t. cond t (at ∷ line_ends_from (at + 1) (drop (at + 1) file)) (line_ends_from (at + 1) (drop (at + 1) file))) (eq-eqb (get_or file at 0) 10 lf))

at_other : (file : List ℕ) (at : ℕ) (tail : List ℕ) → (get_or file at 0 ≡ 10 → ⊥) → ends_from file at tail ≡ ends_from file (at + 1) tail
at_other file at tail plain =
    ap (λ l. l ++ tail) (line_ends_from-more at file
    ∙ ap (λ t. cond t (at ∷ line_ends_from (at + 1) (drop (at + 1) file)) (line_ends_from (at + 1) (drop (at + 1) file))) (ne_eqb (get_or file at 0) 10 plain))

-- a line feed ends an empty record before the others
ended_empty : (file : List ℕ) (at : ℕ) (es : List ℕ) → at < length file → get_or file at 0 ≡ 10 → Ended file (at + 1) es → Ended file at (at ∷ es)
ended_empty file at es less lf later = (
  (omega arith, omega (arith, less), later.0),
  line_feed at file less lf ∙ ap (λ rs. record { start = at; bytes = [] } ∷ rs) later.1
      ∙ ap (λ p. record { start = at; bytes = p } ∷ ended_at file (at + 1) es) (sym (slice_range-nil at file)),
)

-- another byte lengthens the record behind it
ended_longer : (file : List ℕ) (at e : ℕ) (es : List ℕ) → at < length file → (get_or file at 0 ≡ 10 → ⊥) → Ended file (at + 1) (e ∷ es) → Ended file at (e ∷ es)
ended_longer file at e es less plain later = (
  (omega (arith, later.0.0), later.0.1, later.0.2),
  other at file less plain ∙ ap (lengthen at (get_or file at 0)) later.1
      ∙ lengthen-cons at (get_or file at 0) (at + 1) (slice_range file (at + 1) e) (ended_at file (e + 1) es)
      ∙ ap (λ p. record { start = at; bytes = p } ∷ ended_at file (e + 1) es) (sym (slice_range-more at e file (omega (arith, later.0.0)) later.0.1)),
)

-- the last byte, no line feed, is a record that the file ends
ended_last : (file : List ℕ) (at : ℕ) → at + 1 ≡ length file → (get_or file at 0 ≡ 10 → ⊥) → Ended file at (length file ∷ [])
ended_last file at total plain = (
  (omega (arith, total), omega arith, tt),
  other at file (omega (arith, total)) plain ∙ ap (lengthen at (get_or file at 0)) (records_from-end (at + 1) file (omega (arith, total)))
      ∙ lengthen-nil at (get_or file at 0)
      ∙ ap (λ p. record { start = at; bytes = p } ∷ [])
      (sym (slice_range-more at (length file) file (omega (arith, total)) (omega arith)
      ∙ ap (λ q. get_or file at 0 ∷ q) (subst (λ m. slice_range file (at + 1) m ≡ []) total (slice_range-nil (at + 1) file)))),
)

-- the file's end is the end of a record just where its last byte is no line feed
abbrev Closes : List ℕ → List ℕ → Type 0
Closes file tail = (at : ℕ) → at + 1 ≡ length file → tail ≡ cond (eqb (get_or file at 0) 10) [] (length file ∷ [])

first : (file tail : List ℕ) → Closes file tail → (n at : ℕ) → at + suc n ≡ length file → EndedFirst file at (ends_from file at tail)
first file tail closes zero at total =
    let last : at + 1 ≡ length file = omega (arith, total) in
    let over : length file ≤ at + 1 = omega (arith, total) in
    elim (cases_eq (get_or file at 0) 10) [
      | inl lf ↦
          let closed : tail ≡ [] = closes at last ∙ ap (λ t. cond t [] (length file ∷ [])) (eq-eqb (get_or file at 0) 10 lf) in (
            at,
            [],
            at_line_feed file at tail lf ∙ ap (λ l. at ∷ l) (none_left file (at + 1) tail over ∙ closed),
            ended_empty file at [] (omega (arith, total)) lf (tt, records_from-end (at + 1) file over),
          )
      | inr plain ↦
          let closed : tail ≡ length file ∷ [] = closes at last ∙ ap (λ t. cond t [] (length file ∷ [])) (ne_eqb (get_or file at 0) 10 plain) in
          (length file, [], at_other file at tail plain ∙ none_left file (at + 1) tail over ∙ closed, ended_last file at last plain)
    ]
first file tail closes (suc n) at total =
    let later : EndedFirst file (at + 1) (ends_from file (at + 1) tail) = first file tail closes n (at + 1) (omega (arith, total)) in
    let less : at < length file = omega (arith, total) in
    elim (cases_eq (get_or file at 0) 10) [
      | inl lf ↦ (
        at,
        later.0 ∷ later.1,
        at_line_feed file at tail lf ∙ ap (λ l. at ∷ l) later.2,
        ended_empty file at (later.0 ∷ later.1) less lf later.3,
      )
      | inr plain ↦ (later.0, later.1, at_other file at tail plain ∙ later.2, ended_longer file at later.0 later.1 less plain later.3)
    ]

all : (file tail : List ℕ) → Closes file tail → (length file ≡ 0 → tail ≡ []) → (n : ℕ) → n ≡ length file → Ended file 0 (line_ends_from 0 file ++ tail)
all file tail closes none zero total =
    let nothing : length file ≤ 0 = omega (arith, total) in
    subst (Ended file 0) (sym (none_left file 0 tail nothing ∙ none (sym total))) (tt, records_from-end 0 file nothing)
all file tail closes none (suc n) total =
    let found : EndedFirst file 0 (ends_from file 0 tail) = first file tail closes n 0 (omega (arith, total)) in
    subst (Ended file 0) (sym found.2) found.3

open_by_last : (file : List ℕ) (at : ℕ) → at + 1 ≡ length file → is_open file ≡ not (eqb (get_or file at 0) 10)
open_by_last file at last =
    let some : 0 < length file = omega (arith, last) in
    let place : length file - 1 ≡ at = omega (arith, last) in
    ap (λ t. t && not (eqb (get_or file (length file - 1) 0) 10)) (lt-ltb 0 (length file) some)
    ∙ ap (λ k. not (eqb (get_or file k 0) 10)) place

open_none : (file : List ℕ) → length file ≡ 0 → is_open file ≡ false
open_none file none = ap (λ n. ltb 0 n && not (eqb (get_or file (length file - 1) 0) 10)) none

turned : (t : Bool) (l : List ℕ) → cond (not t) l [] ≡ cond t [] l
turned true l = refl
turned false l = refl

-- the line ends, and the file's end where it is open, are the ends of its records
pub ends_of : (file tail : List ℕ) → tail ≡ cond (is_open file) (length file ∷ []) [] → Ended file 0 (line_ends_from 0 file ++ tail)
ends_of file tail is =
    all file tail
    (λ at last. is ∙ ap (λ t. cond t (length file ∷ []) []) (open_by_last file at last) ∙ turned (eqb (get_or file at 0) 10) (length file ∷ []))
    (λ none. is ∙ ap (λ t. cond t (length file ∷ []) []) (open_none file none))
    (length file) refl

-- there are no more records than bytes
pub few_ends : (file ends : List ℕ) → length (records file) ≤ length file → ended_at file 0 ends ≡ records file → length ends ≤ length file
few_ends file ends few same = omega (arith, few, ap length same, length-ended file 0 ends)

-- what the record of a number is, of records that end at these places
pub enough_ends : (file ends : List ℕ) (rs : List Record) (i : ℕ) → ended_at file 0 ends ≡ rs → i < length rs → i < length ends
enough_ends file ends rs i same less = omega (arith, less, ap length same, length-ended file 0 ends)

pub nth_is : (file ends : List ℕ) (rs : List Record) (i : ℕ) → ended_at file 0 ends ≡ rs → i < length rs
    → nth_record rs i ≡ record { start = start_of 0 ends i; bytes = slice_range file (start_of 0 ends i) (get_or ends i 0) }
nth_is file ends rs i same less = ap (λ l. nth_record l i) (sym same) ∙ nth_ended file 0 ends i (enough_ends file ends rs i same less)

-- a record that isn't the first starts behind the end before it
pub starts_behind : (file ends : List ℕ) (rs : List Record) (i before : ℕ) → ended_at file 0 ends ≡ rs → i < length rs → (i ≡ 0 → ⊥)
    → before ≡ get_or ends (i - 1) before → before + 1 ≡ (nth_record rs i).start
starts_behind file ends rs i before same less some reads =
    let few : i < length ends = enough_ends file ends rs i same less in
    let place : before ≡ get_or ends (i - 1) 0 = reads ∙ get_or_default ends (i - 1) before 0 (omega (arith, few)) in
    ap (λ n. n + 1) place ∙ sym (ap (λ r. r.start) (nth_is file ends rs i same less) ∙ start_of-behind 0 ends i some)

-- it starts before its end, which lies in the file
pub stands_within : (file ends : List ℕ) (rs : List Record) (i start end : ℕ) → EndsRise file 0 ends → ended_at file 0 ends ≡ rs → i < length rs
    → start ≡ (nth_record rs i).start → end ≡ get_or ends i end → (start ≤ end) × (end ≤ length file) × ((nth_record rs i).bytes ≡ slice_range file start end)
stands_within file ends rs i start end rise same less starts reads =
    let few : i < length ends = enough_ends file ends rs i same less in
    let from : start ≡ start_of 0 ends i = starts ∙ ap (λ r. r.start) (nth_is file ends rs i same less) in
    let to : end ≡ get_or ends i 0 = reads ∙ get_or_default ends i end 0 few in
    let within = ends_within file 0 ends i rise few in (
      omega (arith, from, to, within.0),
      omega (arith, to, within.1),
      ap (λ r. r.bytes) (nth_is file ends rs i same less) ∙ ap (λ s. slice_range file s (get_or ends i 0)) (sym from) ∙ ap (slice_range file start) (sym to),
    )

pub starts_within : (file ends : List ℕ) (rs : List Record) (i : ℕ) → EndsRise file 0 ends → ended_at file 0 ends ≡ rs → i < length rs → (nth_record rs i).start ≤ length file
starts_within file ends rs i rise same less =
    let within = ends_within file 0 ends i rise (enough_ends file ends rs i same less) in
    omega (arith, ap (λ r. r.start) (nth_is file ends rs i same less), within.0, within.1)

-- the line ends are the ends of all records of a file that isn't open
pub shut_ends : (file before ends : List ℕ) → before ≡ [] → ends ≡ before ++ line_ends_from 0 file → false ≡ is_open file → Ended file 0 ends
shut_ends file before ends none are shut =
    subst (Ended file 0) (sym (are ∙ ap (λ l. l ++ line_ends_from 0 file) none ∙ sym (append-nil (line_ends_from 0 file))))
    (ends_of file [] (ap (λ t. cond t (length file ∷ []) []) shut))

-- and of one that is, with the file's end
pub open_ends : (file before ends more : List ℕ) → before ≡ [] → ends ≡ before ++ line_ends_from 0 file → more ≡ ends ++ length file ∷ [] → true ≡ is_open file → Ended file 0 more
open_ends file before ends more none are add is =
    subst (Ended file 0) (sym (add ∙ ap (λ l. l ++ length file ∷ []) (are ∙ ap (λ l. l ++ line_ends_from 0 file) none)))
    (ends_of file (length file ∷ []) (ap (λ t. cond t (length file ∷ []) []) is))
