-- The records of a file are the pieces between its line feeds.
use Rattle.std.proofs.Common.{◌≡◌, ◌≢◌, ℕ, ◌+◌, ◌<◌, ◌≤◌, cond, eqb, List, [], ◌∷◌, All, length, get_or, drop, refl, sym, ◌∙◌, ap, subst, arith, suc, true, false, inl, inr, Bool}
use Rattle.std.specs.List.{AllByRecursion}
use Rattle.std.proofs.lemmas.Bool.{cases_lt, cases_eq, ne_eqb, eq-eqb}
use Rattle.std.proofs.lemmas.List.{drop_more, length-drop}
use Rattle.std.proofs.lemmas.List.Elements.{All-from_recursion, All-cons, All-nil}
use Rattle.mr_records.specs.Records.{Record, lengthen, records_from, records}
use Rattle.mr_records.specs.RecordLaw.{NoLineFeeds, with_line_feeds, ended, GiveTheFileBack, StartFrom, StartInTurn, BeginsALine, StartWhereLinesBegin, FewRecords}
use Rattle.mr_records.proofs.RecordLemmas.{cons_case, nil_case, lengthen-cons, lengthen-nil}

-- what holds of the records of no bytes, of an empty record before others, and of one lengthened by a byte, holds
abbrev Family : Type 1
Family = ℕ → List ℕ → List Record → Type 0

by_bytes : (P : Family) → ((at : ℕ) → P at [] [])
    → ((at b : ℕ) (bs : List ℕ) (rs : List Record) → b ≡ 10 → P (at + 1) bs rs → P at (b ∷ bs) (record { start = at; bytes = [] } ∷ rs))
    → ((at b : ℕ) (bs : List ℕ) (rs : List Record) → (b ≢ 10) → P (at + 1) bs rs → P at (b ∷ bs) (lengthen at b rs))
    → (at : ℕ) (bs : List ℕ) → P at bs (records_from at bs)
by_bytes P none ended longer at [] = subst (P at []) (sym (nil_case at)) (none at)
by_bytes P none ended longer at (b ∷ bs) =
    let later : P (at + 1) bs (records_from (at + 1) bs) = by_bytes P none ended longer (at + 1) bs in
    subst (P at (b ∷ bs)) (sym (cons_case at b bs))
    (elim (cases_eq b 10) [
      | inl lf ↦ subst (λ (t : Bool). P at (b ∷ bs) (cond t (record { start = at; bytes = [] } ∷ records_from (at + 1) bs) (lengthen at b (records_from (at + 1) bs)))) (sym (eq-eqb b 10 lf))
          (ended at b bs (records_from (at + 1) bs) lf later)
      | inr plain ↦ subst (λ (t : Bool). P at (b ∷ bs) (cond t (record { start = at; bytes = [] } ∷ records_from (at + 1) bs) (lengthen at b (records_from (at + 1) bs)))) (sym (ne_eqb b 10 plain))
          (longer at b bs (records_from (at + 1) bs) plain later)
    ])

-- no line feeds
abbrev Clear : Record → Type 0
Clear r = All (λ b. b ≢ 10) r.bytes

clear-longer : (at b : ℕ) (rs : List Record) → (b ≢ 10) → AllByRecursion Clear rs → AllByRecursion Clear (lengthen at b rs)
clear-longer at b [] plain h = subst (AllByRecursion Clear) (sym (lengthen-nil at b)) (All-cons (λ (x : ℕ). x ≢ 10) b [] plain (All-nil (λ (x : ℕ). x ≢ 10)), tt)
clear-longer at b (r ∷ rs) plain h = subst (AllByRecursion Clear) (sym (lengthen-cons at b r.start r.bytes rs)) (All-cons (λ (x : ℕ). x ≢ 10) b r.bytes plain h.0, h.1)

pub no_line_feeds : NoLineFeeds
no_line_feeds file =
    All-from_recursion Clear (records file)
    (by_bytes (λ at bs rs. AllByRecursion Clear rs) (λ at. tt) (λ at b bs rs lf h. (All-nil (λ (x : ℕ). x ≢ 10), h)) (λ at b bs rs plain h. clear-longer at b rs plain h) 0 file)

-- starts, one after another
starts-longer : (at b : ℕ) (rs : List Record) → StartFrom (at + 1) rs → StartFrom at (lengthen at b rs)
starts-longer at b [] h = subst (StartFrom at) (sym (lengthen-nil at b)) (refl, tt)
starts-longer at b (r ∷ rs) h =
    subst (StartFrom at) (sym (lengthen-cons at b r.start r.bytes rs))
    (refl, subst (λ n. StartFrom n rs) (let e : at + 1 + length r.bytes + 1 ≡ at + length (b ∷ r.bytes) + 1 = omega arith in e) h.1)

starts_from : (at : ℕ) (bs : List ℕ) → StartFrom at (records_from at bs)
starts_from =
    by_bytes (λ at bs rs. StartFrom at rs) (λ at. tt)
    (λ at b bs rs lf h. (refl, subst (λ n. StartFrom n rs) (let e : at + 1 ≡ at + 0 + 1 = omega arith in e) h))
    (λ at b bs rs plain h. starts-longer at b rs h)

pub start_in_turn : StartInTurn
start_in_turn file = starts_from 0 file

-- the file, given back
ended-some : (c : ℕ) (cs : List ℕ) → (t : List ℕ) × (ended (c ∷ cs) ≡ c ∷ t)
ended-some c [] = elim (eqb c 10) as (λ t. (l : List ℕ) × (cond t (c ∷ []) (c ∷ 10 ∷ []) ≡ c ∷ l)) [ true ↦ ([], refl) | false ↦ (10 ∷ [], refl) ]
ended-some c (d ∷ ds) = (ended (d ∷ ds), refl)

joined-longer : (at b c : ℕ) (t : List ℕ) (rs : List Record) → with_line_feeds rs ≡ c ∷ t → with_line_feeds (lengthen at b rs) ≡ b ∷ c ∷ t
joined-longer at b c t [] e = absurd (let no : [] ≡ c ∷ t = e in cc)
joined-longer at b c t (r ∷ rs) e = ap with_line_feeds (lengthen-cons at b r.start r.bytes rs) ∙ ap (λ l. b ∷ l) e

abbrev GivesBack : Family
GivesBack at bs rs = with_line_feeds rs ≡ ended bs

back-ended : (at b : ℕ) (bs : List ℕ) (rs : List Record) → b ≡ 10 → with_line_feeds rs ≡ ended bs → 10 ∷ with_line_feeds rs ≡ ended (b ∷ bs)
back-ended at b [] rs lf h =
    ap (λ l. 10 ∷ l) h ∙ sym (ap (λ t. cond t (b ∷ []) (b ∷ 10 ∷ [])) (eq-eqb b 10 lf) ∙ ap (λ x. x ∷ []) lf)
back-ended at b (c ∷ cs) rs lf h = ap (λ l. 10 ∷ l) h ∙ ap (λ x. x ∷ ended (c ∷ cs)) (sym lf)

back-longer : (at b : ℕ) (bs : List ℕ) (rs : List Record) → (b ≢ 10) → with_line_feeds rs ≡ ended bs → (bs ≡ [] → rs ≡ []) → with_line_feeds (lengthen at b rs) ≡ ended (b ∷ bs)
back-longer at b [] rs plain h none =
    ap (λ l. with_line_feeds (lengthen at b l)) (none refl) ∙ ap with_line_feeds (lengthen-nil at b) ∙ sym (ap (λ t. cond t (b ∷ []) (b ∷ 10 ∷ [])) (ne_eqb b 10 plain))
back-longer at b (c ∷ cs) rs plain h none =
    let some = ended-some c cs in
    joined-longer at b c some.0 rs (h ∙ some.1) ∙ ap (λ l. b ∷ l) (sym some.1)

none-longer : (at b : ℕ) (bs : List ℕ) → b ∷ bs ≡ [] → ⊥
none-longer at b bs e = cc

abbrev Back : Family
Back at bs rs = (with_line_feeds rs ≡ ended bs) × (bs ≡ [] → rs ≡ [])

gives_back : (at : ℕ) (bs : List ℕ) → Back at bs (records_from at bs)
gives_back =
    by_bytes Back (λ at. (refl, λ e. refl))
    (λ at b bs rs lf h. (back-ended at b bs rs lf h.0, λ e. absurd (none-longer at b bs e)))
    (λ at b bs rs plain h. (back-longer at b bs rs plain h.0 h.1, λ e. absurd (none-longer at b bs e)))

pub give_the_file_back : GiveTheFileBack
give_the_file_back file = (gives_back 0 file).0

-- places and numbers
length-longer : (at b : ℕ) (rs : List Record) → length (lengthen at b rs) ≤ length rs + 1
length-longer at b [] = let e : length (lengthen at b []) ≡ 1 = ap length (lengthen-nil at b) in omega (arith, e)
length-longer at b (r ∷ rs) = let e : length (lengthen at b (r ∷ rs)) ≡ suc (length rs) = ap length (lengthen-cons at b r.start r.bytes rs) in omega (arith, e)

few_from : (at : ℕ) (bs : List ℕ) → length (records_from at bs) ≤ length bs
few_from =
    by_bytes (λ at bs rs. length rs ≤ length bs) (λ at. omega arith)
    (λ at b bs rs lf h. omega (arith, h))
    (λ at b bs rs plain h. omega (arith, h, length-longer at b rs))

pub few_records : FewRecords
few_records file = few_from 0 file

abbrev Below : ℕ → Record → Type 0
Below n r = r.start < n

below-longer : (n at b : ℕ) (rs : List Record) → at < n → AllByRecursion (Below n) rs → AllByRecursion (Below n) (lengthen at b rs)
below-longer n at b [] less h = subst (AllByRecursion (Below n)) (sym (lengthen-nil at b)) (less, tt)
below-longer n at b (r ∷ rs) less h = subst (AllByRecursion (Below n)) (sym (lengthen-cons at b r.start r.bytes rs)) (less, h.1)

below : (n at : ℕ) (bs : List ℕ) → at + length bs ≡ n → AllByRecursion (Below n) (records_from at bs)
below n =
    by_bytes (λ at bs rs. at + length bs ≡ n → AllByRecursion (Below n) rs) (λ at e. tt)
    (λ at b bs rs lf h e. (omega (arith, e), h (omega (arith, e))))
    (λ at b bs rs plain h e. below-longer n at b rs (omega (arith, e)) (h (omega (arith, e))))

-- all records but the first start behind a line feed
abbrev Behind : List ℕ → Record → Type 0
Behind file r = (k : ℕ) × (k + 1 ≡ r.start) × (get_or file k 0 ≡ 10)

abbrev Later : List ℕ → List Record → Type 0
Later file [] = Unit {0}
Later file (r ∷ rs) = AllByRecursion (Behind file) rs

later-all : (file : List ℕ) (at : ℕ) (rs : List Record) → get_or file at 0 ≡ 10 → StartFrom (at + 1) rs → Later file rs → AllByRecursion (Behind file) rs
later-all file at [] lf starts h = tt
later-all file at (r ∷ rs) lf starts h = ((at, sym starts.0, lf), h)

later-longer : (file : List ℕ) (at b : ℕ) (rs : List Record) → Later file rs → Later file (lengthen at b rs)
later-longer file at b [] h = subst (Later file) (sym (lengthen-nil at b)) tt
later-longer file at b (r ∷ rs) h = subst (Later file) (sym (lengthen-cons at b r.start r.bytes rs)) h

-- the first of the bytes left, and the others
none_left : (file : List ℕ) (at b : ℕ) (bs : List ℕ) → length file ≤ at → b ∷ bs ≡ drop at file → ⊥
none_left file at b bs h e = let l = ap length e in omega (arith, l, length-drop at file, h)

first_left : (file : List ℕ) (at b : ℕ) (bs : List ℕ) → b ∷ bs ≡ drop at file → (get_or file at 0 ≡ b) × (bs ≡ drop (at + 1) file)
first_left file at b bs e =
    elim (cases_lt at (length file)) [
      | inr end ↦ absurd (none_left file at b bs end e)
      | inl less ↦
          let both : b ∷ bs ≡ get_or file at 0 ∷ drop (at + 1) file = e ∙ drop_more file at 0 less in
          (let first : get_or file at 0 ≡ b = cc in first, let rest : bs ≡ drop (at + 1) file = cc in rest)
    ]

abbrev InFile : List ℕ → Family
InFile file at bs rs = bs ≡ drop at file → Later file rs × StartFrom at rs

later : (file : List ℕ) (at : ℕ) (bs : List ℕ) → InFile file at bs (records_from at bs)
later file =
    by_bytes (InFile file) (λ at e. (tt, tt))
    (λ at b bs rs lf h e.
    let left = first_left file at b bs e in
    let next : Later file rs × StartFrom (at + 1) rs = h left.1 in
    (later-all file at rs (left.0 ∙ lf) next.1 next.0, (refl, subst (λ n. StartFrom n rs) (let same : at + 1 ≡ at + 0 + 1 = omega arith in same) next.1)))
    (λ at b bs rs plain h e.
    let next : Later file rs × StartFrom (at + 1) rs = h (first_left file at b bs e).1 in
    (later-longer file at b rs next.0, starts-longer at b rs next.1))

abbrev StartsWell : List ℕ → Record → Type 0
StartsWell file r = BeginsALine file r.start × (r.start < length file)

behind-well : (file : List ℕ) (rs : List Record) → AllByRecursion (Behind file) rs → AllByRecursion (Below (length file)) rs → AllByRecursion (StartsWell file) rs
behind-well file [] h less = tt
behind-well file (r ∷ rs) h less = ((inr h.0, less.0), behind-well file rs h.1 less.1)

all-well : (file : List ℕ) (rs : List Record) → StartFrom 0 rs → Later file rs → AllByRecursion (Below (length file)) rs → AllByRecursion (StartsWell file) rs
all-well file [] starts h less = tt
all-well file (r ∷ rs) starts h less = ((inl starts.0, less.0), behind-well file rs h less.1)

pub start_where_lines_begin : StartWhereLinesBegin
start_where_lines_begin file =
    All-from_recursion (StartsWell file) (records file)
    (all-well file (records file) (starts_from 0 file) (later file 0 file refl).0 (below (length file) 0 file (omega arith)))
