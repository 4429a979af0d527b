-- The records of a file that is cut where a line ends.
use Rattle.std.proofs.Common.{◌≡◌, ℕ, ◌+◌, cond, eqb, List, [], ◌∷◌, ◌++◌, length, map, refl, sym, ◌∙◌, ap, subst, arith, true, false, inl, inr, Bool}
use Rattle.mr_records.specs.Records.{Record, lengthen, records_from, records}
use Rattle.mr_records.proofs.RecordLemmas.{cons_case, nil_case, lengthen-cons, lengthen-nil}
use Rattle.mr_explain.specs.Sifting.{EndsLine}

-- a record, where so many bytes stand before the file's first
abbrev pub record_behind : ℕ → Record → Record
record_behind bytes r = record { start = bytes + r.start; bytes = r.bytes }

-- ---- records of bytes that stand further behind

lengthen-behind : (d at b : ℕ) (rs : List Record) → lengthen (d + at) b (map (record_behind d) rs) ≡ map (record_behind d) (lengthen at b rs)
lengthen-behind d at b [] = lengthen-nil (d + at) b ∙ ap (map (record_behind d)) (sym (lengthen-nil at b))
lengthen-behind d at b (r ∷ rs) =
    lengthen-cons (d + at) b (d + r.start) r.bytes (map (record_behind d) rs) ∙ ap (map (record_behind d)) (sym (lengthen-cons at b r.start r.bytes rs))

pub records-behind : (d at : ℕ) (bs : List ℕ) → records_from (d + at) bs ≡ map (record_behind d) (records_from at bs)
records-behind d at [] = nil_case (d + at) ∙ ap (map (record_behind d)) (sym (nil_case at))
records-behind d at (b ∷ bs) =
    let next : d + at + 1 ≡ d + (at + 1) = omega arith in
    let later : records_from (d + at + 1) bs ≡ map (record_behind d) (records_from (at + 1) bs) =
    ap (λ n. records_from n bs) next ∙ records-behind d (at + 1) bs in
    cons_case (d + at) b bs
    ∙ ap (λ rs. cond (eqb b 10) (record { start = d + at; bytes = [] } ∷ rs) (lengthen (d + at) b rs)) later
    ∙ by (eqb b 10) ∙ ap (map (record_behind d)) (sym (cons_case at b bs))
  where
    by : (t : Bool)
        → cond t (record { start = d + at; bytes = [] } ∷ map (record_behind d) (records_from (at + 1) bs)) (lengthen (d + at) b (map (record_behind d) (records_from (at + 1) bs)))
        ≡ map (record_behind d) (cond t (record { start = at; bytes = [] } ∷ records_from (at + 1) bs) (lengthen at b (records_from (at + 1) bs)))
    by true = refl
    by false = lengthen-behind d at b (records_from (at + 1) bs)

-- ---- records of two pieces

-- some byte: some record
some_record : (at b : ℕ) (bs : List ℕ) → (r : Record) × (rs : List Record) × (records_from at (b ∷ bs) ≡ r ∷ rs)
some_record at b bs = by (eqb b 10) (cons_case at b bs)
  where
    longer : (rs : List Record) → (q : Record) × (qs : List Record) × (lengthen at b rs ≡ q ∷ qs)
    longer [] = (record { start = at; bytes = b ∷ [] }, [], lengthen-nil at b)
    longer (r ∷ rs) = (record { start = at; bytes = b ∷ r.bytes }, rs, lengthen-cons at b r.start r.bytes rs)

    by : (t : Bool) → records_from at (b ∷ bs) ≡ cond t (record { start = at; bytes = [] } ∷ records_from (at + 1) bs) (lengthen at b (records_from (at + 1) bs))
        → (r : Record) × (rs : List Record) × (records_from at (b ∷ bs) ≡ r ∷ rs)
    by true e = (record { start = at; bytes = [] }, records_from (at + 1) bs, e)
    by false e = let some = longer (records_from (at + 1) bs) in (some.0, some.1, e ∙ some.2)

some_line : (at : ℕ) (xs : List ℕ) → (r : Record) × (rs : List Record) × (records_from at (xs ++ 10 ∷ []) ≡ r ∷ rs)
some_line at [] = some_record at 10 []
some_line at (x ∷ xs) = some_record at x (xs ++ 10 ∷ [])

both : (at : ℕ) (xs b : List ℕ) → records_from at ((xs ++ 10 ∷ []) ++ b) ≡ records_from at (xs ++ 10 ∷ []) ++ records_from (at + length (xs ++ 10 ∷ [])) b
both at [] b =
    cons_case at 10 b
    ∙ ap (λ rs. (record { start = at; bytes = [] } ∷ rs) ++ records_from (at + 1) b) (sym (nil_case (at + 1)))
    ∙ ap (λ l. l ++ records_from (at + 1) b) (sym (cons_case at 10 []))
both at (x ∷ xs) b =
    let line : List ℕ = xs ++ 10 ∷ [] in
    let here : at + 1 + length line ≡ at + length (x ∷ line) = omega arith in
    let rest : List Record = records_from (at + length (x ∷ line)) b in
    let later : records_from (at + 1) (line ++ b) ≡ records_from (at + 1) line ++ rest =
    both (at + 1) xs b ∙ ap (λ n. records_from (at + 1) line ++ records_from n b) here in
    let some = some_line (at + 1) xs in
    cons_case at x (line ++ b)
    ∙ ap (λ rs. cond (eqb x 10) (record { start = at; bytes = [] } ∷ rs) (lengthen at x rs)) later
    ∙ by (eqb x 10) some.0 some.1 (some.2) rest ∙ ap (λ l. l ++ rest) (sym (cons_case at x line))
  where
    lengthen-append : (r : Record) (rs qs : List Record) → lengthen at x ((r ∷ rs) ++ qs) ≡ lengthen at x (r ∷ rs) ++ qs
    lengthen-append r rs qs = lengthen-cons at x r.start r.bytes (rs ++ qs) ∙ ap (λ l. l ++ qs) (sym (lengthen-cons at x r.start r.bytes rs))

    by : (t : Bool) (r : Record) (rs : List Record) → records_from (at + 1) (xs ++ 10 ∷ []) ≡ r ∷ rs → (rest : List Record)
        → cond t (record { start = at; bytes = [] } ∷ (records_from (at + 1) (xs ++ 10 ∷ []) ++ rest)) (lengthen at x (records_from (at + 1) (xs ++ 10 ∷ []) ++ rest))
        ≡ cond t (record { start = at; bytes = [] } ∷ records_from (at + 1) (xs ++ 10 ∷ [])) (lengthen at x (records_from (at + 1) (xs ++ 10 ∷ []))) ++ rest
    by true r rs e rest = refl
    by false r rs e rest =
        ap (λ l. lengthen at x (l ++ rest)) e ∙ lengthen-append r rs rest ∙ ap (λ l. lengthen at x l ++ rest) (sym e)

-- where the first piece is empty or ends with a line feed, these are the records of the first, and those of the second behind its bytes
pub records-both : (a b : List ℕ) → EndsLine a → records (a ++ b) ≡ records a ++ map (record_behind (length a)) (records b)
records-both a b (inl none) =
    let here : records b ≡ map (record_behind 0) (records b) = records-behind 0 0 b in
    subst (λ (l : List ℕ). records (l ++ b) ≡ records l ++ map (record_behind (length l)) (records b)) (sym none)
    (here ∙ ap (λ l. l ++ map (record_behind 0) (records b)) (sym (nil_case 0)))
records-both a b (inr some) =
    let line : List ℕ = some.0 ++ 10 ∷ [] in
    subst (λ (l : List ℕ). records (l ++ b) ≡ records l ++ map (record_behind (length l)) (records b)) (sym some.1)
    (both 0 some.0 b ∙ ap (λ l. records line ++ l) (ap (λ n. records_from n b) (let e : 0 + length line ≡ length line + 0 = omega arith in e) ∙ records-behind (length line) 0 b))
