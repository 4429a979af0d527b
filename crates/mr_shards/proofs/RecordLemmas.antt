-- The records of a file that is cut where a line ends.
use Rattle.std.proofs.Common.{◌≡◌, ℕ, ◌+◌, cond, eqb, List, [], ◌∷◌, ◌++◌, length, map, refl, sym, ◌∙◌, ap, subst, arith, true, false, inl, inr, Bool}
use Rattle.std.proofs.lemmas.Bool.{eq-eqb}
use Rattle.mr_records.specs.Records.{Record, lengthen, records_from, records}
use Rattle.mr_records.proofs.RecordLemmas.{cons_case, nil_case, lengthen-cons, lengthen-nil}
use Rattle.mr_shards.specs.Lines.{EndsLine}
use Rattle.mr_shards.specs.Cut.{record_behind, RecordsOfBoth}

-- ---- records of bytes that stand further behind

lengthen-behind : (d at b : ℕ) (rs : List Record) → lengthen (d + at) b (map (record_behind d) rs) ≡ map (record_behind d) (lengthen at b rs)
lengthen-behind d at b [] = lengthen-nil (d + at) b ∙ ap (map (record_behind d)) (sym (lengthen-nil at b))
lengthen-behind d at b (r ∷ rs) =
    lengthen-cons (d + at) b (d + r.start) r.bytes (map (record_behind d) rs) ∙ ap (map (record_behind d)) (sym (lengthen-cons at b r.start r.bytes rs))

pub records-behind : (d at : ℕ) (bs : List ℕ) → records_from (d + at) bs ≡ map (record_behind d) (records_from at bs)
records-behind d at [] = nil_case (d + at) ∙ ap (map (record_behind d)) (sym (nil_case at))
records-behind d at (b ∷ bs) =
    let next : d + at + 1 ≡ d + (at + 1) = omega arith in
    let later : records_from (d + at + 1) bs ≡ map (record_behind d) (records_from (at + 1) bs) =
    ap (λ n. records_from n bs) next ∙ records-behind d (at + 1) bs in
    cons_case (d + at) b bs
    ∙ ap (λ rs. cond (eqb b 10) (record { start = d + at; bytes = [] } ∷ rs) (lengthen (d + at) b rs)) later
    ∙ by (eqb b 10) ∙ ap (map (record_behind d)) (sym (cons_case at b bs))
  where
    by : (t : Bool)
        → cond t (record { start = d + at; bytes = [] } ∷ map (record_behind d) (records_from (at + 1) bs)) (lengthen (d + at) b (map (record_behind d) (records_from (at + 1) bs)))
        ≡ map (record_behind d) (cond t (record { start = at; bytes = [] } ∷ records_from (at + 1) bs) (lengthen at b (records_from (at + 1) bs)))
    by true = refl
    by false = lengthen-behind d at b (records_from (at + 1) bs)

-- ---- records of two pieces

-- the last byte is a line feed
abbrev Closed : List ℕ → Type 0
Closed [] = Unit {0}
Closed (b ∷ []) = b ≡ 10
Closed (b ∷ c ∷ bs) = Closed (c ∷ bs)

closed-first : (b : ℕ) (bs : List ℕ) → Closed (b ∷ bs ++ 10 ∷ []) → Closed (b ∷ bs ++ 10 ∷ [])
closed-first b bs h = h

closed-append : (first : List ℕ) → Closed (first ++ 10 ∷ [])
closed-append [] = refl
closed-append (b ∷ []) = refl
closed-append (b ∷ c ∷ bs) = closed-append (c ∷ bs)

closed : (a : List ℕ) → EndsLine a → Closed a
closed a (inl none) = subst Closed (sym none) tt
closed a (inr some) = subst Closed (sym (some.1)) (closed-append some.0)

lengthen-append : (at b : ℕ) (r : Record) (rs qs : List Record) → lengthen at b ((r ∷ rs) ++ qs) ≡ lengthen at b (r ∷ rs) ++ qs
lengthen-append at b r rs qs =
    lengthen-cons at b r.start r.bytes (rs ++ qs) ∙ ap (λ l. l ++ qs) (sym (lengthen-cons at b r.start r.bytes rs))

-- some byte: some record
some_record : (at b : ℕ) (bs : List ℕ) → (r : Record) × (rs : List Record) × (records_from at (b ∷ bs) ≡ r ∷ rs)
some_record at b bs = by (eqb b 10) (cons_case at b bs)
  where
    longer : (rs : List Record) → (q : Record) × (qs : List Record) × (lengthen at b rs ≡ q ∷ qs)
    longer [] = (record { start = at; bytes = b ∷ [] }, [], lengthen-nil at b)
    longer (r ∷ rs) = (record { start = at; bytes = b ∷ r.bytes }, rs, lengthen-cons at b r.start r.bytes rs)

    by : (t : Bool) → records_from at (b ∷ bs) ≡ cond t (record { start = at; bytes = [] } ∷ records_from (at + 1) bs) (lengthen at b (records_from (at + 1) bs))
        → (r : Record) × (rs : List Record) × (records_from at (b ∷ bs) ≡ r ∷ rs)
    by true e = (record { start = at; bytes = [] }, records_from (at + 1) bs, e)
    by false e = let some = longer (records_from (at + 1) bs) in (some.0, some.1, e ∙ some.2)

both : (at : ℕ) (a b : List ℕ) → Closed a → records_from at (a ++ b) ≡ records_from at a ++ records_from (at + length a) b
both at [] b h =
    let here : at ≡ at + 0 = omega arith in ap (λ n. records_from n b) here ∙ ap (λ l. l ++ records_from (at + 0) b) (sym (nil_case at))
both at (x ∷ []) b h =
    let here : at + 1 ≡ at + length (x ∷ []) = omega arith in
    let lf : eqb x 10 ≡ true = eq-eqb x 10 h in
    cons_case at x b
    ∙ ap (λ t. cond t (record { start = at; bytes = [] } ∷ records_from (at + 1) b) (lengthen at x (records_from (at + 1) b))) lf
    ∙ ap (λ n. record { start = at; bytes = [] } ∷ records_from n b) here
    ∙ ap (λ rs. (record { start = at; bytes = [] } ∷ rs) ++ records_from (at + length (x ∷ [])) b) (sym (nil_case (at + 1)))
    ∙ ap (λ l. l ++ records_from (at + length (x ∷ [])) b)
    (sym (cons_case at x [] ∙ ap (λ t. cond t (record { start = at; bytes = [] } ∷ records_from (at + 1) []) (lengthen at x (records_from (at + 1) []))) lf))
both at (x ∷ y ∷ ys) b h =
    let here : at + 1 + length (y ∷ ys) ≡ at + length (x ∷ y ∷ ys) = omega arith in
    let rest : List Record = records_from (at + length (x ∷ y ∷ ys)) b in
    let later : records_from (at + 1) ((y ∷ ys) ++ b) ≡ records_from (at + 1) (y ∷ ys) ++ rest =
    both (at + 1) (y ∷ ys) b h ∙ ap (λ n. records_from (at + 1) (y ∷ ys) ++ records_from n b) here in
    let some = some_record (at + 1) y ys in
    cons_case at x ((y ∷ ys) ++ b)
    ∙ ap (λ rs. cond (eqb x 10) (record { start = at; bytes = [] } ∷ rs) (lengthen at x rs)) later
    ∙ by (eqb x 10) some.0 some.1 (some.2) rest ∙ ap (λ l. l ++ rest) (sym (cons_case at x (y ∷ ys)))
  where
    by : (t : Bool) (r : Record) (rs : List Record) → records_from (at + 1) (y ∷ ys) ≡ r ∷ rs → (rest : List Record)
        → cond t (record { start = at; bytes = [] } ∷ (records_from (at + 1) (y ∷ ys) ++ rest)) (lengthen at x (records_from (at + 1) (y ∷ ys) ++ rest))
        ≡ cond t (record { start = at; bytes = [] } ∷ records_from (at + 1) (y ∷ ys)) (lengthen at x (records_from (at + 1) (y ∷ ys))) ++ rest
    by true r rs e rest = refl
    by false r rs e rest =
        ap (λ l. lengthen at x (l ++ rest)) e ∙ lengthen-append at x r rs rest ∙ ap (λ l. lengthen at x l ++ rest) (sym e)

pub records_of_both : RecordsOfBoth
records_of_both a b ends =
    let n : ℕ = length a in
    let here : 0 + n ≡ n + 0 = omega arith in
    both 0 a b (closed a ends) ∙ ap (λ k. records a ++ records_from k b) here ∙ ap (λ l. records a ++ l) (records-behind n 0 b)
