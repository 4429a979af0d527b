-- Spans of records by the places where they end.
use Rattle.std.proofs.Common.{◌≡◌, ℕ, zero, suc, ◌+◌, ◌-◌, ◌<◌, ◌≤◌, List, [], ◌∷◌, ◌++◌, length, get_or, refl, sym, ◌∙◌, ap, arith, ◌^◌, All, length-drop, length-take-le, drop}
use Rattle.std.proofs.lemmas.List.{get_or-take, get_or-drop, get_or_default}
use Rattle.mr_bytes.specs.declared.Span.{Span}
use Rattle.mr_records.proofs.EndLemmas.{start_of, start_of-behind}
use Rattle.mr_splits.specs.declared.split_table.Row.{Row}
use Rattle.mr_splits.specs.Table.{spans_from, behind, ends_of, spans_of, nth_span}

pub length-spans_from : (start : ℕ) (ends : List ℕ) → length (spans_from start ends) ≡ length ends
length-spans_from start [] = refl
length-spans_from start (e ∷ es) = ap suc (length-spans_from (e + 1) es)

-- one more end
pub spans_from-push : (start : ℕ) (ends : List ℕ) (stop : ℕ)
    → spans_from start (ends ++ stop ∷ []) ≡ spans_from start ends ++ record { start = behind start ends; end = stop } ∷ []
spans_from-push start [] stop = refl
spans_from-push start (e ∷ es) stop = ap (λ (l : List Span). record { start = start; end = e } ∷ l) (spans_from-push (e + 1) es stop)

pub behind-push : (start : ℕ) (ends : List ℕ) (stop : ℕ) → behind start (ends ++ stop ∷ []) ≡ stop + 1
behind-push start [] stop = refl
behind-push start (e ∷ es) stop = behind-push (e + 1) es stop

later-start : (start e : ℕ) (es : List ℕ) (r : ℕ) → start_of (e + 1) es r ≡ start_of start (e ∷ es) (suc r)
later-start start e es zero = refl
later-start start e es (suc r) = refl

nth-spans_from : (start : ℕ) (ends : List ℕ) (r : ℕ) → r < length ends
    → nth_span (spans_from start ends) r ≡ record { start = start_of start ends r; end = get_or ends r 0 }
nth-spans_from start [] r h = absurd (omega (arith, h))
nth-spans_from start (e ∷ es) zero h = refl
nth-spans_from start (e ∷ es) (suc r) h =
    nth-spans_from (e + 1) es r (omega (arith, h))
    ∙ ap (λ (n : ℕ). record { start = n; end = get_or es r 0 }) (later-start start e es r)

length-ends_of : (ends : List ℕ) (row : Row) → row.first + row.count ≤ length ends → length (ends_of ends row) ≡ row.count
length-ends_of ends row h =
    let n : ℕ = row.first + row.count - row.first in
    let e : n ≡ row.count = omega arith in
    length-take-le n (drop row.first ends) (omega (arith, length-drop row.first ends, h)) ∙ e

pub length-spans_of : (ends : List ℕ) (row : Row) → row.first + row.count ≤ length ends → length (spans_of ends row) ≡ row.count
length-spans_of ends row h = length-spans_from row.begin (ends_of ends row) ∙ length-ends_of ends row h

-- the end of a record of a row, and the one before it, as they were read
end-read : (ends : List ℕ) (row : Row) (r end : ℕ) → r < row.count → row.first + row.count ≤ length ends → end ≡ get_or ends (row.first + r) end
    → get_or (ends_of ends row) r 0 ≡ end
end-read ends row r end h inside reads =
    get_or-take (row.first + row.count - row.first) (drop row.first ends) r 0 (omega (arith, h)) ∙ get_or-drop row.first ends r 0
    ∙ get_or_default ends (row.first + r) 0 end (omega (arith, h, inside)) ∙ sym reads

before-read : (ends : List ℕ) (row : Row) (r before : ℕ) → 0 < r → r < row.count → row.first + row.count ≤ length ends
    → before ≡ get_or ends (row.first + r - 1) before
    → get_or (ends_of ends row) (r - 1) 0 ≡ before
before-read ends row r before some h inside reads =
    let place : row.first + r - 1 ≡ row.first + (r - 1) = omega (arith, some) in
    end-read ends row (r - 1) before (omega (arith, h)) inside (reads ∙ ap (λ (n : ℕ). get_or ends n before) place)

-- the span of a record of a row that isn't its first, by the ends that were read
pub later-span : (ends : List ℕ) (row : Row) (r end before : ℕ) → 0 < r → r < row.count → row.first + row.count ≤ length ends
    → end ≡ get_or ends (row.first + r) end → before ≡ get_or ends (row.first + r - 1) before
    → record { start = before + 1; end = end } ≡ nth_span (spans_of ends row) r
later-span ends row r end before some h inside reads reads-before =
    sym (nth-spans_from row.begin (ends_of ends row) r (omega (arith, h, length-ends_of ends row inside))
    ∙ ap (λ (n : ℕ). record { start = n; end = get_or (ends_of ends row) r 0 }) (start_of-behind row.begin (ends_of ends row) r (λ z. omega (arith, some, z)))
    ∙ ap (λ (n : ℕ). record { start = n + 1; end = get_or (ends_of ends row) r 0 }) (before-read ends row r before some h inside reads-before)
    ∙ ap (λ (n : ℕ). record { start = before + 1; end = n }) (end-read ends row r end h inside reads))

-- the end before it is that of a record of the row
pub before-small : (ends : List ℕ) (row : Row) (r before : ℕ) → 0 < r → r < row.count → row.first + row.count ≤ length ends
    → before ≡ get_or ends (row.first + r - 1) before → All (λ (s : Span). s.end ≤ 2 ^ 30) (spans_of ends row) → before ≤ 2 ^ 30
before-small ends row r before some h inside reads small =
    let early : r - 1 < length (ends_of ends row) = omega (arith, h, length-ends_of ends row inside) in
    let fits : (nth_span (spans_of ends row) (r - 1)).end ≤ 2 ^ 30 =
    small (r - 1) (record { start = 0; end = 0 }) (omega (arith, early, length-spans_from row.begin (ends_of ends row))) in
    omega (
      arith,
      fits,
      ap (λ (s : Span). s.end) (nth-spans_from row.begin (ends_of ends row) (r - 1) early),
      before-read ends row r before some h inside reads,
    )
