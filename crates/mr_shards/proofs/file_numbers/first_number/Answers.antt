use Rattle.std.proofs.Common.{◌≡◌, ◌∙◌, ◌+◌, ◌*◌, ◌<◌, ◌≤◌, [], ◌∷◌, ℕ, List, drop, ap, arith, inl, inr, length, get_or, sym}
use Rattle.std.specs.Prelude.{decimal}
use Rattle.mr_shards.specs.Index.{BeginsList}
use Rattle.mr_shards.specs.Lines.{fields}
use Rattle.mr_shards.proofs.FieldLemmas.{begun-all, begun-comma, begun-end, begun-more, begun-some}
use Rattle.mr_shards.proofs.LineLemmas.{behind}
use Rattle.mr_shards.proofs.NumberLemmas.{IsReadOn, TakesDigit, known-none}
use Rattle.mr_shards.proofs.file_numbers.first_number.Goals as goal

first-digit : (list : List ℕ) (b : BeginsList list) → TakesDigit list b.number 0 0
first-digit list b =
    let some = begun-some list b in
    begun-more list b 0 0 some.0 some.1 (known-none b.number (omega (arith, b.small)))

first-read : (list : List ℕ) (b : BeginsList list) (first : ℕ) → first + 48 ≡ get_or list 0 0 → IsReadOn b.number 1 first
first-read list b first is = (first-digit list b).on first (omega (arith, is))

-- the number is read at the end of the list, and at a comma
read-all : (list : List ℕ) (b : BeginsList list) (at number : ℕ) → IsReadOn b.number at number → length list ≤ at → fields list ≡ decimal number ∷ []
read-all list b at number read end =
    let is = begun-all list b at number read (inl end) in
    begun-end list b.number b.more at b.small b.is is.1 end ∙ ap (λ n. decimal n ∷ []) (sym is.0)

read-comma : (list : List ℕ) (b : BeginsList list) (at number : ℕ) (rest : List ℕ) → IsReadOn b.number at number → at < length list → get_or list at 0 ≡ 44
    → rest ≡ drop (at + 1) list → fields list ≡ decimal number ∷ fields rest
read-comma list b at number rest read less comma left_is =
    let is = begun-all list b at number read (inr comma) in
    begun-comma list b.number b.more at b.small b.is is.1 less
    ∙ (let same = sym is.0 in let left = ap fields (sym left_is) in λ i. decimal (same i) ∷ left i)

pub bounds-list-0 : goal.bounds-list-0
bounds-list-0 c = (begun-some c.args.list.now c.requires).0

pub overflow_sub-list : goal.overflow_sub-list
overflow_sub-list c = (first-digit c.args.list.now c.requires).low

pub returns-then-list-lt2-clause-number : goal.returns-then-list-lt2-clause-number
returns-then-list-lt2-clause-number c =
    let list = c.args.list.now in
    let low = (first-digit list c.requires).low in
    let one = first-read list c.requires c.from-first.result (omega (arith, low, c.from-first.ensures)) in
    read-all list c.requires 1 c.from-first.result one (omega (arith, c.if-list-lt2.true))

pub returns-then-list-eq44-clause-number : goal.returns-then-list-eq44-clause-number
returns-then-list-eq44-clause-number c =
    let list = c.args.list.now in
    let low = (first-digit list c.requires).low in
    let one = first-read list c.requires c.from-first.result (omega (arith, low, c.from-first.ensures)) in
    read-comma list c.requires 1 c.from-first.result _ one (omega (arith, c.if-list-lt2.false)) c.if-list-eq44.true (behind 1 list)

pub overflow_sub-list-2 : goal.overflow_sub-list-2
overflow_sub-list-2 c =
    let list = c.args.list.now in
    let low = (first-digit list c.requires).low in
    let one = first-read list c.requires c.from-first.result (omega (arith, low, c.from-first.ensures)) in
    (begun-more list c.requires 1 c.from-first.result (omega (arith, c.if-list-lt2.false)) c.if-list-eq44.false one).low

pub returns-then-list-lt3-clause-number : goal.returns-then-list-lt3-clause-number
returns-then-list-lt3-clause-number c =
    let list = c.args.list.now in
    let low = (first-digit list c.requires).low in
    let one = first-read list c.requires c.from-first.result (omega (arith, low, c.from-first.ensures)) in
    let digit = begun-more list c.requires 1 c.from-first.result (omega (arith, c.if-list-lt2.false)) c.if-list-eq44.false one in
    read-all list c.requires 2 (c.from-first.result * 10 + c.from.result) (digit.on _ (omega (arith, digit.low, c.from.ensures))) (omega (arith, c.if-list-lt3.true))

pub returns-then-list-eq44-2-clause-number : goal.returns-then-list-eq44-2-clause-number
returns-then-list-eq44-2-clause-number c =
    let list = c.args.list.now in
    let low = (first-digit list c.requires).low in
    let one = first-read list c.requires c.from-first.result (omega (arith, low, c.from-first.ensures)) in
    let digit = begun-more list c.requires 1 c.from-first.result (omega (arith, c.if-list-lt2.false)) c.if-list-eq44.false one in
    read-comma list c.requires 2 (c.from-first.result * 10 + c.from.result) _ (digit.on _ (omega (arith, digit.low, c.from.ensures))) (omega (arith, c.if-list-lt3.false)) c.if-list-eq44-2.true (behind 2 list)
