use Rattle.std.proofs.Common.{◌≡◌, ◌+◌, ◌-◌, not, List, ℕ, Some, length, take, drop, ap, sym, ◌∙◌, arith, length-drop}
use Rattle.std.proofs.lemmas.List.{take_all}
use Rattle.mr_check.proofs.LineKeyLemmas.{told_plainly}
use Rattle.mr_check.proofs.lines.tells_far.Goals as goal

pub returns-in-Some-memchr2 : goal.returns-in-Some-memchr2
returns-in-Some-memchr2 c h =
    let key : List ℕ = c.in-Some.key.now in
    let rest : List ℕ = c.args.rest.now in
    let behind : List ℕ = drop (length key + 1) rest in
    let found = c.in-Some-memchr2.ensures in
    let is : take (length rest - (length key + 1)) behind ≡ behind = take_all (length rest - (length key + 1)) behind (omega (arith, length-drop (length key + 1) rest)) in
    told_plainly key rest (take (length rest - (length key + 1)) behind) c.in-Some-memchr2.at c.memchr.result (sym c.starts_with.ensures.value ∙ c.if-not-starts_with.false) (omega arith)
    c.if-rest-key-ne9.false is found.0.high found.0.before c.if-more-at-eq10.true c.memchr.ensures (c.is_none.ensures ∙ ap not h)
    ∙ ap (λ (k : List ℕ). Some k) c.in-Some.ensures.lookup.0.2
