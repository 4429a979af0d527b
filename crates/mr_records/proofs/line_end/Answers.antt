use Rattle.std.proofs.Common.{◌≡◌, ℕ, ◌+◌, ◌-◌, ◌<◌, ◌≤◌, List, length, get_or, take, drop, arith, ap, ◌∙◌, eq-eqb, subst}
use Rattle.std.proofs.lemmas.List.{get_or-drop, length-drop, take_all}
use Rattle.memchr.specs.Find.{Nowhere, Passes, is_byte}
use Rattle.mr_records.proofs.line_end.Goals as goal

-- where no byte of a text from `from` on is a line feed, none is
clear : (bs : List ℕ) (from n k : ℕ) → Nowhere (Passes (is_byte 10) (drop from bs)) 0 n → from ≤ k → k < from + n → get_or bs k 0 ≡ 10 → ⊥
clear bs from n k none low high is =
    let place : from + (k - from) ≡ k = omega arith in
    none (k - from) (omega arith) (omega arith)
    (eq-eqb _ 10 (get_or-drop from bs (k - from) 0 ∙ ap (λ i. get_or bs i 0) place ∙ is))

-- a range up to the end is what is left
rest : (bs : List ℕ) (from : ℕ) → take (length bs - from) (drop from bs) ≡ drop from bs
rest bs from = take_all (length bs - from) (drop from bs) (omega (arith, length-drop from bs))

pub returns-in-Some-clause-clear : goal.returns-in-Some-clause-clear
returns-in-Some-clause-clear c = λ k.
    let bs = c.args.bytes.now in
    clear bs c.args.from c.in-Some.skipped k
    (subst (λ (h : List ℕ). Nowhere (Passes (is_byte 10) h) 0 c.in-Some.skipped) (rest bs c.args.from) c.in-Some.ensures.0.before)

pub returns-in-None-clause-clear : goal.returns-in-None-clause-clear
returns-in-None-clause-clear c = λ k low high.
    let bs = c.args.bytes.now in
    clear bs c.args.from (length (drop c.args.from bs)) k
    (subst (λ (h : List ℕ). Nowhere (Passes (is_byte 10) h) 0 (length h)) (rest bs c.args.from) c.in-None.ensures) low
    (omega (arith, length-drop c.args.from bs, c.requires))
