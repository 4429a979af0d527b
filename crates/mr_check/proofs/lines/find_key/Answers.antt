use Rattle.std.proofs.Common.{ℕ, take, arith, ◌∙◌, eq-eqb}
use Rattle.std.proofs.lemmas.Bool.{eqb-true}
use Rattle.mr_check.proofs.LineKeyLemmas.{told_in, told_none, tab_at, tab_none}
use Rattle.mr_check.proofs.lines.find_key.Goals as goal

pub returns-in_err-line : goal.returns-in_err-line
returns-in_err-line c = let h = c.from_residual.ensures in rw h (told_none c.args.rest.now (λ k less is. c.in_err-line.ensures k (omega arith) less (eq-eqb _ 10 is)))

pub returns-in_err-tab : goal.returns-in_err-tab
returns-in_err-tab c =
    let feed = c.in_ok-line.ensures in
    let end : ℕ = c.in_ok-line.field-0 in
    rw c.from_residual-in_err-tab.ensures (told_in end c.args.rest.now feed.0.high (eqb-true _ 10 feed.1) (λ k less e. feed.0.before k (omega arith) less (eq-eqb _ 10 e))
    ∙ tab_none (take end c.args.rest.now) (λ k less is. c.in_err-tab.ensures k (omega arith) less (eq-eqb _ 9 is)))

pub returns : goal.returns
returns c =
    let feed = c.in_ok-line.ensures in
    let end : ℕ = c.in_ok-line.field-0 in
    let found = c.in_ok-tab.ensures in
    told_in end c.args.rest.now feed.0.high (eqb-true _ 10 feed.1) (λ k less e. feed.0.before k (omega arith) less (eq-eqb _ 10 e))
    ∙ tab_at c.in_ok-tab.tab (take end c.args.rest.now) found.0.high (eqb-true _ 9 found.1) (λ k above less is. found.0.after k (omega (arith, above)) less (eq-eqb _ 9 is))
