use Rattle.std.proofs.Common.{ℕ, List, ◌≡◌, ◌+◌, ◌-◌, ◌∙◌, ◌∷◌, ◌++◌, length, take, drop, ap, sym, arith}
use Rattle.std.proofs.lemmas.List.{length-drop, take_all}
use Rattle.mr_args.proofs.SkipLists.{lacks_front, lacks_all, parted}
use Rattle.mr_args.proofs.request.cut.Goals as goal

pub returns-then-byte-mark : goal.returns-then-byte-mark
returns-then-byte-mark c =
    let text = c.args.text.now in
    let mark = c.args.mark in
    let at = c.loop-at.at in
    let whole : take (length text - (at + 1)) (drop (at + 1) text) ≡ drop (at + 1) text = take_all (length text - (at + 1)) (drop (at + 1) text) (omega (arith, length-drop (at + 1) text)) in
    (parted at mark text c.loop-at-test.true c.if-byte-mark.true ∙ ap (λ (rest : List ℕ). take at text ++ mark ∷ rest) (sym whole), lacks_front mark at text (omega arith) c.loop-at.invariant)

pub returns : goal.returns
returns c = lacks_all c.args.mark c.args.text.now (λ k h. c.loop-at.invariant k (omega arith))
