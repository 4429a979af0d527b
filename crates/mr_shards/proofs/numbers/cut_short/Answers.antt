use Rattle.std.proofs.Common.{arith, refl}
use Rattle.mr_shards.proofs.NumberLemmas.{behind-cut, number-cut, number-more, number-none}
use Rattle.mr_shards.proofs.numbers.cut_short.Goals as goal

pub returns-in_default : goal.returns-in_default
returns-in_default c =
    let text = c.args.text.now in
    let one = number-more text 0 0 c.in_ok-first.first (omega arith) (number-none text) c.in_ok-first.ensures in
    behind-cut text 1 c.in_ok-first.first (number-cut text 1 c.in_ok-first.first (omega arith) (λ zero. refl) one c.in_default.ensures)

pub returns-in-None : goal.returns-in-None
returns-in-None c =
    let text = c.args.text.now in
    let one = number-more text 0 0 c.in_ok-first.first (omega arith) (number-none text) c.in_ok-first.ensures in
    let both = number-more text 1 c.in_ok-first.first c.in-Some.both (omega arith) one c.in-Some.ensures in
    behind-cut text 2 c.in-Some.both
    (number-cut text 2 c.in-Some.both (omega arith) (λ zero. absurd (c.if-text-eq48.false zero)) both c.in-None.ensures)
