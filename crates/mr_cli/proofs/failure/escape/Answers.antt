use Rattle.std.proofs.Common.{◌++◌, ◌∙◌, ℕ, List, ap, sym, arith, get_or, drop, ◌+◌}
use Rattle.mr_cli.specs.Shown.{text_shown}
use Rattle.mr_cli.proofs.ShownLemmas.{one_more, none_left}
use Rattle.mr_cli.proofs.failure.escape.Goals as goal

pub loop-byte-preserved : goal.loop-byte-preserved
loop-byte-preserved c =
    let text = c.args.text.now in
    let i = c.loop-byte.byte-index in
    ap (λ (out : List ℕ). out ++ text_shown c.args.lines (get_or text i 0) (drop (i + 1) text)) c.in_ok-add_byte.ensures
    ∙ one_more c.args.lines c.loop-byte.before text c.loop-byte.out.items i c.loop-byte-test.true
    ∙ c.loop-byte.invariant

pub returns : goal.returns
returns c =
    let text = c.args.text.now in
    sym (none_left c.args.lines c.loop-byte.before text c.loop-byte.out.items c.loop-byte.byte-index (omega arith)) ∙ c.loop-byte.invariant
