use Rattle.std.proofs.Common.{sym, ap, ◌∙◌}
use Rattle.mr_explain.specs.Compared.{is_key}
use Rattle.mr_explain.proofs.LineLemmas.{last-key, no-key}
use Rattle.mr_explain.proofs.comparing.has_key.Goals as goal

pub returns-in-Some : goal.returns-in-Some
returns-in-Some c =
    c.eq.ensures
    ∙ sym (ap (is_key c.args.key.now) (last-key c.in-Some.at c.args.line.now c.in-Some.ensures.0.high c.in-Some.ensures.1 c.in-Some.ensures.0.after))

pub returns-in-None : goal.returns-in-None
returns-in-None c = sym (ap (is_key c.args.key.now) (no-key c.args.line.now c.in-None.ensures))
