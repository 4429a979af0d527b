use Rattle.std.proofs.Common.{◌∙◌, length, eqb-true, sym}
use Rattle.mr_picture.proofs.LineLemmas.{next-nothing}
use Rattle.mr_picture.proofs.parsing.next_number.Goals as goal

pub returns-then-is_empty-clause-value : goal.returns-then-is_empty-clause-value
returns-then-is_empty-clause-value c = next-nothing c.args.text.now (eqb-true (length c.args.text.now) 0 (sym c.is_empty.ensures ∙ c.if-is_empty.true))
