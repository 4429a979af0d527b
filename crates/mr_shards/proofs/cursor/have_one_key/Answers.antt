use Rattle.std.proofs.Common.{◌∙◌, refl, sym}
use Rattle.mr_shards.proofs.FrontLemmas.{same-by-front}
use Rattle.mr_shards.proofs.cursor.have_one_key.Goals as goal

pub returns-then-line-le8 : goal.returns-then-line-le8
returns-then-line-le8 c = (
  λ _. same-by-front 8 c.args.line.key.now c.args.other.key.now c.requires.line.1 c.requires.other.1 c.if-line-other-2.false c.if-line-le8.true
      (sym c.requires.line.0 ∙ c.if-line-other.false ∙ c.requires.other.0),
  λ _. refl,
)
