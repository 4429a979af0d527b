use Rattle.std.proofs.Common.{◌∙◌, sym}
use Rattle.mr_picture.proofs.ReadingLemmas.{front-is, front-none}
use Rattle.mr_picture.proofs.reading.length_of_front.Goals as goal

pub returns-then-starts_with : goal.returns-then-starts_with
returns-then-starts_with c = front-is c.args.line.now c.args.text.now c.requires (sym c.starts_with.ensures.value ∙ c.if-starts_with.true)

pub returns-else-starts_with : goal.returns-else-starts_with
returns-else-starts_with c = λ more. front-none c.args.line.now c.args.text.now more (sym c.starts_with.ensures.value ∙ c.if-starts_with.false)
