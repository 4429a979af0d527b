use Rattle.std.proofs.Common.{sym, ◌∙◌}
use Rattle.std.proofs.lemmas.Bool.{false≢true}
use Rattle.mr_book.specs.Assembling.{committed_groups}
use Rattle.mr_book.proofs.Assemblies.{first_can}
use Rattle.mr_book.proofs.book.Book.version_for.Goals as goal

pub returns-else-can_spell-clause-can : goal.returns-else-can_spell-clause-can
returns-else-can_spell-clause-can g c = first_can (committed_groups c.args.self.now.reduces c.args.self.now.state)

pub returns-else-can_spell-clause-asked : goal.returns-else-can_spell-clause-asked
returns-else-can_spell-clause-asked g c = λ all. absurd (false≢true (sym c.if-can_spell.false ∙ c.can_spell.ensures.1 all))
