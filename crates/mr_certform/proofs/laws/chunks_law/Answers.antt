use Rattle.mr_certform.proofs.Chunks.{pieces_sized, pieces_joined}
use Rattle.mr_certform.proofs.laws.chunks_law.Goals as goal

pub returns-clause-names : goal.returns-clause-names
returns-clause-names c = λ counts names e. (pieces_sized counts names e, pieces_joined counts names e)

pub returns-clause-groups : goal.returns-clause-groups
returns-clause-groups c = λ counts groups e. (pieces_sized counts groups e, pieces_joined counts groups e)
