use Rattle.mr_explain.proofs.LawLemmas.{gives-its-keys}
use Rattle.mr_explain.proofs.LeftOutLemmas.{left-out-are-named}
use Rattle.mr_explain.proofs.evidence_law.Goals as goal

pub returns-clause-keys : goal.returns-clause-keys
returns-clause-keys c = gives-its-keys

pub returns-clause-left_out : goal.returns-clause-left_out
returns-clause-left_out c = left-out-are-named
