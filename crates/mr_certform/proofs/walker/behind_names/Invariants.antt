use Rattle.std.proofs.Common.{length}
use Rattle.mr_certform.specs.declared.grammar_state.GrammarState.TheVariants.{AtEntry}
use Rattle.mr_certform.proofs.Rows.{NamesPassed}
use Rattle.mr_certform.proofs.walker.behind_names.Given as goal

abbrev pub invariant-loop-name : goal.invariant-loop-name
invariant-loop-name l = NamesPassed l.passed (AtEntry l.parts l.groups l.more l.fn.before) l.bytes (AtEntry l.parts l.groups l.left l.last) l.rest

abbrev pub decreases-loop-name : goal.decreases-loop-name
decreases-loop-name l = length l.rest
