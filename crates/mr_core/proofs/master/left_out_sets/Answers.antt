use Rattle.std.proofs.Common.{ℕ, List}
use Rattle.mr_bytes.specs.Lists.{Has}
use Rattle.mr_core.proofs.Rising.{Has-all}
use Rattle.mr_core.specs.declared.event.Event.{Event}
use Rattle.mr_core.specs.declared.event.Reply.{Reply}
use Rattle.mr_core.specs.Laws.{IsMapOf}
use Rattle.mr_core.proofs.Traced.{attempt_of_job}
use Rattle.mr_core.proofs.Sets.{sets_and_parts}
use Rattle.mr_core.proofs.master.left_out_sets.Goals as goal

pub returns-clause-rise : goal.returns-clause-rise
returns-clause-rise c sh h st run s sp e = ((sets_and_parts (λ s r. Unit {0}) (λ p o. Unit {0}) sh h st run (λ a r s k f d. tt) (λ a o p k f d. tt)).0 s sp e).0

pub returns-clause-failed : goal.returns-clause-failed
returns-clause-failed c sh h st run s r sp e has =
    let P : ℕ → ℕ → Type 0 = λ s r. (a : ℕ) × Has h (Event.MapFailed a r, Reply.Accepted) × (k : List ℕ) × IsMapOf st a s k in
    Has-all (P s) sp.skips r (((sets_and_parts P (λ p o. Unit {0}) sh h st run (λ a r s k f d. (a, f, k, attempt_of_job st a s k d)) (λ a o p k f d. tt)).0 s sp e).1) has
