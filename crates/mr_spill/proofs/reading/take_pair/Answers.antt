use Rattle.mr_spill.proofs.ReadingLemmas.{no-value}
use Rattle.mr_spill.proofs.reading.take_pair.Goals as goal

pub returns-in_err-value : goal.returns-in_err-value
returns-in_err-value c = rw c.from_residual-in_err-value.ensures (λ t rest fit e.
    no-value c.args.bytes.now c.in_ok-count.behind_count.now c.in_ok-key.behind_key.now c.in_ok-name.behind_name.now c.in_ok-count.count c.in_ok-key.key.now c.in_ok-name.name t rest
    c.in_ok-count.ensures.1 c.in_ok-key.ensures.1 fit c.in_ok-count.ensures.0 c.in_ok-key.ensures.0 c.in_ok-name.ensures e c.in_err-value.ensures)
