use Rattle.std.proofs.Common.{◌≡◌, ℕ, ◌<◌, List, IfOk, length, ap, subst}
use Rattle.mr_input.specs.Files.{contents, nth_file}
use Rattle.mr_splits.specs.Cut.{Cut}
use Rattle.mr_splits.specs.Named.{named_records}
use Rattle.mr_sequential.specs.Emitted.{silent_count}
use Rattle.mr_sequential.specs.Sequential.{sequential}
use Rattle.mr_sequential.proofs.sequence.run_watched.Goals as goal

pub returns-clause-texts : goal.returns-clause-texts
returns-clause-texts g c =
    subst (λ (files : List (List ℕ)). IfOk c.execute.result (λ r. (p : ℕ) → p < c.args.request.now.parts → nth_file (contents r.outputs.items) p ≡ sequential c.args.request.now files c.args.skips.now p))
    (ap (λ (v : Cut). v.files) c.in_ok-plan.ensures.plan) c.execute.ensures.texts

pub returns-clause-records : goal.returns-clause-records
returns-clause-records g c =
    subst (λ (files : List (List ℕ)). IfOk c.execute.result (λ r. r.records ≡ length (named_records c.args.request.now.split files)))
    (ap (λ (v : Cut). v.files) c.in_ok-plan.ensures.plan) c.execute.ensures.records

pub returns-clause-silent : goal.returns-clause-silent
returns-clause-silent g c =
    subst (λ (files : List (List ℕ)). IfOk c.execute.result (λ r. r.silent ≡ silent_count c.args.request.now.job c.args.request.now.split files c.args.skips.now))
    (ap (λ (v : Cut). v.files) c.in_ok-plan.ensures.plan) c.execute.ensures.silent
