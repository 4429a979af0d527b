use Rattle.std.proofs.Common.{[], ap, sym, subst}
use Rattle.mr_partition.specs.Hosts.{partition_by}
use Rattle.mr_spill.specs.Buffer.{Buffered}
use Rattle.mr_task.specs.Mapped.{Mapped}
use Rattle.mr_task.specs.Runs.{AreRuns}
use Rattle.mr_task.proofs.runs.Runs.new.Goals as goal

pub returns-clause-taken : goal.returns-clause-taken
returns-clause-taken c = record {
  sealed = [];
  each = subst (λ (m : Mapped). AreRuns c.args.split (λ k. partition_by c.args.by k m.parts) m.parts [] m.runs) (sym c.new.ensures) tt;
  all = ap (λ (b : Buffered). b.pairs) c.new-2.ensures;
}
