use Rattle.std.proofs.Common.{List, [], subst, sym, ◌∙◌}
use Rattle.std.proofs.lemmas.List.{append-nil}
use Rattle.mr_bytes.specs.Pairs.{Triple}
use Rattle.mr_task.specs.declared.runs.Runs.{Runs}
use Rattle.mr_partition.specs.Hosts.{partition_by}
use Rattle.mr_task.specs.Mapped.{IsMapped, Mapped}
use Rattle.mr_task.specs.Runs.{AreRuns, HasTaken, part_in}
use Rattle.mr_task.proofs.RunLemmas.{all-mapped}
use Rattle.mr_task.proofs.runs.Runs.finish.Goals as goal

pub returns-clause-all : goal.returns-clause-all
returns-clause-all c = λ pairs h.
    let old : Runs = c.args.self.now in
    let done = c.in_ok-seal_rest.ensures in
    let all : HasTaken pairs c.seal_rest.new.self = subst (λ (l : List Triple). HasTaken l c.seal_rest.new.self) (append-nil pairs) (done.taken pairs h) in
    subst (IsMapped (part_in old) old.sealed.parts pairs) (sym c.replace.ensures.value)
    (all-mapped pairs c.seal_rest.new.self old.by old.sealed.parts all done.waiting done.alike.by done.alike.parts)

pub returns-clause-none : goal.returns-clause-none
returns-clause-none c = record {
  sealed = [];
  each = subst (λ (m : Mapped). AreRuns c.seal_rest.new.self.split (λ k. partition_by c.seal_rest.new.self.by k m.parts) m.parts [] m.runs) (sym (c.replace.ensures.after ∙ c.new-empty.ensures)) tt;
  all = c.in_ok-seal_rest.ensures.waiting;
}
