use Rattle.std.proofs.Common.{◌≡◌, true, subst, rules}
use Rattle.mr_core.specs.declared.event.Task.TheVariants.{Reduce as ReduceTask}
use Rattle.mr_core.specs.Master.{State, maps_complete}
use Rattle.mr_core.specs.Index.{is_idle}
use Rattle.mr_core.proofs.IdleTasks.{newly_map, newly_part}
use Rattle.mr_core.proofs.tables.MasterState.find_newly.Goals as goal

pub returns-then-split-shape-clause-found : goal.returns-then-split-shape-clause-found
returns-then-split-shape-clause-found c = newly_map c.args.shape c.args.self.now c.next_map-split.result c.requires c.if-split-shape.true (c.next_map-split.ensures.there c.if-split-shape.true)

pub returns-then-partition-shape-clause-found : goal.returns-then-partition-shape-clause-found
returns-then-partition-shape-clause-found c =
    let whole : maps_complete c.args.self.now ≡ true = search rules in
    let idle : is_idle c.args.self.now (ReduceTask c.next_part-partition.result) ≡ true = subst (λ (w : State). is_idle w (ReduceTask c.next_part-partition.result) ≡ true) c.next_map-split.ensures.same (c.next_part-partition.ensures.there c.if-partition-shape.true) in
    newly_part c.args.shape c.args.self.now c.next_part-partition.result c.requires whole c.if-partition-shape.true idle
