use Rattle.std.proofs.Common.{◌<◌, rules}
use Rattle.mr_store.proofs.Steps.{cut_more}
use Rattle.mr_store.proofs.writing.write_all.Goals as goal

pub loop-rest-preserved : goal.loop-rest-preserved
loop-rest-preserved g c =
    let some : 0 < c.in_ok-count.count = search rules in
    rw c.split_at.ensures.back (record {
      cut = cut_more _ _ _ _ _ _ _ c.in_ok-count.count c.loop-rest.invariant.cut some c.in_ok-count.ensures.bound c.in_ok-count.ensures.takes;
      later = λ h. c.loop-rest.invariant.later (c.write.ensures.later h);
    })
