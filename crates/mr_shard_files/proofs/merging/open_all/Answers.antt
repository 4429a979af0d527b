use Rattle.std.proofs.Common.{◌≡◌, ◌<◌, ◌∷◌, ◌++◌, [], ap, arith, inr, length, length-append, map, rules, subst, take}
use Rattle.std.proofs.lemmas.List.{take_all}
use Rattle.std.proofs.lemmas.Result.{err_from_is_err_and}
use Rattle.mr_shard_files.specs.Streams.{AreOpened}
use Rattle.mr_shard_files.proofs.RestLemmas.{rows_more}
use Rattle.mr_shard_files.proofs.SettleLemmas.{opened_next, unopened_at}
use Rattle.mr_shard_files.proofs.merging.open_all.Goals as goal

pub returns-in_err-part-clause-err : goal.returns-in_err-part-clause-err
returns-in_err-part-clause-err g c =
    let p = err_from_is_err_and c.from_residual.result c.from_residual.ensures.1 in
    rw p.1 (rw p.2 (inr (
      c.loop-partition.partition,
      c.loop-partition-test.true,
      inr (unopened_at g.S.Reader.CountedRead.remaining g.S.Reader.CountedRead.can_fail (g.S.Store.holds c.args.store.now) (g.S.Store.unreadable c.args.store.now) c.loop-partition.partition (λ s. s.now) c.args.names.now c.args.verdicts.now c.loop-shard.shard _
          c.loop-shard.parts.items c.in_err-part.field-0.0 c.loop-shard-test.true c.loop-shard.invariant c.in_err-part.ensures.err),
    )))

pub loop-shard-preserved : goal.loop-shard-preserved
loop-shard-preserved g c =
    let i = c.loop-shard.shard in
    let w = c.index-verdicts-shard.result in
    let pushed : c.push.new.self.items ≡ c.loop-shard.parts.items ++ c.in_ok-part.part ∷ [] = search rules in
    let less : i < length c.args.verdicts.now = omega (arith, c.loop-shard-test.true, c.requires) in
    opened_next g.S.Reader.CountedRead.remaining g.S.Reader.CountedRead.can_fail (g.S.Store.holds c.args.store.now) (g.S.Store.unreadable c.args.store.now) c.loop-partition.partition (λ s. s.now) c.args.names.now c.args.verdicts.now i _ w w
    c.loop-shard.parts.items c.push.new.self.items c.in_ok-part.part c.loop-shard-test.true less c.index-verdicts-shard.is pushed c.loop-shard.invariant c.in_ok-part.ensures.ok

pub loop-partition-preserved : goal.loop-partition-preserved
loop-partition-preserved g c =
    let holds = g.S.Store.holds c.args.store.now in
    let unreadable = g.S.Store.unreadable c.args.store.now in
    let remaining = g.S.Reader.CountedRead.remaining in
    let can_fail = g.S.Reader.CountedRead.can_fail in
    let names = map (λ s. s.now) c.args.names.now in
    let before = c.loop-partition.rows.items in
    let row = c.loop-shard.parts in
    let k = c.loop-shard.shard in
    let vs = c.args.verdicts.now in
    let opened = subst (λ ws. AreOpened holds unreadable remaining can_fail c.loop-partition.partition names ws row.items) (take_all k vs (omega (arith, c.requires)))
    (subst (λ ns. AreOpened holds unreadable remaining can_fail c.loop-partition.partition (map (λ s. s.now) ns) (take k vs) row.items) (take_all k c.args.names.now (omega arith)) c.loop-shard.invariant) in
    let pushed : c.push-in-loop-partition.new.self.items ≡ before ++ row ∷ [] = search rules in
    let count = length-append before (row ∷ []) in
    record {
      count = omega (arith, ap length pushed, count, c.loop-partition.invariant.count);
      rows = rows_more holds unreadable remaining can_fail names vs before c.push-in-loop-partition.new.self.items row c.loop-partition.partition c.loop-partition.invariant.count pushed c.loop-partition.invariant.rows opened;
    }
