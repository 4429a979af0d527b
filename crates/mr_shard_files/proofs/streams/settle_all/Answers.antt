use Rattle.std.proofs.Common.{◌≡◌, ◌+◌, ◌<◌, ◌∙◌, suc, get_or, length, take, subst, refl, sym, string_bytes, arith}
use Rattle.std.proofs.lemmas.List.{get_or_default}
use Rattle.std.proofs.lemmas.Result.{err_from_is_err_and}
use Rattle.std.proofs.Math.ListN.{set}
use Rattle.mr_shards.specs.Joined.{no_verdict, verdict_at}
use Rattle.mr_shard_files.specs.Streams.{IsOther, IsSettled, ReportsUnread}
use Rattle.mr_shard_files.proofs.AllLemmas.{KeptTo, kept_all, kept_first, kept_more, kept_same}
use Rattle.mr_shard_files.proofs.SettleLemmas.{is_other, is_settled, unsettled_unread}
use Rattle.mr_shard_files.proofs.streams.settle_all.Goals as goal

pub returns-in_err-settle-clause-err : goal.returns-in_err-settle-clause-err
returns-in_err-settle-clause-err g c =
    let p = err_from_is_err_and c.from_residual.result c.from_residual.ensures.1 in
    let i = c.loop-shard.shard in
    let d = c.index-parts-shard.result in
    let remaining = g.R.CountedRead.remaining in
    let can_fail = g.R.CountedRead.can_fail in
    let same = kept_same (IsSettled remaining can_fail c.args.partition) i c.args.verdicts.now c.args.parts.now c.loop-shard.parts d c.loop-shard.invariant in
    let tells = subst (λ q. ReportsUnread (can_fail q.reader) (string_bytes q.name) c.in_err-settle.field-0.0) same c.in_err-settle.ensures.err in
    rw p.1 (rw p.2 (unsettled_unread remaining can_fail c.args.partition c.args.verdicts.now c.args.parts.now c.in_err-settle.field-0.0 (i, d, c.loop-shard-test.true, tells)))

pub returns-then-not-branch-clause-err : goal.returns-then-not-branch-clause-err
returns-then-not-branch-clause-err g c =
    let i = c.loop-shard.shard in
    let d = c.index-parts-shard.result in
    let w = c.index-verdicts-shard.result in
    let remaining = g.R.CountedRead.remaining in
    let can_fail = g.R.CountedRead.can_fail in
    let vs = c.args.verdicts.now in
    let less : i < length vs = omega (arith, c.loop-shard-test.true, c.requires) in
    let same = kept_same (IsSettled remaining can_fail c.args.partition) i vs c.args.parts.now c.loop-shard.parts d c.loop-shard.invariant in
    let verdict : w ≡ verdict_at vs i = c.index-verdicts-shard.is ∙ get_or_default vs i w no_verdict less in
    let other = is_other remaining can_fail c.args.partition w c.in_ok-settle.field-0 (get_or c.loop-shard.parts i d) c.settle.new.part c.if-not-branch.true c.in_ok-settle.ensures.ends in
    let before = kept_first (IsSettled remaining can_fail c.args.partition) i vs c.args.parts.now c.loop-shard.parts c.loop-shard.invariant in
    (refl, (i, d, c.loop-shard-test.true, (refl, subst (λ v. IsOther remaining can_fail c.args.partition v (get_or c.args.parts.now i d)) verdict (subst (IsOther remaining can_fail c.args.partition w) same other))), (take i c.loop-shard.parts, before))

pub loop-shard-preserved : goal.loop-shard-preserved
loop-shard-preserved g c =
    let i = c.loop-shard.shard in
    let d = c.index-parts-shard.result in
    let w = c.index-verdicts-shard.result in
    let remaining = g.R.CountedRead.remaining in
    let can_fail = g.R.CountedRead.can_fail in
    let vs = c.args.verdicts.now in
    let os = c.args.parts.now in
    let less : i < length vs = omega (arith, c.loop-shard-test.true, c.requires) in
    let settled = is_settled remaining can_fail c.args.partition w c.in_ok-settle.field-0 (get_or c.loop-shard.parts i d) c.settle.new.part c.if-not-branch.false c.in_ok-settle.ensures.ends in
    let here = subst (λ v. IsSettled remaining can_fail c.args.partition v (get_or c.loop-shard.parts i d) c.settle.new.part) c.index-verdicts-shard.is settled in
    let next : suc i ≡ i + 1 = omega arith in
    subst (λ k. KeptTo (IsSettled remaining can_fail c.args.partition) k vs os (set c.loop-shard.parts i c.settle.new.part)) next
    (kept_more (IsSettled remaining can_fail c.args.partition) i vs os c.loop-shard.parts w d c.settle.new.part less c.loop-shard-test.true c.loop-shard.invariant here)

pub returns-clause-ok : goal.returns-clause-ok
returns-clause-ok g c =
    let remaining = g.R.CountedRead.remaining in
    let can_fail = g.R.CountedRead.can_fail in
    let vs = c.args.verdicts.now in
    let last : c.loop-shard.shard ≡ length vs = omega (arith, c.requires) in
    kept_all (IsSettled remaining can_fail c.args.partition) vs c.args.parts.now c.loop-shard.parts (sym c.requires)
    (subst (λ k. KeptTo (IsSettled remaining can_fail c.args.partition) k vs c.args.parts.now c.loop-shard.parts) last c.loop-shard.invariant)
