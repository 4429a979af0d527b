use Rattle.std.proofs.Common.{◌<◌, ◌∙◌, ap, sym, ◌+◌, List, length, subst, arith, get_or}
use Rattle.std.proofs.lemmas.List.{length_push}
use Rattle.std.proofs.lemmas.Result.{err_from_is_err_and}
use Rattle.mr_shards.specs.declared.merger.MergeFault.{MergeFault}
use Rattle.mr_shards.specs.Refused.{Blames}
use Rattle.mr_shards.specs.Rounds.{AreReadUpTo, AreWindows, Reading, outputs_of}
use Rattle.mr_shards.proofs.ListLemmas.{pushed}
use Rattle.mr_shards.proofs.RefusedLemmas.{blames-opening, handed}
use Rattle.mr_shards.proofs.RoundLemmas.{dry-at, no_reading, open-here, open-push, window-at, windows-count}
use Rattle.mr_shards.proofs.merger.open_all.Goals as goal

pub returns-in_err-head-clause-err : goal.returns-in_err-head-clause-err
returns-in_err-head-clause-err c =
    let job = c.args.job.now in
    let i = c.loop-shard.shard in
    handed (λ (e : MergeFault). (rs : List Reading) → AreReadUpTo job c.args.held.now rs → AreWindows rs c.args.windows.now → Blames job (outputs_of rs) e) c.from_residual.result c.in_err-head.field-0.0
    (err_from_is_err_and c.from_residual.result c.from_residual.ensures.1)
    (λ rs read v.
    (let w = window-at rs c.args.windows.now i no_reading _ v c.loop-shard-test.true in
    let less = subst (λ n. i < n) (sym (windows-count rs c.args.windows.now v)) c.loop-shard-test.true in
    blames-opening job (outputs_of rs) i _ (get_or rs i no_reading) _ c.in_err-head.field-0.0 (read i _ no_reading less) w.is (c.in_err-head.ensures.err w.more w.none_more)))

pub returns-in_default-clause-none : goal.returns-in_default-clause-none
returns-in_default-clause-none c = λ _.
    let n = c.in_ok-head.ensures.none c.in_default.is in
    dry-at c.args.windows.now c.loop-shard.shard _ c.loop-shard-test.true n.0 n.1

pub loop-shard-preserved : goal.loop-shard-preserved
loop-shard-preserved c =
    let e = pushed _ _ _ _ c.push.ensures.items c.in_ok-map_err.ensures.variant in
    let here = open-here c.args.job.now _ _ _ _ c.in-Some.head c.in-Some.rest c.in-Some.is c.in_ok-head.ensures.some in
    record {
      count = ap length e ∙ length_push c.loop-shard.cursors.items _ ∙ ap (λ k. k + 1) c.loop-shard.invariant.count;
      at = λ i h w d l. open-push c.args.job.now c.args.held.now c.args.windows.now c.loop-shard.cursors.items c.push.new.self.items c.loop-shard.shard _ _ _ _
          c.loop-shard.invariant.count c.loop-shard-test.true e here c.loop-shard.invariant.at (omega (arith, c.loop-shard-test.true, c.requires)) i h w d l;
    }
