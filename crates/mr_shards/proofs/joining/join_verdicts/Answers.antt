use Rattle.std.proofs.Common.{◌≡◌, length, refl, ap, sym, ◌∙◌, subst, arith}
use Rattle.std.proofs.lemmas.Result.{err_from_is_err_and}
use Rattle.mr_shards.specs.declared.joining.Joined.{Joined}
use Rattle.mr_shards.specs.Joined.{IsJoined}
use Rattle.mr_shards.specs.Joining.{Follows, IsShardFault}
use Rattle.mr_shards.specs.Portions.{no_shift}
use Rattle.mr_shards.specs.Verdict.{Told}
use Rattle.mr_shards.proofs.JoinLemmas.{IsJoinedTo, joined-all, joined-fault, joined-none, joined-step, later-is}
use Rattle.mr_shards.proofs.joining.join_verdicts.Goals as goal

pub loop-shard-init : goal.loop-shard-init
loop-shard-init c =
    let none = c.in_ok-verdict.ensures in
    subst (λ (v : Told). IsJoinedTo c.args.request.now c.args.verdicts.now 0 v no_shift c.as_slice-rest.result.now) (sym none)
    (joined-none c.args.request.now c.args.verdicts.now _ c.as_slice-rest.result.now (refl, refl, refl, refl, refl) refl refl (c.as_slice-rest.ensures.value ∙ c.in_ok-inputs.ensures))

pub returns-in_err-add_verdict-clause-err : goal.returns-in_err-add_verdict-clause-err
returns-in_err-add_verdict-clause-err c =
    let p = err_from_is_err_and c.from_residual-in_err-add_verdict.result c.from_residual-in_err-add_verdict.ensures.1 in
    let request = c.args.request.now in
    let vs = c.args.verdicts.now in
    let i = c.loop-shard.shard in
    let d = c.index-verdicts-shard.result in
    let later = later-is vs i d c.loop-shard.rest.now c.split_at.result.1.now (length c.as_slice.result.now) c.loop-shard-test.true c.loop-shard.invariant.rest_is
    (ap length c.as_slice.ensures.value ∙ ap (λ (v : Told). length v.inputs) (c.verdict.view_is ∙ c.index-verdicts-shard.is)) c.split_at.ensures.back in
    rw p.1 (rw p.2 (joined-fault request vs i d c.loop-shard.joined.verdict c.loop-shard.joined.past c.loop-shard.rest.now c.split_at.result.1.now c.in_err-add_verdict.field-0.0
    c.loop-shard-test.true c.loop-shard.invariant later
    (subst (λ (v : Told). IsShardFault request c.loop-shard.joined.verdict v i c.loop-shard.joined.past c.split_at.result.1.now c.in_err-add_verdict.field-0.0) c.index-verdicts-shard.is c.in_err-add_verdict.ensures.err)))

pub loop-shard-preserved : goal.loop-shard-preserved
loop-shard-preserved c =
    let request = c.args.request.now in
    let vs = c.args.verdicts.now in
    let i = c.loop-shard.shard in
    let d = c.index-verdicts-shard.result in
    let later = later-is vs i d c.loop-shard.rest.now c.split_at.result.1.now (length c.as_slice.result.now) c.loop-shard-test.true c.loop-shard.invariant.rest_is
    (ap length c.as_slice.ensures.value ∙ ap (λ (v : Told). length v.inputs) (c.verdict.view_is ∙ c.index-verdicts-shard.is)) c.split_at.ensures.back in
    joined-step request vs i d c.loop-shard.joined.verdict c.add_verdict.new.joined.verdict c.loop-shard.joined.past c.add_verdict.new.joined.past c.loop-shard.rest.now c.split_at.result.1.now
    c.loop-shard-test.true c.loop-shard.invariant later
    (subst (λ (v : Told). Follows request c.loop-shard.joined.verdict c.add_verdict.new.joined.verdict v c.loop-shard.joined.past c.add_verdict.new.joined.past c.split_at.result.1.now) c.index-verdicts-shard.is c.in_ok-add_verdict.ensures.ok)

pub returns-clause-ok : goal.returns-clause-ok
returns-clause-ok c =
    let end : c.loop-shard.shard ≡ length c.args.verdicts.now = omega (arith, c.loop-shard-test.false, c.loop-shard.auto.shard-end) in
    subst (λ (t : Told). IsJoined c.args.request.now c.args.verdicts.now t)
    (sym (ap (λ (j : Joined). record {
      job = j.verdict.job;
      flags = j.verdict.flags;
      literal = j.verdict.literal;
      parts = j.verdict.parts;
      split = j.verdict.split;
      inputs = c.in_ok-inputs.inputs.items;
      outputs = j.verdict.outputs;
      left_out = j.verdict.left_out;
      pairs = j.verdict.pairs;
    }) c.joined-2.view_is))
    (joined-all c.args.request.now c.args.verdicts.now c.loop-shard.joined.verdict c.loop-shard.joined.past c.loop-shard.rest.now c.in_ok-inputs.inputs.items
    (subst (λ k. IsJoinedTo c.args.request.now c.args.verdicts.now k c.loop-shard.joined.verdict c.loop-shard.joined.past c.loop-shard.rest.now) end c.loop-shard.invariant) c.in_ok-inputs.ensures)
