use Rattle.std.proofs.Common.{◌≡◌, ◌⊎◌, ◌++◌, ◌∙◌, ap, sym, drop, ◌+◌, List, inr, subst, get_or}
use Rattle.std.proofs.lemmas.Result.{err_from_is_err_and}
use Rattle.mr_shards.specs.declared.cursor.Held.{Held}
use Rattle.mr_shards.specs.declared.merger.MergeFault.{MergeFault}
use Rattle.mr_shards.specs.declared.merger.MergeFault.TheVariants.{OutOfMemory}
use Rattle.mr_shards.specs.Portions.{Shift, behind, no_shift, past_shard}
use Rattle.mr_shards.specs.Refused.{PassesNot}
use Rattle.mr_shards.specs.Rounds.{IsTooFar, held_for, held_from}
use Rattle.mr_shards.proofs.FreshLemmas.{held-more, no_files, shift-more}
use Rattle.mr_shards.proofs.ListLemmas.{pushed}
use Rattle.mr_shards.proofs.RefusedLemmas.{handed}
use Rattle.mr_shards.proofs.merger.held_of.Goals as goal

pub returns-in_err-before-clause-err : goal.returns-in_err-before-clause-err
returns-in_err-before-clause-err c =
    handed (λ (e : MergeFault). (e ≡ OutOfMemory) ⊎ IsTooFar c.args.files.now e) c.from_residual-in_err-before.result c.in_err-before.field-0.0
    (err_from_is_err_and c.from_residual-in_err-before.result c.from_residual-in_err-before.ensures.1)
    (inr (
      c.loop-shard.shard,
      c.loop-shard-test.true,
      subst (λ (s : Shift). PassesNot s c.in_err-before.field-0.0)
          (ap (λ (s : Shift). behind s (past_shard (get_or c.args.files.now c.loop-shard.shard no_files))) c.loop-shard.invariant.before ∙ sym (shift-more no_shift c.args.files.now c.loop-shard.shard no_files c.loop-shard-test.true))
          c.in_err-before.ensures.err,
    ))

pub loop-shard-preserved : goal.loop-shard-preserved
loop-shard-preserved c =
    let fs = c.args.files.now in
    let i = c.loop-shard.shard in
    record {
      all = ap (λ (hs : List Held). hs ++ held_from c.in_ok-before.before (drop (i + 1) fs)) (pushed _ _ _ _ c.push.ensures.items c.in_ok-map_err.ensures.variant)
          ∙ held-more fs i no_files c.loop-shard.all.items c.loop-shard.before c.in_ok-before.before (held_for fs) c.loop-shard-test.true c.in_ok-before.ensures.ok c.loop-shard.invariant.all;
      before = c.in_ok-before.ensures.ok ∙ ap (λ (s : Shift). behind s (past_shard (get_or c.args.files.now c.loop-shard.shard no_files))) c.loop-shard.invariant.before
          ∙ sym (shift-more no_shift fs i no_files c.loop-shard-test.true);
    }
