use Rattle.std.proofs.Common.{◌≡◌, ◌+◌, ◌++◌, [], ◌∷◌, ap, arith, length, length-append, refl, subst, sym}
use Rattle.std.proofs.lemmas.Result.{err_from_is_err_and}
use Rattle.mr_shards.specs.Verdict.{Told}
use Rattle.mr_shard_files.specs.Beside.{ReportsCause, StandsBeside}
use Rattle.mr_shard_files.specs.Faults.{IsPartFault}
use Rattle.mr_shard_files.proofs.PairLemmas.{no_texts, texts_more}
use Rattle.mr_shard_files.proofs.VerifyLemmas.{noted_more}
use Rattle.mr_shard_files.proofs.verifying.test_parts.Goals as goal

pub loop-partition-init : goal.loop-partition-init
loop-partition-init g c = record { texts = []; count = refl; parts = tt; total = no_texts c.args.job.now }

pub returns-in_err-pairs-clause-err : goal.returns-in_err-pairs-clause-err
returns-in_err-pairs-clause-err g c =
    let p = err_from_is_err_and c.from_residual.result c.from_residual.ensures.1 in
    let inv = c.loop-partition.invariant in
    rw p.1 (rw p.2 (record {
      texts = inv.texts;
      within = (let e = ap (λ (v : Told). length v.outputs) c.verdict.view_is in omega (arith, inv.count, c.loop-partition-test.true, c.len-partition-end.ensures, e));
      parts = inv.parts;
      why = subst (λ k. IsPartFault (g.S.Store.holds c.args.store.now) (g.S.Store.unreadable c.args.store.now) k 0 c.args.beside.now c.args.verdict.now c.in_err-pairs.field-0.0) (sym inv.count) c.in_err-pairs.ensures.err;
    }))

pub loop-partition-preserved : goal.loop-partition-preserved
loop-partition-preserved g c =
    let holds = g.S.Store.holds c.args.store.now in
    let beside = c.args.beside.now in
    let v = c.args.verdict.now in
    let inv = c.loop-partition.invariant in
    let part = c.in_ok-pairs.ensures.ok in
    let here : c.loop-partition.partition ≡ 0 + length inv.texts = omega (arith, inv.count) in
    record {
      texts = inv.texts ++ part.0 ∷ [];
      count = (let l = length-append inv.texts (part.0 ∷ []) in omega (arith, l, inv.count));
      parts = noted_more holds beside v 0 inv.texts part.0 inv.parts (subst (λ k. StandsBeside holds k beside part.0) here part.1) (subst (λ k. ReportsCause k v part.0) here part.2);
      total = texts_more c.args.job.now inv.texts (part.0 ∷ []) c.loop-partition.total c.in_ok-pairs.pairs c.sum_of-total.result inv.total part.3 c.sum_of-total.ensures;
    }
