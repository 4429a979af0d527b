use Rattle.std.proofs.Common.{◌≡◌, ◌+◌, [], suc, get_or, length, ap, sym, ◌∙◌, subst, arith}
use Rattle.std.proofs.lemmas.Result.{err_from_is_err_and}
use Rattle.std.proofs.Math.ListN.{set}
use Rattle.mr_store.specs.Devices.{TookAll, TookSome, texts}
use Rattle.mr_store.proofs.Parts.{Kept, kept_more, kept_stop, kept_all, text_at, length-texts}
use Rattle.mr_store.proofs.writing.write_parts.Goals as goal

pub loop-i-preserved : goal.loop-i-preserved
loop-i-preserved g c =
    let few : length (texts c.args.outputs.now) ≡ length c.args.outputs.now = length-texts c.args.outputs.now in
    let text : c.deref.result.now ≡ get_or (texts c.args.outputs.now) c.loop-i.i [] = c.deref.ensures.value ∙ (ap (λ o. o.items) c.index-outputs-i.is ∙ sym (text_at c.args.outputs.now c.loop-i.i c.index-outputs-i.result c.loop-i-test.true)) in
    let took : TookAll (g.W.CountedWrite.seen (get_or c.loop-i.writers c.loop-i.i c.index-writers-i.result)) (g.W.CountedWrite.seen c.write_whole.new.writer) (get_or (texts c.args.outputs.now) c.loop-i.i []) = subst (TookAll (g.W.CountedWrite.seen (get_or c.loop-i.writers c.loop-i.i c.index-writers-i.result)) (g.W.CountedWrite.seen c.write_whole.new.writer)) text c.in_ok-write_whole.ensures.whole in
    let more : Kept g.W.CountedWrite.seen (suc c.loop-i.i) c.args.writers.now (set c.loop-i.writers c.loop-i.i c.write_whole.new.writer) (texts c.args.outputs.now) = kept_more g.W.CountedWrite.seen c.loop-i.i c.args.writers.now c.loop-i.writers (texts c.args.outputs.now) c.index-writers-i.result c.write_whole.new.writer (omega arith) (omega arith) c.loop-i.invariant took in
    let next : suc c.loop-i.i ≡ c.loop-i.i + 1 = omega arith in
    subst (λ n. Kept g.W.CountedWrite.seen n c.args.writers.now (set c.loop-i.writers c.loop-i.i c.write_whole.new.writer) (texts c.args.outputs.now)) next more

pub returns-in_err-write_whole : goal.returns-in_err-write_whole
returns-in_err-write_whole g c =
    let few : length (texts c.args.outputs.now) ≡ length c.args.outputs.now = length-texts c.args.outputs.now in
    let text : c.deref.result.now ≡ get_or (texts c.args.outputs.now) c.loop-i.i [] = c.deref.ensures.value ∙ (ap (λ o. o.items) c.index-outputs-i.is ∙ sym (text_at c.args.outputs.now c.loop-i.i c.index-outputs-i.result c.loop-i-test.true)) in
    let took : TookSome (g.W.CountedWrite.seen (get_or c.loop-i.writers c.loop-i.i c.index-writers-i.result)) (g.W.CountedWrite.seen c.write_whole.new.writer) (get_or (texts c.args.outputs.now) c.loop-i.i []) = subst (TookSome (g.W.CountedWrite.seen (get_or c.loop-i.writers c.loop-i.i c.index-writers-i.result)) (g.W.CountedWrite.seen c.write_whole.new.writer)) text c.in_err-write_whole.ensures.beginning in
    let p = err_from_is_err_and c.from_residual.result c.from_residual.ensures.1 in
    rw p.1 (kept_stop g.W.CountedWrite.seen c.loop-i.i c.args.writers.now c.loop-i.writers (texts c.args.outputs.now) c.index-writers-i.result c.write_whole.new.writer (omega arith) (omega arith) c.loop-i.invariant took)

pub returns : goal.returns
returns g c =
    let few : length (texts c.args.outputs.now) ≡ length c.args.outputs.now = length-texts c.args.outputs.now in
    let last : c.loop-i.i ≡ length (texts c.args.outputs.now) = omega arith in
    kept_all g.W.CountedWrite.seen c.args.writers.now c.loop-i.writers (texts c.args.outputs.now) (omega arith) (subst (λ n. Kept g.W.CountedWrite.seen n c.args.writers.now c.loop-i.writers (texts c.args.outputs.now)) last c.loop-i.invariant)
