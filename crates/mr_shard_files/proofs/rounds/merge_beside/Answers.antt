use Rattle.std.proofs.Common.{◌≡◌, rules, ◌∙◌, ◌++◌, ap, length, string_bytes, subst, sym}
use Rattle.std.specs.Prelude.{IfErr, IfOk}
use Rattle.std.proofs.lemmas.Result.{IfErr-at_err, IfOk-at_ok, err_from_is_err_and}
use Rattle.mr_shard_files.specs.Made.{ReportsUnwritten}
use Rattle.mr_shard_files.specs.Streams.{AreNext, AreTaken, AreWindowsOf, IsNotBeside}
use Rattle.mr_shard_files.proofs.ShownLemmas.{shown_count}
use Rattle.mr_shard_files.proofs.TailLemmas.{next_both}
use Rattle.mr_shard_files.proofs.RoundLemmas.{stopped_beside}
use Rattle.mr_shard_files.proofs.rounds.merge_beside.Goals as goal

pub join_mut-first-requires-after_bounds : goal.join_mut-first-requires-after_bounds
join_mut-first-requires-after_bounds g c κs within =
    (tt, ap length c.as_slice-windows.ensures.value ∙ shown_count c.args.parts.now c.in_ok-all.all.items c.in_ok-all.ensures ∙ c.requires)

pub returns-in_err-rest-clause-err : goal.returns-in_err-rest-clause-err
returns-in_err-rest-clause-err g c =
    let p = err_from_is_err_and c.from_residual-in_err-rest.result c.from_residual-in_err-rest.ensures.1 in
    let made = c.args.made.now in
    let shown = subst (AreWindowsOf c.args.parts.now) (sym c.as_slice-windows.ensures.value) c.in_ok-all.ensures in
    let unwritten = ReportsUnwritten (g.W.CountedWrite.can_fail made.writer) (string_bytes made.name) in
    let stepped : IfErr c.join_mut-first.result.1 (IsNotBeside c.args.job.now c.as_slice-windows.result.now c.args.merger.now unwritten) = search rules in
    rw p.1 (rw p.2 (stopped_beside c.args.job.now c.args.parts.now c.as_slice-windows.result.now c.args.merger.now unwritten
    c.in_err-rest.field-0.0 shown (IfErr-at_err (IsNotBeside c.args.job.now c.as_slice-windows.result.now c.args.merger.now unwritten) c.in_err-rest.was stepped)))

pub returns-clause-digests : goal.returns-clause-digests
returns-clause-digests g c =
    let front = c.split_at.result.0.now in
    let back = c.split_at.result.1.now in
    let hs = c.in_ok-digests.digests.items in
    let ks = c.in_ok-rest.rest.items in
    let digested : IfOk c.join_mut-first.result.0 (λ v. AreTaken c.as_slice-lacking.result.now v.items) = search rules in
    let taken = IfOk-at_ok (λ v. AreTaken c.as_slice-lacking.result.now v.items) c.in_ok-digests.was digested in
    let first = c.in_ok-tails.ensures.next hs (subst (λ ts. AreTaken ts hs) c.as_slice-lacking.ensures.value taken) in
    let stepped : IfOk c.join_mut-first.result.1 (λ v. AreNext back v.items) = search rules in
    let second = IfOk-at_ok (λ v. AreNext back v.items) c.in_ok-rest.was stepped in
    let both : c.append.new.self.items ≡ hs ++ ks = search rules in
    subst (λ qs. AreNext qs c.append.new.self.items) (sym c.split_at.ensures.by_index.0) (subst (AreNext (front ++ back)) (sym both) (next_both front back hs ks first second))
