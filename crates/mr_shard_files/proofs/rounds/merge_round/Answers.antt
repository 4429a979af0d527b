use Rattle.std.proofs.Common.{◌∙◌, [], ap, inl, inr, length, refl, string_bytes, subst, sym}
use Rattle.std.proofs.lemmas.Result.{err_from_is_err_and}
use Rattle.mr_shard_files.specs.Made.{ReportsUnwritten}
use Rattle.mr_shard_files.specs.Streams.{AreNext, Moves}
use Rattle.mr_shard_files.proofs.AllLemmas.{all_length}
use Rattle.mr_shard_files.proofs.TailLemmas.{digested_moves, fills_on, merges_digested}
use Rattle.mr_shard_files.proofs.RoundLemmas.{stopped_step}
use Rattle.mr_shard_files.proofs.rounds.merge_round.Goals as goal

pub returns-in_err-fill_all-clause-err : goal.returns-in_err-fill_all-clause-err
returns-in_err-fill_all-clause-err g c =
    let p = err_from_is_err_and c.from_residual.result c.from_residual.ensures.1 in
    rw p.1 (rw p.2 (inr (inl c.in_err-fill_all.ensures.err)))

pub merge_beside-requires : goal.merge_beside-requires
merge_beside-requires g c = all_length (λ _ o n. Moves g.R.CountedRead.remaining g.R.CountedRead.can_fail [] o n) c.args.parts.now c.args.parts.now c.fill_all.new.parts c.in_ok-fill_all.ensures.ok ∙ c.requires

pub returns-in_err-digests-clause-err : goal.returns-in_err-digests-clause-err
returns-in_err-digests-clause-err g c =
    let p = err_from_is_err_and c.from_residual-in_err-digests.result c.from_residual-in_err-digests.ensures.1 in
    let made = c.args.made.now in
    rw p.1 (rw p.2 (stopped_step g.R.CountedRead.remaining g.R.CountedRead.can_fail (ReportsUnwritten (g.W.CountedWrite.can_fail made.writer) (string_bytes made.name))
    c.args.job.now c.args.parts.now c.args.merger.now c.fill_all.new.parts c.in_err-digests.field-0.0 c.in_ok-fill_all.ensures.ok c.in_err-digests.ensures.err))

pub keep_all-requires : goal.keep_all-requires
keep_all-requires g c = subst (AreNext c.fill_all.new.parts) (sym c.as_slice.ensures.value) c.in_ok-digests.ensures.digests

pub returns-in_err-keep_all-clause-err : goal.returns-in_err-keep_all-clause-err
returns-in_err-keep_all-clause-err g c =
    let p = err_from_is_err_and c.from_residual-in_err-keep_all.result c.from_residual-in_err-keep_all.ensures.1 in
    rw p.1 (rw p.2 (inl refl))

pub take_text-requires : goal.take_text-requires
take_text-requires g c = c.in_ok-digests.ensures.caught.none_late

pub returns-clause-kept : goal.returns-clause-kept
returns-clause-kept g c = ap length c.take_text.ensures.merger.held ∙ c.in_ok-digests.ensures.kept

pub returns-clause-read : goal.returns-clause-read
returns-clause-read g c =
    let remaining = g.R.CountedRead.remaining in
    let can_fail = g.R.CountedRead.can_fail in
    let parts = c.args.parts.now in
    let filled = c.fill_all.new.parts in
    let kept = c.keep_all.new.parts in
    let hashers = c.as_slice.result.now in
    fills_on remaining can_fail parts filled parts filled kept c.in_ok-fill_all.ensures.ok (digested_moves remaining can_fail hashers filled kept c.in_ok-keep_all.ensures)

pub returns-clause-ok : goal.returns-clause-ok
returns-clause-ok g c =
    let filled = c.fill_all.new.parts in
    let kept = c.keep_all.new.parts in
    let merged = c.merge_beside.new.merger in
    record {
      merged = merged;
      merges = merges_digested c.args.job.now c.as_slice.result.now filled kept c.args.merger.now merged c.in_ok-keep_all.ensures c.in_ok-digests.ensures.ok;
      gives = c.take_text.ensures.merger;
      written = λ bytes h. c.take_text.ensures.written bytes (c.in_ok-digests.ensures.caught.written bytes h);
    }
