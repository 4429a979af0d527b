use Rattle.std.proofs.Common.{◌∙◌, ◌++◌, List, [], ap, refl, string_bytes, subst, sym, take}
use Rattle.std.proofs.lemmas.Result.{err_from_is_err_and}
use Rattle.mr_shards.specs.declared.cursor.Held.{Held}
use Rattle.mr_shards.specs.Rounds.{AreCounted, outputs_of}
use Rattle.mr_shard_files.specs.Made.{ReportsUnwritten}
use Rattle.mr_shard_files.specs.Streams.{AllAre, AreHeld, Moves}
use Rattle.mr_shard_files.proofs.AllLemmas.{all_length}
use Rattle.mr_shard_files.proofs.MadeLemmas.{unwritten_back}
use Rattle.mr_shard_files.proofs.RoundLemmas.{after_giving, all_filled, all_none, all_passed, are_fresh, fronts, grown, held_within, last_round, nothings, round, stopped_new, stopped_round}
use Rattle.mr_shard_files.proofs.rounds.merge_rounds.Goals as goal

pub returns-in_err-merger-clause-err : goal.returns-in_err-merger-clause-err
returns-in_err-merger-clause-err g c =
    let p = err_from_is_err_and c.from_residual.result c.from_residual.ensures.1 in
    rw p.1 (rw p.2 (stopped_new g.R.CountedRead.remaining g.R.CountedRead.can_fail c.args.job.now c.args.files.now c.args.parts.now c.in_err-merger.field-0.0 c.in_err-merger.ensures.err))

pub loop-init : goal.loop-init
loop-init g c =
    let remaining = g.R.CountedRead.remaining in
    let can_fail = g.R.CountedRead.can_fail in
    let parts = c.args.parts.now in
    let files = c.args.files.now in
    record {
      count = sym c.requires.count ∙ sym c.in_ok-merger.ensures.shards;
      passed = nothings parts;
      moved = all_none remaining can_fail parts;
      written = [];
      stands = λ rs h. c.in_ok-merger.ensures.fresh c.args.job.now rs (are_fresh remaining can_fail files parts rs h);
      made = c.requires.fresh;
      later = λ f. f;
      named = refl;
    }

pub returns-in_err-merge_round-clause-err : goal.returns-in_err-merge_round-clause-err
returns-in_err-merge_round-clause-err g c =
    let p = err_from_is_err_and c.from_residual-in_err-merge_round.result c.from_residual-in_err-merge_round.ensures.1 in
    let first = g.W.CountedWrite.can_fail c.args.made.now.writer in
    let now = g.W.CountedWrite.can_fail c.loop.made.writer in
    let name = string_bytes c.args.made.now.name in
    let named = string_bytes c.loop.made.name in
    let held = c.loop.invariant in
    rw p.1 (rw p.2 (stopped_round g.R.CountedRead.remaining g.R.CountedRead.can_fail (ReportsUnwritten now named) (ReportsUnwritten first name) c.args.job.now c.args.files.now held.passed c.args.parts.now c.loop.parts
    c.loop.merger held.written c.merge_round.new.parts c.in_err-merge_round.field-0.0 (λ f. unwritten_back now first named name f held.later (ap string_bytes held.named)) held.moved held.stands c.in_err-merge_round.ensures.err))

pub returns-then-are_done-clause-ok : goal.returns-then-are_done-clause-ok
returns-then-are_done-clause-ok g c =
    let remaining = g.R.CountedRead.remaining in
    let can_fail = g.R.CountedRead.can_fail in
    let parts = c.loop.parts in
    let kept = c.merge_round.new.parts in
    let written = c.loop.invariant.written in
    let next = c.merge_round.new.merger in
    let fills = c.in_ok-merge_round.ensures.read in
    let takes = c.in_ok-merge_round.ensures.ok in (
      written ++ takes.merged.text,
      record {
        passed = c.loop.invariant.passed;
        moved = all_filled remaining can_fail c.loop.invariant.passed c.args.parts.now parts kept parts c.loop.invariant.moved fills;
        count = c.in_ok-merge_round.ensures.kept ∙ sym c.loop.invariant.count ∙ all_length (Moves remaining can_fail) c.loop.invariant.passed c.args.parts.now parts c.loop.invariant.moved;
        merged = λ rs h.
            (let last = last_round remaining can_fail c.args.job.now c.args.files.now c.loop.invariant.passed parts parts c.loop.merger takes.merged written
            c.loop.invariant.stands kept fills takes.merges (sym c.are_done.ensures ∙ c.if-are_done.true) rs h in
            (last.0, subst (λ (hs : List Held). AreCounted c.args.job.now (outputs_of rs) hs) (sym takes.gives.held) last.1));
      },
      takes.written written c.loop.invariant.made,
    )

pub pass_all-requires : goal.pass_all-requires
pass_all-requires g c =
    let kept = c.merge_round.new.parts in
    let takes = c.in_ok-merge_round.ensures.ok in
    let s = takes.merges in
    subst (λ cs. AreHeld cs kept) (sym (c.cuts.ensures ∙ takes.gives.cuts)) (held_within g.R.CountedRead.remaining g.R.CountedRead.can_fail takes.merged.cuts kept s.windows s.shown s.merges.within)

pub loop-preserved : goal.loop-preserved
loop-preserved g c =
    let remaining = g.R.CountedRead.remaining in
    let can_fail = g.R.CountedRead.can_fail in
    let initial = c.args.parts.now in
    let parts = c.loop.parts in
    let kept = c.merge_round.new.parts in
    let after = c.pass_all.new.parts in
    let next = c.merge_round.new.merger in
    let held = c.loop.invariant in
    let takes = c.in_ok-merge_round.ensures.ok in
    let cuts = takes.merged.cuts in
    let passes = subst (λ cs. AllAre (λ k o n. Moves remaining can_fail (take k o.held) o n) cs kept after) (c.cuts.ensures ∙ takes.gives.cuts) c.pass_all.ensures in
    let fills = c.in_ok-merge_round.ensures.read in
    let behind = round remaining can_fail c.args.job.now c.args.files.now held.passed initial parts after parts c.loop.merger takes.merged held.written
    held.moved held.stands kept fills takes.merges passes in
    record {
      count = all_length (λ k o n. Moves remaining can_fail (take k o.held) o n) cuts kept after passes ∙ all_length (λ _ o n. Moves remaining can_fail [] o n) parts parts kept fills
          ∙ held.count ∙ sym c.in_ok-merge_round.ensures.kept;
      passed = grown held.passed (fronts cuts kept);
      moved = all_passed remaining can_fail held.passed initial kept after cuts (all_filled remaining can_fail held.passed initial parts kept parts held.moved fills) passes;
      written = held.written ++ takes.merged.text;
      stands = λ rs h. after_giving c.args.job.now rs (held.written ++ takes.merged.text) takes.merged next takes.gives (behind rs h);
      made = takes.written held.written held.made;
      later = λ f. held.later (c.merge_round.ensures.later f);
      named = c.merge_round.ensures.name ∙ held.named;
    }
