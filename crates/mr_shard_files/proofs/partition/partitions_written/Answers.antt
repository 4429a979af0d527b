use Rattle.std.proofs.Common.{◌≡◌, ℕ, ◌∷◌, ◌++◌, ◌<◌, ◌^◌, ◌∙◌, List, [], Some, ap, inl, inr, length, length-append, map, refl, replicate, rules, subst, sym, arith}
use Rattle.std.proofs.lemmas.List.{length-map, length-replicate}
use Rattle.std.proofs.lemmas.Result.{err_from_is_err_and}
use Rattle.mr_files.specs.Names.{name_of_part, part_files}
use Rattle.mr_jobs.specs.JobSpec.{JobSpec}
use Rattle.mr_shards.specs.Truth.{notes_for}
use Rattle.mr_shards.specs.Verdict.{Note}
use Rattle.mr_shard_files.specs.Beside.{files_told}
use Rattle.mr_shard_files.specs.Faults.{IsPartitionFault}
use Rattle.mr_shard_files.specs.Made.{ReportsUnwritten}
use Rattle.mr_shard_files.specs.Pairs.{FitsAt, IsAdded, IsUnfit}
use Rattle.mr_shard_files.specs.Streams.{AreJoined}
use Rattle.mr_files.proofs.Written.{either}
use Rattle.mr_shard_files.proofs.AllLemmas.{all_length}
use Rattle.mr_shard_files.specs.declared.fault.ShardFault.TheVariants.{OutOfMemory}
use Rattle.mr_shard_files.proofs.InputLemmas.{told_count}
use Rattle.mr_shard_files.proofs.NoteLemmas.{notes_next, notes_none}
use Rattle.mr_shard_files.proofs.PartLemmas.{partitions_next, partitions_none}
use Rattle.mr_shard_files.proofs.RestLemmas.{row_at, rows_rest, set_length}
use Rattle.mr_shard_files.proofs.RowLemmas.{AreSummed, rows_more, rows_none}
use Rattle.mr_shard_files.proofs.ResultLemmas.{all_written, among_first, among_part, begun_kept, cut_short, empty_kept, other_written, whole_more, whole_none}
use Rattle.mr_shard_files.proofs.SettleLemmas.{opened_count, partition_joined, partition_refused}
use Rattle.mr_shard_files.proofs.partition.partitions_written.Goals as goal

pub loop-partition-init : goal.loop-partition-init
loop-partition-init g c =
    let first = g.S.Store.holds c.args.store.now in
    let now = g.S.Store.holds c.put_verdict.new.store in
    let dir = c.args.plan.now.out.now in
    let names = map (λ s. s.now) c.args.plan.now.names.now in
    let vs = c.args.verdicts.now in
    let none : replicate (length vs) (Some 0) ≡ c.as_mut_slice-totals.result.now = sym (c.as_mut_slice-totals.ensures.value ∙ c.in_ok-sums.ensures.items_if_clones_equal (λ y k. search rules)) in
    record {
      texts = [];
      count = refl;
      all = omega (arith, c.in_ok-rows.ensures.count, c.parts-count.ensures.same);
      opened = c.in_ok-rows.ensures.ok;
      merged = partitions_none first c.args.request.now.job (map (λ s. s.now) c.args.plan.now.names.now) c.args.verdicts.now;
      rows = subst (AreSummed first c.args.request.now.job names vs [] 0) none (rows_none first c.args.request.now.job names vs (length-map c.args.plan.now.names.now (λ s. s.now) ∙ c.requires.count));
      totals = ap length (sym none) ∙ length-replicate (length vs) (Some 0);
      notes_are = c.new-notes.ensures.items ∙ sym notes_none;
      whole = whole_none first first now dir;
      emptied = c.in_ok-put_verdict.ensures.whole;
      begins = c.in_ok-put_verdict.ensures.begins;
      others = among_first first first now dir c.in_ok-put_verdict.ensures.others;
      still = c.in_ok-put_verdict.ensures.still;
    }

pub part_written-requires-clause-files : goal.part_written-requires-clause-files
part_written-requires-clause-files g c =
    let remaining = g.S.Reader.CountedRead.remaining in
    let can_fail = g.S.Reader.CountedRead.can_fail in
    let holds = g.S.Store.holds c.args.store.now in
    let unreadable = g.S.Store.unreadable c.args.store.now in
    let names = map (λ s. s.now) c.args.plan.now.names.now in
    let vs = c.args.verdicts.now in
    let i = c.loop-partition.partition in
    let here : i < length c.loop-partition.rows.items = omega (arith, c.loop-partition-test.true, c.loop-partition.invariant.all, c.parts-count.ensures.same) in
    let opened = row_at holds unreadable remaining can_fail names vs c.loop-partition.rows.items i c.index_mut.result.now c.index_mut.result.now c.as_mut_slice-parts.result.now here c.index_mut.ensures.value c.as_mut_slice-parts.ensures.value c.loop-partition.invariant.opened in
    let files : c.args.files.now ≡ files_told vs = c.requires.files in
    ap length files ∙ told_count vs ∙ sym (opened_count remaining can_fail holds unreadable i names vs c.as_mut_slice-parts.result.now opened)

pub part_written-requires-clause-count : goal.part_written-requires-clause-count
part_written-requires-clause-count g c =
    let remaining = g.S.Reader.CountedRead.remaining in
    let can_fail = g.S.Reader.CountedRead.can_fail in
    let holds = g.S.Store.holds c.args.store.now in
    let unreadable = g.S.Store.unreadable c.args.store.now in
    let names = map (λ s. s.now) c.args.plan.now.names.now in
    let vs = c.args.verdicts.now in
    let i = c.loop-partition.partition in
    let here : i < length c.loop-partition.rows.items = omega (arith, c.loop-partition-test.true, c.loop-partition.invariant.all, c.parts-count.ensures.same) in
    let opened = row_at holds unreadable remaining can_fail names vs c.loop-partition.rows.items i c.index_mut.result.now c.index_mut.result.now c.as_mut_slice-parts.result.now here c.index_mut.ensures.value c.as_mut_slice-parts.ensures.value c.loop-partition.invariant.opened in
    opened_count remaining can_fail holds unreadable i names vs c.as_mut_slice-parts.result.now opened

pub returns-in_err-note-clause-still : goal.returns-in_err-note-clause-still
returns-in_err-note-clause-still g c n h = c.loop-partition.invariant.still n (c.part_written.ensures.still n h)

pub returns-in_err-map_err-clause-still : goal.returns-in_err-map_err-clause-still
returns-in_err-map_err-clause-still g c n h = c.loop-partition.invariant.still n (c.part_written.ensures.still n h)

pub returns-in_err-note-clause-err : goal.returns-in_err-note-clause-err
returns-in_err-note-clause-err g c =
    let p = err_from_is_err_and c.from_residual-in_err-note.result c.from_residual-in_err-note.ensures.1 in
    let remaining = g.S.Reader.CountedRead.remaining in
    let can_fail = g.S.Reader.CountedRead.can_fail in
    let holds = g.S.Store.holds c.args.store.now in
    let unreadable = g.S.Store.unreadable c.args.store.now in
    let names = map (λ s. s.now) c.args.plan.now.names.now in
    let vs = c.args.verdicts.now in
    let i = c.loop-partition.partition in
    let here : i < length c.loop-partition.rows.items = omega (arith, c.loop-partition-test.true, c.loop-partition.invariant.all, c.parts-count.ensures.same) in
    let opened = row_at holds unreadable remaining can_fail names vs c.loop-partition.rows.items i c.index_mut.result.now c.index_mut.result.now c.as_mut_slice-parts.result.now here c.index_mut.ensures.value c.as_mut_slice-parts.ensures.value c.loop-partition.invariant.opened in
    let files : c.args.files.now ≡ files_told vs = c.requires.files in
    let mid = g.S.Store.holds c.loop-partition.store in
    let new = g.S.Store.holds c.part_written.new.store in
    let dir = c.args.plan.now.out.now in
    let e = c.in_err-note.field-0.0 in
    let held = c.loop-partition.invariant in
    let fits : i < 2 ^ 64 = omega arith in
    let only = c.in_err-note.ensures.others in
    let less : i < c.args.request.now.parts = omega (arith, c.loop-partition-test.true, c.parts-count.ensures.same) in
    let told = ReportsUnwritten (g.S.Store.unwritable c.loop-partition.store (name_of_part dir i)) (name_of_part dir i) e in
    rw p.1 (rw p.2 (inr (inr (inl (cut_short holds mid new unreadable (g.S.Store.unwritable c.args.store.now) (g.S.Store.unwritable c.loop-partition.store) c.args.request.now names vs dir held.texts i e held.count less fits held.merged held.whole held.emptied held.others held.still only
    (either {B = told} {D = told} (λ r. subst (λ (j : JobSpec). IsPartitionFault holds unreadable j names vs i e) c.job-job.ensures.same
    (partition_refused remaining can_fail holds unreadable i c.job-job.result.now names vs c.as_mut_slice-parts.result.now c.args.files.now e c.requires.few files opened r)) (λ u. u) c.in_err-note.ensures.err))))))

pub returns-in_err-map_err-clause-err : goal.returns-in_err-map_err-clause-err
returns-in_err-map_err-clause-err g c =
    let p = err_from_is_err_and c.from_residual-in_err-map_err.result c.from_residual-in_err-map_err.ensures.1 in
    let holds = g.S.Store.holds c.args.store.now in
    let mid = g.S.Store.holds c.loop-partition.store in
    let new = g.S.Store.holds c.part_written.new.store in
    let i = c.loop-partition.partition in
    let held = c.loop-partition.invariant in
    let fits : i < 2 ^ 64 = omega arith in
    let less : i < c.args.request.now.parts = omega (arith, c.loop-partition-test.true, c.parts-count.ensures.same) in
    rw p.1 (rw p.2 (inr (inr (inl (cut_short holds mid new (g.S.Store.unreadable c.args.store.now) (g.S.Store.unwritable c.args.store.now) (g.S.Store.unwritable c.loop-partition.store) c.args.request.now (map (λ s. s.now) c.args.plan.now.names.now) c.args.verdicts.now c.args.plan.now.out.now held.texts i OutOfMemory
    held.count less fits held.merged held.whole held.emptied held.others held.still c.in_ok-note.ensures.others (inl (inl (inl refl))))))))

pub loop-partition-preserved : goal.loop-partition-preserved
loop-partition-preserved g c =
    let remaining = g.S.Reader.CountedRead.remaining in
    let can_fail = g.S.Reader.CountedRead.can_fail in
    let holds = g.S.Store.holds c.args.store.now in
    let unreadable = g.S.Store.unreadable c.args.store.now in
    let names = map (λ s. s.now) c.args.plan.now.names.now in
    let vs = c.args.verdicts.now in
    let i = c.loop-partition.partition in
    let here : i < length c.loop-partition.rows.items = omega (arith, c.loop-partition-test.true, c.loop-partition.invariant.all, c.parts-count.ensures.same) in
    let opened = row_at holds unreadable remaining can_fail names vs c.loop-partition.rows.items i c.index_mut.result.now c.index_mut.result.now c.as_mut_slice-parts.result.now here c.index_mut.ensures.value c.as_mut_slice-parts.ensures.value c.loop-partition.invariant.opened in
    let files : c.args.files.now ≡ files_told vs = c.requires.files in
    let mid = g.S.Store.holds c.loop-partition.store in
    let new = g.S.Store.holds c.part_written.new.store in
    let dir = c.args.plan.now.out.now in
    let inv = c.loop-partition.invariant in
    let fits : i < 2 ^ 64 = omega arith in
    let only = c.in_ok-note.ensures.others in
    let (text, joined, stands, told) = c.in_ok-note.ensures.ok in
    let job = c.args.request.now.job in
    let held = c.in_ok-note.merger.held in
    let counted = partition_joined remaining can_fail holds unreadable i job names vs c.as_mut_slice-parts.result.now c.args.files.now text held files opened
    (subst (λ (j : JobSpec). AreJoined remaining can_fail j c.args.files.now i vs c.as_mut_slice-parts.result.now text held) c.job-job.ensures.same joined) in
    let added = c.add_pairs.ensures in
    let pushed : c.push.new.self.items ≡ c.loop-partition.notes.items ++ c.in_ok-note.note ∷ [] = search rules in
    record {
      texts = inv.texts ++ text ∷ [];
      count = (let e = length-append inv.texts (text ∷ []) in omega (arith, e, inv.count));
      all = set_length c.loop-partition.rows.items i _ ∙ inv.all;
      opened = rows_rest holds unreadable remaining can_fail names vs c.loop-partition.rows.items i _ inv.opened;
      merged = partitions_next holds job names vs inv.texts text i inv.count inv.merged counted.partition;
      rows = rows_more holds job names vs inv.texts text i held c.loop-partition.totals c.add_pairs.new.totals inv.count inv.rows counted.partition counted.counts added;
      totals = all_length IsAdded held c.loop-partition.totals c.add_pairs.new.totals added ∙ inv.totals;
      notes_are = pushed ∙ ap (λ (l : List Note). l ++ c.in_ok-note.note ∷ []) inv.notes_are ∙ ap (λ (n : Note). notes_for (part_files i) inv.texts ++ n ∷ []) told
          ∙ sym (notes_next inv.texts text i inv.count);
      whole = whole_more holds mid new dir i inv.texts text fits only inv.whole stands;
      emptied = empty_kept holds mid new dir i only inv.emptied;
      begins = begun_kept holds mid new dir i [] only inv.begins;
      others = among_part holds mid new dir i inv.others only;
      still = λ n h. inv.still n (c.part_written.ensures.still n h);
    }

pub add_pairs-requires : goal.add_pairs-requires
add_pairs-requires g c =
    let remaining = g.S.Reader.CountedRead.remaining in
    let can_fail = g.S.Reader.CountedRead.can_fail in
    let holds = g.S.Store.holds c.args.store.now in
    let unreadable = g.S.Store.unreadable c.args.store.now in
    let names = map (λ s. s.now) c.args.plan.now.names.now in
    let vs = c.args.verdicts.now in
    let i = c.loop-partition.partition in
    let here : i < length c.loop-partition.rows.items = omega (arith, c.loop-partition-test.true, c.loop-partition.invariant.all, c.parts-count.ensures.same) in
    let opened = row_at holds unreadable remaining can_fail names vs c.loop-partition.rows.items i c.index_mut.result.now c.index_mut.result.now c.as_mut_slice-parts.result.now here c.index_mut.ensures.value c.as_mut_slice-parts.ensures.value c.loop-partition.invariant.opened in
    let (text, joined, stands, told) = c.in_ok-note.ensures.ok in
    c.loop-partition.invariant.totals ∙ sym (joined.merged.count ∙ opened_count remaining can_fail holds unreadable i names vs c.as_mut_slice-parts.result.now opened)

pub test_totals-requires : goal.test_totals-requires
test_totals-requires g c = c.loop-partition.invariant.totals

pub returns-in_err-test_totals-clause-err : goal.returns-in_err-test_totals-clause-err
returns-in_err-test_totals-clause-err g c =
    let p = err_from_is_err_and c.from_residual-in_err-test_totals.result c.from_residual-in_err-test_totals.ensures.1 in
    let inv = c.loop-partition.invariant in
    let vs = c.args.verdicts.now in
    let all : c.loop-partition.partition ≡ c.args.request.now.parts = omega (arith, c.loop-partition-test.false, c.loop-partition.auto.partition-end, c.parts-count.ensures.same) in
    let unfit = subst (λ (j : JobSpec). IsUnfit j vs c.loop-partition.totals c.in_err-test_totals.field-0.0) c.job-job.ensures.same c.in_err-test_totals.ensures.err in
    rw p.1 (rw p.2 (inr (inr (inr (other_written (g.S.Store.holds c.args.store.now) (g.S.Store.holds c.loop-partition.store) c.args.request.now (map (λ s. s.now) c.args.plan.now.names.now) vs c.args.plan.now.out.now inv.texts c.loop-partition.totals c.loop-partition.partition all inv.count inv.rows inv.whole inv.emptied inv.begins inv.others
    c.in_err-test_totals.field-0.0 inv.totals unfit)))))

pub returns-clause-ok : goal.returns-clause-ok
returns-clause-ok g c =
    let inv = c.loop-partition.invariant in
    let vs = c.args.verdicts.now in
    let all : c.loop-partition.partition ≡ c.args.request.now.parts = omega (arith, c.loop-partition-test.false, c.loop-partition.auto.partition-end, c.parts-count.ensures.same) in
    let fits = subst (λ (j : JobSpec). (i : ℕ) → i < length vs → FitsAt j vs c.loop-partition.totals i) c.job-job.ensures.same c.in_ok-test_totals.ensures.ok in
    all_written (g.S.Store.holds c.args.store.now) (g.S.Store.holds c.loop-partition.store) c.args.request.now (map (λ s. s.now) c.args.plan.now.names.now) vs c.args.plan.now.out.now inv.texts c.loop-partition.totals c.loop-partition.partition all inv.count inv.rows inv.whole inv.emptied inv.begins inv.others
    c.loop-partition.notes.items inv.notes_are inv.totals fits
