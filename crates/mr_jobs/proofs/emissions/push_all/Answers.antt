use Rattle.std.proofs.Common.{◌≡◌, ◌++◌, [], ◌∷◌, arith, ap, length, vec_len, length-append}
use Rattle.mr_jobs.specs.Views.{entries_seen, entry_for}
use Rattle.mr_jobs.proofs.EntryLemmas.{take-kept, all-more, within-more}
use Rattle.mr_jobs.proofs.emissions.push_all.Goals as goal

pub loop-key-preserved : goal.loop-key-preserved
loop-key-preserved c =
    let keys = c.loop-key.keys in
    let es = c.loop-key.entries in
    let key = c.in-Some.key.now in
    let before = c.loop-key.invariant in
    let keys_is : c.push_one.new.keys.items ≡ keys.items ++ key = c.in_ok-push_one.ensures.keys in
    let es_is : c.push_one.new.entries.items ≡ es.items ++ entry_for keys.items key c.in-Some.value ∷ [] = c.in_ok-push_one.ensures.entries in
    record {
      more_keys = omega (arith, before.more_keys, ap length keys_is, length-append keys.items key, keys.ok.0, c.push_one.new.keys.ok.0);
      more_entries = omega (arith, before.more_entries, ap length es_is, length-append es.items (entry_for keys.items key c.in-Some.value ∷ []), es.ok.0, c.push_one.new.entries.ok.0);
      keys_kept = take-kept (vec_len c.args.keys.now) c.args.keys.now.items keys.items key c.push_one.new.keys.items keys_is (omega (arith, before.more_keys, keys.ok.0)) before.keys_kept;
      entries_kept = take-kept (vec_len c.args.entries.now) c.args.entries.now.items es.items (entry_for keys.items key c.in-Some.value ∷ []) c.push_one.new.entries.items es_is (omega (arith, before.more_entries, es.ok.0)) before.entries_kept;
      within = within-more keys.items key c.push_one.new.keys.items c.in-Some.value es.items c.push_one.new.entries.items before.within keys_is es_is;
      all = all-more keys.items key c.push_one.new.keys.items c.in-Some.value es.items c.push_one.new.entries.items c.loop-key.emitter c.next.new.self
          (entries_seen c.args.keys.now.items c.args.entries.now.items ++ c.args.emitter) before.within keys_is es_is c.in-Some.ensures.next before.all;
    }
