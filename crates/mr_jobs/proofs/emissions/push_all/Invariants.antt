use Rattle.std.proofs.Common.{◌≡◌, ◌≤◌, ◌++◌, All, length, take, vec_len}
use Rattle.mr_jobs.specs.Views.{IsIn, entries_seen}
use Rattle.mr_jobs.proofs.emissions.push_all.Given as goal

abbrev pub invariant-loop-key : goal.invariant-loop-key
invariant-loop-key l = record {
  more_keys : vec_len l.fn.keys ≤ vec_len l.keys;
  more_entries : vec_len l.fn.entries ≤ vec_len l.entries;
  keys_kept : take (vec_len l.fn.keys) l.keys.items ≡ l.fn.keys.items;
  entries_kept : take (vec_len l.fn.entries) l.entries.items ≡ l.fn.entries.items;
  within : All (IsIn l.keys.items) l.entries.items;
  all : entries_seen l.keys.items l.entries.items ++ l.emitter ≡ entries_seen l.fn.keys.items l.fn.entries.items ++ l.initial.emitter;
}

abbrev pub decreases-loop-key : goal.decreases-loop-key
decreases-loop-key l = length l.emitter
