use Rattle.std.proofs.Common.{◌≡◌, vec_len}
use Rattle.mr_spill.proofs.store.empty_shelves.Given as goal

abbrev pub invariant-loop : goal.invariant-loop
invariant-loop l = vec_len l.shelves ≡ l.counter
