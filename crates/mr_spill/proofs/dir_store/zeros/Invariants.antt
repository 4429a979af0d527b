use Rattle.std.proofs.Common.{◌≡◌, vec_len}
use Rattle.mr_spill.proofs.dir_store.zeros.Given as goal

abbrev pub invariant-loop : goal.invariant-loop
invariant-loop l = vec_len l.words ≡ l.counter
