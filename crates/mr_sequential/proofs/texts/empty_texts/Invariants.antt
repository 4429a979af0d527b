use Rattle.std.proofs.Common.{◌≡◌, ℕ, length, []}
use Rattle.mr_input.specs.Files.{contents, nth_file}
use Rattle.mr_sequential.proofs.texts.empty_texts.Given as goal

abbrev pub invariant-loop : goal.invariant-loop
invariant-loop l = record {
  count : length l.texts.items ≡ l.counter;
  empty : (p : ℕ) → nth_file (contents l.texts.items) p ≡ [];
}
