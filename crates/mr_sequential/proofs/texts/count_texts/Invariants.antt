use Rattle.std.proofs.Common.{◌≡◌, ◌<◌, ℕ, ◌++◌, length, drop}
use Rattle.mr_input.specs.Files.{contents, nth_file}
use Rattle.mr_sequential.specs.Rows.{count_line, row_texts}
use Rattle.mr_sequential.proofs.texts.count_texts.Given as goal

abbrev pub invariant-loop-rank : goal.invariant-loop-rank
invariant-loop-rank l = record {
  count : length l.texts.items ≡ length l.fn.texts.items;
  texts : (p : ℕ) → p < length l.fn.texts.items → nth_file (contents l.texts.items) p ++ row_texts (count_line l.sizes) p l.rank (drop l.rank l.rows)
      ≡ nth_file (contents l.fn.texts.items) p ++ row_texts (count_line l.sizes) p 0 l.rows;
}
