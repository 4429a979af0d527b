use Rattle.std.proofs.Common.{◌≡◌, ◌<◌, ℕ, ◌++◌, length, drop}
use Rattle.mr_input.specs.Files.{contents, nth_file}
use Rattle.mr_splits.specs.Cut.{records_of}
use Rattle.mr_sequential.specs.Rows.{row_start, row_texts, names_text}
use Rattle.mr_sequential.proofs.texts.name_texts.Given as goal

abbrev pub invariant-loop-rank : goal.invariant-loop-rank
invariant-loop-rank l = record {
  left : l.left ≡ drop (row_start l.groups.entry_counts.items l.rank) l.groups.names;
  count : length l.texts.items ≡ length l.fn.texts.items;
  texts : (p : ℕ) → p < length l.fn.texts.items
      → nth_file (contents l.texts.items) p ++ row_texts (names_text l.job (records_of l.plan) l.groups) p l.rank (drop l.rank l.rows)
      ≡ nth_file (contents l.fn.texts.items) p ++ row_texts (names_text l.job (records_of l.plan) l.groups) p 0 l.rows;
}
