-- The history of a run, as text.
use Rattle.std.specs.Prelude.{ℕ, List}
use Rattle.mr_book.specs.declared.book.History.{History}
use Rattle.mr_picture.specs.HistoryLines.{history_text as lines_of}

-- what its book was opened with, and a line for each event with its reply
abbrev pub history_text : History → List ℕ
history_text h = lines_of h.shape h.entries.items
