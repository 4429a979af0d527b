use Rattle.std.proofs.Common.{◌≡◌, ◌++◌, take}
use Rattle.std.specs.Prelude.{string_bytes}
use Rattle.std.specs.List.{flat_map}
use Rattle.mr_picture.specs.HistoryLines.{entry_line, shape_line}
use Rattle.mr_commands.proofs.texts.history_text.Given as goal

abbrev pub invariant-loop-entry : goal.invariant-loop-entry
invariant-loop-entry l = string_bytes l.text ≡ shape_line l.history.shape ++ flat_map entry_line (take l.entry-index l.history.entries.items)
