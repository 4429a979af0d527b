use Rattle.std.proofs.Common.{◌≡◌, ◌++◌, length, take}
use Rattle.std.specs.Prelude.{string_bytes}
use Rattle.std.specs.List.{flat_map}
use Rattle.mr_commands.specs.YesLines.{yes_line, left_out_line}
use Rattle.mr_commands.proofs.texts.yes_text.Given as goal

abbrev pub invariant-loop-name : goal.invariant-loop-name
invariant-loop-name l = string_bytes l.text ≡ yes_line l.yes.pairs (length l.yes.skips.items) ++ flat_map left_out_line (take l.name-index l.yes.skips.items)
