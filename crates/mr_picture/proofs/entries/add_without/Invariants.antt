use Rattle.std.proofs.Common.{◌≡◌, ◌++◌, take}
use Rattle.std.specs.Prelude.{string_bytes, codes}
use Rattle.std.specs.List.{flat_map}
use Rattle.mr_picture.specs.HistoryLines.{numbered}
use Rattle.mr_picture.proofs.entries.add_without.Given as goal

abbrev pub invariant-loop-rec : goal.invariant-loop-rec
invariant-loop-rec l = string_bytes l.text ≡ string_bytes l.fn.text ++ (codes " without" ++ flat_map (numbered (codes " ")) (take l.rec-index l.skips))
