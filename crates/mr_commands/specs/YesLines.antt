-- The lines of a yes.
use Rattle.std.specs.Prelude.{ℕ, List, ◌++◌, length, codes, decimal}
use Rattle.std.specs.List.{flat_map}
use Rattle.mr_bytes.specs.declared.RecordName.{RecordName}

-- what is said of a yes: its numbers, and below them each record that was left out
abbrev pub yes_line : ℕ → ℕ → List ℕ
yes_line pairs left_out = codes "yes: " ++ (decimal pairs ++ (codes " pairs, " ++ (decimal left_out ++ codes " left out\n")))

abbrev pub left_out_line : RecordName → List ℕ
left_out_line name = codes "left out " ++ (decimal name.split ++ (codes " " ++ (decimal name.rec ++ codes "\n")))

abbrev pub yes_text : ℕ → List RecordName → List ℕ
yes_text pairs skips = yes_line pairs (length skips) ++ flat_map left_out_line skips
