use Rattle.std.proofs.Common.{◌≡◌, ◌+◌, take}
use Rattle.mr_input.specs.Files.{contents, total_size}
use Rattle.mr_files.specs.Stretches.{AreTakenFrom}
use Rattle.mr_files.proofs.StretchLemmas.{end_before}
use Rattle.mr_files.proofs.stretches.read_stretch_within.Given as goal

abbrev pub invariant-loop-file : goal.invariant-loop-file
invariant-loop-file g l = record {
  taken : AreTakenFrom (g.S.Store.holds l.store) (take l.file l.stretch.names) l.stretch.from (end_before l.stretch l.file) (contents l.files.items) l.ends;
  room : total_size (contents l.files.items) + l.left ≡ l.limit;
}
