use Rattle.std.proofs.Common.{◌≡◌, take}
use Rattle.mr_input.specs.Files.{contents}
use Rattle.mr_commands.specs.Facts.{sizes}
use Rattle.mr_commands.proofs.counts.sizes_of.Given as goal

abbrev pub invariant-loop-output : goal.invariant-loop-output
invariant-loop-output l = l.sizes.items ≡ sizes (contents (take l.output-index l.outputs))
