use Rattle.std.proofs.Common.{◌≡◌, ◌+◌, ◌^◌, take}
use Rattle.mr_input.specs.Files.{total_size, contents}
use Rattle.mr_input.proofs.is_small.Given as goal

abbrev pub invariant-loop-file : goal.invariant-loop-file
invariant-loop-file l = l.room + total_size (contents (take l.file-index l.files)) ≡ 2 ^ 30
