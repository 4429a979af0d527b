use Rattle.std.proofs.Common.{◌≡◌, ◌++◌, drop}
use Rattle.mr_cli.specs.Shown.{text_shown}
use Rattle.mr_cli.proofs.failure.escape.Given as goal

abbrev pub invariant-loop-byte : goal.invariant-loop-byte
invariant-loop-byte l = l.out.items ++ text_shown l.lines l.before (drop l.byte-index l.text) ≡ text_shown l.lines 0 l.text
