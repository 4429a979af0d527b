use Rattle.std.proofs.Common.{◌≡◌, ◌++◌, drop, map}
use Rattle.mr_shards.specs.Truth.{ranges_for}
use Rattle.mr_shards.proofs.StretchLemmas.{begin_at}
use Rattle.mr_shards.proofs.verdict.ranges_for.Given as goal

abbrev pub invariant-loop-file : goal.invariant-loop-file
invariant-loop-file l =
    l.notes.items ++ ranges_for (drop l.file (map (λ s. s.now) l.names)) (begin_at l.file l.from) (drop l.file l.input) l.ends
    ≡ ranges_for (map (λ s. s.now) l.names) l.from l.input l.ends
