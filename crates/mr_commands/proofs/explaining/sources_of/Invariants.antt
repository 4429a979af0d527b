use Rattle.std.proofs.Common.{◌≡◌, ◌++◌, drop, map}
use Rattle.mr_commands.specs.Explains.{source_told, sources_from}
use Rattle.mr_commands.proofs.explaining.sources_of.Given as goal

abbrev pub invariant-loop-name : goal.invariant-loop-name
invariant-loop-name l = map source_told l.sources.items ++ sources_from l.lines_before l.bytes_before (map (λ s. s.now) (drop l.name-index l.names))
    ≡ sources_from l.lines l.bytes (map (λ s. s.now) l.names)
