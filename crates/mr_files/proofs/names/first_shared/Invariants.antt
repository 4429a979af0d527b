use Rattle.std.proofs.Common.{◌++◌, map, take, string_bytes}
use Rattle.mr_files.specs.Identities.{AreApart, HasSeen}
use Rattle.mr_files.proofs.names.first_shared.Given as goal

abbrev pub invariant-loop-other : goal.invariant-loop-other
invariant-loop-other g l = HasSeen (g.S.Store.known_as l.store) l.seen (map string_bytes (take l.other-index l.read))

abbrev pub invariant-loop-name : goal.invariant-loop-name
invariant-loop-name g l = record {
  seen : HasSeen (g.S.Store.known_as l.store) l.seen (map string_bytes l.read ++ map string_bytes (take l.name-index l.written));
  apart : AreApart (g.S.Store.known_as l.store) (map string_bytes l.read) (map string_bytes (take l.name-index l.written));
}
