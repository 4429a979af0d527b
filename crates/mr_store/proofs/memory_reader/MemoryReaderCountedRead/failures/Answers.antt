use Rattle.std.proofs.Common.{List, ℕ, subst}
use Rattle.mr_store.specs.Devices.{AreBytes}
use Rattle.mr_store.specs.Memory.{Memory}
use Rattle.mr_store.proofs.Steps.{bytes_left}
use Rattle.mr_store.proofs.memory_reader.MemoryReaderCountedRead.failures.Goals as goal

pub returns-clause-known : goal.returns-clause-known
returns-clause-known c =
    subst (λ (m : Memory). AreBytes m.bytes) c.self.view_is
    (bytes_left c.self.inside.at c.self.inside.bytes.items (subst (λ (bytes : List ℕ). AreBytes bytes) c.deref.ensures.value c.are_none-known.ensures))
