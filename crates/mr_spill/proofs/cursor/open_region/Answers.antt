use Rattle.std.proofs.Common.{length}
use Rattle.std.specs.List.{flat_map}
use Rattle.mr_spill.specs.Spelling.{pair_bytes}
use Rattle.mr_spill.proofs.cursor.open_region.Goals as goal

pub returns-in_err-count : goal.returns-in_err-count
returns-in_err-count c = rw c.from_residual.ensures (λ ts s. c.in_err-count.ensures (length ts) (flat_map pair_bytes ts) s.is)
