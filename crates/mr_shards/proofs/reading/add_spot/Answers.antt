use Rattle.std.proofs.Common.{◌<◌, ◌^◌, arith}
use Rattle.std.specs.Prelude.{decimal}
use Rattle.mr_shards.proofs.SpellLemmas.{decimal-space}
use Rattle.mr_shards.proofs.reading.add_spot.Goals as goal

pub returns : goal.returns
returns c = rw c.in-Some.ensures (
  _,
  c.in_ok-push.ensures.items,
  λ s fits e.
      let wide : s.file < 2 ^ 64 = omega (arith, fits.file) in
      let parts = c.parted.ensures (decimal s.file) (decimal s.start) (decimal-space s.file wide) e in
      let file = c.small_or_zero.ensures s.file fits.file parts.0 in
      let start = c.number_or_zero.ensures s.start fits.start parts.1 in
      λ i. record { file = file i; start = start i },
)
