use Rattle.std.proofs.Common.{◌++◌, ◌∷◌, ◌∙◌}
use Rattle.std.specs.Prelude.{decimal}
use Rattle.hex.specs.Hex.{encode_lower}
use Rattle.mr_shards.specs.Verdict.{place_told}
use Rattle.mr_shards.proofs.DigestLemmas.{decodes, taken}
use Rattle.mr_shards.proofs.SpellLemmas.{decimal-space, hex-space}
use Rattle.mr_shards.proofs.reading.add_range.Goals as goal

pub returns-clause-range : goal.returns-clause-range
returns-clause-range c = rw c.in-Some.ensures (
  _,
  c.in_ok-push.ensures.items,
  λ n fits e.
      let a = c.parted.ensures (encode_lower n.digest) (decimal n.length ++ 32 ∷ place_told c.args.old n) (hex-space n.digest fits.bytes) e in
      let b = c.parted-2.ensures (decimal n.length) (place_told c.args.old n) (decimal-space n.length fits.few) a.1 in
      let place = c.place_of-place.ensures.place n fits b.1 in
      let from = place.0 in
      let closed = place.1 in
      let ends = place.2 in
      let count = c.number_or_zero.ensures n.length fits.few b.0 in
      let name = c.in_ok-from_slice.ensures.items ∙ place.3 in
      let digest = taken _ _ _ c.decode_to_slice.new.out n.digest (decodes c.parted.result.0.now n.digest a.0 fits.bytes fits.whole) c.decode_to_slice.ensures.value in
      λ i. record { name = name i; from = from i; length = count i; digest = digest i; closed = closed i; ends = ends i },
)
