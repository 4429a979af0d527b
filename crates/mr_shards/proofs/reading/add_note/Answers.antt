use Rattle.std.proofs.Common.{◌++◌, ◌∷◌, ◌∙◌}
use Rattle.std.specs.Prelude.{decimal}
use Rattle.hex.specs.Hex.{encode_lower}
use Rattle.mr_shards.proofs.DigestLemmas.{decodes, taken}
use Rattle.mr_shards.proofs.SpellLemmas.{decimal-space, hex-space}
use Rattle.mr_shards.proofs.reading.add_note.Goals as goal

pub returns : goal.returns
returns c = rw c.in-Some.ensures (
  _,
  c.in_ok-push.ensures.items,
  λ n fits e.
      let a = c.parted.ensures (encode_lower n.digest) (decimal n.length ++ 32 ∷ n.name) (hex-space n.digest fits.bytes) e in
      let b = c.parted-2.ensures (decimal n.length) n.name (decimal-space n.length fits.few) a.1 in
      let count = c.number_or_zero.ensures n.length fits.few b.0 in
      let name = c.in_ok-from_slice.ensures.items ∙ b.1 in
      let digest = taken _ _ _ c.decode_to_slice.new.out n.digest (decodes c.parted.result.0.now n.digest a.0 fits.bytes fits.whole) c.decode_to_slice.ensures.value in
      λ i. record { name = name i; length = count i; digest = digest i },
)
