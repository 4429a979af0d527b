use Rattle.std.proofs.Common.{◌≡◌, ◌++◌, ◌∙◌, append-nil, List, [], ◌∷◌, ℕ, ap, get_or, sym, take}
use Rattle.std.proofs.lemmas.Grind.{flat_map-append}
use Rattle.std.proofs.lemmas.List.{take_more}
use Rattle.mr_shard_files.specs.Listing.{escaped, escaped_byte}
use Rattle.mr_shard_files.proofs.listing.escaped.Goals as goal

pub loop-byte-preserved : goal.loop-byte-preserved
loop-byte-preserved c =
    let name = c.args.name.now in
    let at = c.loop-byte.byte-index in
    let byte = get_or name at 0 in
    let next : escaped (take at name ++ byte ∷ []) ≡ escaped (take at name) ++ escaped_byte byte = flat_map-append escaped_byte (take at name) (byte ∷ []) ∙ ap (λ (t : List ℕ). escaped (take at name) ++ t) (append-nil (escaped_byte byte)) in
    c.in_ok-put_byte.ensures ∙ ap (λ (t : List ℕ). t ++ escaped_byte byte) c.loop-byte.invariant ∙ sym (ap escaped (take_more name at 0 c.loop-byte-test.true) ∙ next)
