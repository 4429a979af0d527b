use Rattle.std.proofs.Common.{arith}
use Rattle.std.proofs.lemmas.Simd.{zip2_splat}
use lib.Bits.{bit_or}
use Rattle.mr_bytes.specs.Bytes.{is_word_byte}
use Rattle.mr_lanes.proofs.LaneLemmas.{below, at_most, minus, with_splat, from_splat, either, classified_few}
use Rattle.mr_lanes.proofs.blocks.few_word_bytes.Goals as goal

pub returns : goal.returns
returns c =
    let v = c.args.lanes in
    let long = c.fits-lanes.0 in
    let small = zip2_splat bit_or v 16 32 long in
    let letters = with_splat below (λ x. minus (bit_or x 32) 97) 26 v long (with_splat minus (λ x. bit_or x 32) 97 v long small) in
    let digits = with_splat below (λ x. minus x 48) 10 v long (zip2_splat minus v 16 48 long) in
    classified_few _ is_word_byte v _ (omega arith) c.fits-lanes (either _ _ v (either _ _ v letters digits) (from_splat at_most 128 v long)) tt
