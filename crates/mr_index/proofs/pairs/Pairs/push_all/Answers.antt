use Rattle.std.proofs.Common.{arith, ap, length}
use Rattle.std.proofs.lemmas.List.Sums.{sum_by-append, sum_by-cons}
use Rattle.mr_jobs.specs.Emissions.{Emission}
use Rattle.mr_index.specs.Pairs.{keys_size, pairs_seen}
use Rattle.mr_index.proofs.SizeLemmas.{size-seen}
use Rattle.mr_index.proofs.pairs.Pairs.push_all.Goals as goal

pub push-requires-clause-room : goal.push-requires-clause-room
push-requires-clause-room c =
    let p = c.loop-key.self in
    omega (
      arith,
      size-seen p c.loop-key.invariant.sound,
      sum_by-append (λ (e : Emission). length e.0) (pairs_seen p) c.loop-key.emitter,
      ap keys_size c.loop-key.invariant.pairs,
      ap keys_size c.in-Some.ensures,
      sum_by-cons (λ (e : Emission). length e.0) (c.in-Some.key.now, c.in-Some.value) c.next_pair.new.emitter,
      c.requires.fits.1,
    )
