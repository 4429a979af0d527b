use Rattle.std.proofs.Common.{List, ℕ, length, ap, arith, map}
use Rattle.std.proofs.lemmas.List.{length-map, length-append}
use Rattle.mr_jobs.specs.Emissions.{Emission}
use Rattle.mr_sequential.proofs.source.push_keys.Goals as goal

pub push-requires : goal.push-requires
push-requires c =
    let old : List (List ℕ) = c.args.keys.now in
    let all : List Emission = c.args.pairs in
    let left : List Emission = c.loop-key.left in
    omega (
      arith,
      ap length c.loop-key.invariant,
      length-append c.loop-key.keys (map (λ (e : Emission). e.0) left),
      length-append old (map (λ (e : Emission). e.0) all),
      length-map left (λ (e : Emission). e.0),
      length-map all (λ (e : Emission). e.0),
      ap length c.in-Some.ensures.next,
      c.requires,
    )
