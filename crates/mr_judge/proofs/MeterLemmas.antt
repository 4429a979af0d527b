-- What the judge's meter counts, from item to item.
use Rattle.std.proofs.Common.{◌≡◌, ℕ, ◌+◌, List, [], ◌∷◌, ◌++◌, ap, arith}
use Rattle.std.specs.Prelude.{Ok}
use Rattle.mr_jobs.specs.JobSpec.{RequestSpec}
use Rattle.mr_splits.specs.Named.{NamedRecord}
use Rattle.mr_certform.specs.declared.grammar_state.Item.{Item}
use Rattle.mr_certform.specs.declared.grammar_state.Item.TheVariants.{Skip, Entry}
use Rattle.mr_verdict.specs.Verdict.{Accepted, accepted_by, entries_in}
use Rattle.mr_verdict.specs.Steps.{header_met, Counted, counted, Listed, listed}
use Rattle.mr_judge.proofs.VerdictLemmas.{counted_is, listed_accepted, header_accepted}

-- each entry counts for one pair
pub accepted_pairs : (a : Accepted) (is : List Item) → (accepted_by a is).pairs ≡ a.pairs + entries_in is
accepted_pairs a [] = omega arith
accepted_pairs a (Skip s ∷ is) = accepted_pairs (record a { skips = a.skips ++ s ∷ [] }) is
accepted_pairs a (Entry n ∷ is) = omega (arith, accepted_pairs (record a { pairs = a.pairs + 1 }) is)
accepted_pairs a (i ∷ is) = accepted_pairs a is

pub header_entries : (at : ℕ) (o : RequestSpec) (files : List (List ℕ)) (is ks : List Item) → header_met at o files is ≡ Ok ks → entries_in is ≡ entries_in ks
header_entries at o files is ks e =
    let a : Accepted = record { skips = []; pairs = 0 } in
    omega (arith, accepted_pairs a is, accepted_pairs a ks, ap (λ (b : Accepted). b.pairs) (header_accepted at o files a is ks e))

pub rest_entries : (rs : List NamedRecord) (stop most at : ℕ) (is : List Item) (k : Counted) (r : Listed) → counted stop most is ≡ Ok k → listed rs at k.many [] k.behind ≡ Ok r → entries_in r.behind ≡ entries_in is
rest_entries rs stop most at is k r e h =
    let a : Accepted = record { skips = []; pairs = 0 } in
    omega (
      arith,
      ap entries_in (counted_is stop most is k e).0,
      accepted_pairs a k.behind,
      accepted_pairs (record { skips = r.skips; pairs = 0 }) r.behind,
      ap (λ (b : Accepted). b.pairs) (listed_accepted rs at k.many [] k.behind r h),
    )
