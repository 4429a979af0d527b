use Rattle.std.proofs.Common.{subst}
use Rattle.std.proofs.lemmas.Cmp.{nat_cmp_total}
use Rattle.std.specs.Ordering.{nat_cmp}
use Rattle.mr_bytes.specs.Lists.{Distinct, Rises}
use Rattle.mr_bytes.proofs.ListLaws.{Distinct-rises}
use Rattle.std.proofs.lemmas.List.Sorted.{IsPermutation-sym}
use Rattle.mr_group.proofs.FrontLemmas.{cmp-equal}
use Rattle.mr_spill.proofs.NameLemmas.{distinct-permuted}
use Rattle.mr_merge.proofs.distinct.RegionNames.differ.Goals as goal

pub returns : goal.returns
returns c = λ h.
    let now = c.make_room.new.self.numbers.items in
    let sorted = c.sort_unstable.new.self.items in
    subst Distinct c.make_room.ensures (distinct-permuted nat_cmp_total cmp-equal sorted now (IsPermutation-sym now sorted c.sort_unstable.ensures.permutation)
    (Distinct-rises nat_cmp_total c.sort_unstable.new.self.items (subst (Rises nat_cmp) c.as_slice-2.ensures.value (c.numbers_rise.ensures h))))
