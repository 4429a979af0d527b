use Rattle.std.proofs.Common.{sym, ◌∙◌}
use Rattle.mr_spill.proofs.NameLemmas.{differ-from_rise}
use Rattle.mr_merge.specs.Merged.{NamesDiffer}
use Rattle.mr_merge.proofs.GroupLemmas.{grouped-merged}
use Rattle.mr_merge.proofs.LawLemmas.{by-name-some, merged-permuted}
use Rattle.mr_spill.proofs.RegionLaws.{names-under}
use Rattle.mr_merge.proofs.merged.grouped_by_name.Goals as goal

pub returns-clause-differ : goal.returns-clause-differ
returns-clause-differ c =
    let by = by-name-some c.args.pairs.now c.in_ok-by_name.field-0 c.in-Some.by_name c.in-Some.is c.in_ok-by_name.ensures in
    differ-from_rise c.args.pairs.now c.in-Some.by_name by.1 by.0

pub returns-clause-groups : goal.returns-clause-groups
returns-clause-groups c =
    let by = by-name-some c.args.pairs.now c.in_ok-by_name.field-0 c.in-Some.by_name c.in-Some.is c.in_ok-by_name.ensures in
    let d : NamesDiffer c.args.pairs.now = differ-from_rise c.args.pairs.now c.in-Some.by_name by.1 by.0 in
    grouped-merged c.in-Some.by_name c.in_ok-group_pairs.field-0 (names-under c.in-Some.by_name by.0) c.in_ok-group_pairs.ensures
    ∙ sym (merged-permuted c.args.pairs.now c.in-Some.by_name d by.1)
