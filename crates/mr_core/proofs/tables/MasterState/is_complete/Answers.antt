use Rattle.std.proofs.Common.{ℕ, Bool, false, Option, is_some, ap, sym, ◌∙◌}
use Rattle.std.specs.Option.{option_map_or}
use Rattle.mr_core.specs.declared.entries.Split.{Split}
use Rattle.mr_core.specs.Master.{State, is_complete}
use Rattle.mr_core.proofs.Lookups.{found, missed}
use Rattle.mr_core.proofs.tables.MasterState.is_complete.Goals as goal

abbrev has_output : Option Split → Bool
has_output o = option_map_or (λ (sp : Split). is_some sp.output) o false

abbrev has_committed : Option (Option ℕ) → Bool
has_committed o = option_map_or is_some o false

pub returns-in-Some : goal.returns-in-Some
returns-in-Some c =
    let here = found c.as_slice.result.now c.args.self.now.splits c.in-Map.split c.in-Some.split.now (c.as_slice.ensures ∙ ap (λ (v : State). v.splits) c.self.view_is) c.in-Some.ensures.lookup.3.0 c.in-Some.ensures.lookup.1 in
    c.is_some.ensures ∙ sym (ap (is_complete c.args.self.now) c.in-Map.is ∙ ap has_output here)

pub returns-in-None : goal.returns-in-None
returns-in-None c =
    let past = missed c.as_slice.result.now c.args.self.now.splits c.in-Map.split (c.as_slice.ensures ∙ ap (λ (v : State). v.splits) c.self.view_is) c.in-None.ensures.lookup.3 in
    sym (ap (is_complete c.args.self.now) c.in-Map.is ∙ ap has_output past)

pub returns-in-Some-get : goal.returns-in-Some-get
returns-in-Some-get c =
    let here = found c.as_slice-in-Reduce.result.now c.args.self.now.committed c.in-Reduce.partition c.in-Some-get.output.now (c.as_slice-in-Reduce.ensures ∙ ap (λ (v : State). v.committed) c.self.view_is) c.in-Some-get.ensures.lookup.3.0 c.in-Some-get.ensures.lookup.1 in
    c.is_some-in-Some-get.ensures ∙ sym (ap (is_complete c.args.self.now) c.in-Reduce.is ∙ ap has_committed here)

pub returns-in-None-get : goal.returns-in-None-get
returns-in-None-get c =
    let past = missed c.as_slice-in-Reduce.result.now c.args.self.now.committed c.in-Reduce.partition (c.as_slice-in-Reduce.ensures ∙ ap (λ (v : State). v.committed) c.self.view_is) c.in-None-get.ensures.lookup.3 in
    sym (ap (is_complete c.args.self.now) c.in-Reduce.is ∙ ap has_committed past)
