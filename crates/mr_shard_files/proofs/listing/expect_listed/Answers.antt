use Rattle.std.proofs.Common.{◌≡◌, ◌==◌, ◌∙◌, Some, ap, arith, inr, length, option_map, subst, sym, take, length-take-le}
use Rattle.std.specs.Prelude.{count_by}
use Rattle.mr_lanes.specs.Difference.{first_difference}
use Rattle.mr_shard_files.specs.declared.fault.ShardFault.TheVariants.{OtherInputs}
use Rattle.mr_shard_files.specs.Faults.{IsListFault}
use Rattle.mr_shard_files.specs.Listing.{IsListed, listing}
use Rattle.mr_shard_files.proofs.ListingLemmas.{found-differ, found-within, none-differ}
use Rattle.mr_shard_files.proofs.listing.expect_listed.Goals as goal

pub returns-in_default-first_difference-clause-ok : goal.returns-in_default-first_difference-clause-ok
returns-in_default-first_difference-clause-ok g c =
    let holds = g.S.Store.holds c.args.store.now in
    let inputs = c.args.inputs.now in
    let none = none-differ c.as_slice.result.now c.as_slice-2.result.now (sym c.first_difference.ensures ∙ c.in_default-first_difference.is) in
    let same = sym c.as_slice.ensures.value ∙ none ∙ c.as_slice-2.ensures.value ∙ c.in_ok-told.ensures in
    subst (λ l. IsListed holds (option_map (λ n. n.now) l) inputs) (sym c.in-Some.is) (subst (holds c.in-Some.name.now) same c.in-Ok.ensures.bytes)

pub slice_bounds-line_feeds-end : goal.slice_bounds-line_feeds-end
slice_bounds-line_feeds-end g c =
    let at = c.in-Some-first_difference.at in
    let within = found-within c.as_slice.result.now c.as_slice-2.result.now at (sym c.first_difference.ensures ∙ c.in-Some-first_difference.is) in
    sym (length-take-le at c.deref.result.now (omega (arith, within, ap length c.as_slice.ensures.value, ap length c.deref.ensures.value)))

pub returns-clause-err : goal.returns-clause-err
returns-clause-err g c =
    let inputs = c.args.inputs.now in
    let text = c.in-Ok.text.items in
    let at = c.in-Some-first_difference.at in
    let line = c.line_feeds-line.result in
    let found : first_difference text (listing inputs) ≡ Some at =
    subst (λ t. first_difference t (listing inputs) ≡ Some at) c.as_slice.ensures.value
    (subst (λ t. first_difference c.as_slice.result.now t ≡ Some at) (c.as_slice-2.ensures.value ∙ c.in_ok-told.ensures) (sym c.first_difference.ensures ∙ c.in-Some-first_difference.is)) in
    let counted = subst (λ t. line ≡ count_by (λ b. b == 10) (take at t)) c.deref.ensures.value c.line_feeds-line.ensures in
    subst (λ l. IsListFault (g.S.Store.holds c.args.store.now) (g.S.Store.unreadable c.args.store.now) (option_map (λ n. n.now) l) inputs (OtherInputs line)) (sym c.in-Some.is)
    (inr (text, c.in-Ok.ensures.bytes, found-differ text (listing inputs) at line found counted))
