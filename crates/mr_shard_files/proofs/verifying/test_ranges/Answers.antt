use Rattle.std.proofs.Common.{◌≡◌, ◌+◌, ◌^◌, ◌∙◌, ◌∷◌, ◌++◌, [], Some, ap, rules, subst, sym, take}
use Rattle.std.specs.List.{AllByRecursion}
use Rattle.std.proofs.lemmas.List.{get_or_default, take_more}
use Rattle.mr_files.specs.Ranges.{IsRangeOf, IsRangeRefusal}
use Rattle.sha2.specs.Sha256.{sha256}
use Rattle.mr_shards.specs.Gaps.{no_note}
use Rattle.mr_shards.specs.RangeNotes.{RangeNote}
use Rattle.mr_shard_files.specs.Verified.{IsRangeFault, StandsInFile}
use Rattle.mr_shards.proofs.SpotLemmas.{all-append}
use Rattle.mr_shard_files.proofs.VerifyLemmas.{range_refused}
use Rattle.mr_shard_files.proofs.verifying.test_ranges.Goals as goal

pub returns-in-Err-clause-err : goal.returns-in-Err-clause-err
returns-in-Err-clause-err g c =
    let holds = g.S.Store.holds c.args.store.now in
    let unreadable = g.S.Store.unreadable c.args.store.now in
    let i = c.loop-input.input in
    let range = c.index-ranges-input.result in
    let name = c.in-Ok.name.now in
    let end = c.in-Some.end in
    let fault = c.in-Err.fault in
    let named : name ≡ range.name = search rules in
    let ends : end ≡ range.from + range.length = search rules in
    let refused : IsRangeRefusal holds unreadable name range.from (Some end) (2 ^ 30) fault =
    subst (λ (r : RangeNote). IsRangeRefusal holds unreadable name r.from (Some end) (2 ^ 30) fault) c.range.view_is c.in-Err.ensures.refused in
    let told = subst (IsRangeFault holds unreadable i range) (sym c.of_range.ensures) (range_refused holds unreadable range name end i named ends fault refused) in
    record {
      at = i;
      within = c.loop-input-test.true;
      before = c.loop-input.invariant;
      why = subst (λ (r : RangeNote). IsRangeFault holds unreadable i r c.of_range.result) (c.index-ranges-input.is ∙ get_or_default c.args.ranges.now i range no_note c.loop-input-test.true) told;
    }

pub loop-input-preserved : goal.loop-input-preserved
loop-input-preserved g c =
    let holds = g.S.Store.holds c.args.store.now in
    let range = c.index-ranges-input.result in
    let end = c.in-Some.end in
    let items = c.in-Ok-read_range_within.bytes.items in
    let ended = c.in-Ok-read_range_within.field-0-1 in
    let named : c.in-Ok.name.now ≡ range.name = search rules in
    let ends : end ≡ range.from + range.length = search rules in
    let same : range.digest ≡ sha256 items = search rules in
    let read = c.in-Ok-read_range_within.ensures.bytes in
    let here : IsRangeOf read.0 range.from (Some end) items ended = subst (λ (r : RangeNote). IsRangeOf read.0 r.from (Some end) items ended) c.range.view_is read.2 in
    let stands : StandsInFile holds range = (read.0, items, ended, subst (λ n. holds n read.0) named read.1, subst (λ e. IsRangeOf read.0 range.from (Some e) items ended) ends here, same) in
    let ranges = c.args.ranges.now in
    let before = take c.loop-input.input ranges in
    let next = take_more ranges c.loop-input.input range c.loop-input-test.true ∙ ap (λ (r : RangeNote). before ++ r ∷ []) (sym c.index-ranges-input.is) in
    subst (AllByRecursion (StandsInFile holds)) (sym next) (all-append (StandsInFile holds) before (range ∷ []) c.loop-input.invariant (stands, tt))
