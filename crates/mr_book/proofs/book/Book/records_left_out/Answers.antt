use Rattle.std.proofs.Common.{ℕ, ◌<◌, ◌≤◌, ◌++◌, List, length, map, ap, ◌∙◌, arith}
use Rattle.std.proofs.lemmas.List.{length-map, take_all}
use Rattle.mr_bytes.specs.declared.RecordName.{RecordName}
use Rattle.mr_core.specs.Core.{CoreView}
use Rattle.mr_core.specs.declared.entries.Split.{Split}
use Rattle.mr_book.specs.Assembled.{in_split, records_from}
use Rattle.mr_book.specs.Assembling.{sets_of}
use Rattle.mr_book.proofs.Assemblies.{records_more, splits_count}
use Rattle.mr_book.proofs.book.Book.records_left_out.Goals as goal

pub loop-split-preserved : goal.loop-split-preserved
loop-split-preserved g c =
    let k = c.core-core.result.now in
    let rs : List RecordName = c.loop-split.records.items in
    let count = splits_count k.shape c.args.self.now.history k.state c.limits-limits.ensures.within.parts.0 c.limits-limits.ensures.within.attempts.0 c.core-core.ensures.run.0 in
    let within : c.loop-split.split < length k.state.splits = omega (arith, c.loop-split-test.true, ap (λ s. s.maps) c.shape-split-end.ensures, count) in
    c.in_ok-push_records.ensures
    ∙ ap (λ (set : List ℕ). rs ++ map (in_split c.loop-split.split) set) c.set.ensures.set
    ∙ records_more k.state c.loop-split.split rs within c.loop-split.invariant

pub returns : goal.returns
returns g c =
    let k = c.core-core.result.now in
    let count = splits_count k.shape c.args.self.now.history k.state c.limits-limits.ensures.within.parts.0 c.limits-limits.ensures.within.attempts.0 c.core-core.ensures.run.0 in
    let all : length (sets_of k.state) ≤ c.loop-split.split = omega (arith, c.loop-split-test.false, ap (λ s. s.maps) c.shape-split-end.ensures, count, length-map k.state.splits (λ (sp : Split). sp.skips)) in
    c.loop-split.invariant
    ∙ ap (records_from 0) (take_all c.loop-split.split (sets_of k.state) all)
    ∙ ap (λ (v : CoreView). records_from 0 (sets_of v.state)) c.core-core.ensures.core
