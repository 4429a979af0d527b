use Rattle.std.proofs.Common.{◌∙◌, [], ap, sym, subst, List}
use Rattle.std.proofs.lemmas.Result.{err_from_is_err_and}
use Rattle.mr_shards.specs.declared.merger.ShardText.{ShardText}
use Rattle.mr_shards.specs.declared.shift.ShardFiles.{ShardFiles}
use Rattle.mr_shards.specs.Outputs.{IsOutputOfAll}
use Rattle.mr_shards.specs.Refused.{Blames}
use Rattle.mr_shards.specs.Rounds.{AreFresh, AreWindows, IsMerged, are_last}
use Rattle.mr_shards.proofs.FreshLemmas.{fresh-wholes, last-wholes, outputs-wholes, windows-wholes, wholes}
use Rattle.mr_shards.proofs.RefusedLemmas.{blamed}
use Rattle.mr_shards.proofs.merger.merge_parts.Goals as goal

pub returns-in_err-merger-clause-err : goal.returns-in_err-merger-clause-err
returns-in_err-merger-clause-err c =
    let os = c.args.outputs.now in
    let fresh = subst (λ (fs : List ShardFiles). AreFresh fs (wholes os)) (sym (c.as_slice.ensures.value ∙ c.in_ok-files.ensures)) (fresh-wholes os) in
    blamed c.args.job.now os c.from_residual-in_err-merger.result c.in_err-merger.field-0.0
    (err_from_is_err_and c.from_residual-in_err-merger.result c.from_residual-in_err-merger.ensures.1)
    (subst (λ (qs : List ShardText). Blames c.args.job.now qs c.in_err-merger.field-0.0) (outputs-wholes os) (c.in_err-merger.ensures.err c.args.job.now (wholes os) fresh))

pub returns-in_err-merge_round-clause-err : goal.returns-in_err-merge_round-clause-err
returns-in_err-merge_round-clause-err c =
    let job = c.args.job.now in
    let os = c.args.outputs.now in
    let fresh = subst (λ (fs : List ShardFiles). AreFresh fs (wholes os)) (sym (c.as_slice.ensures.value ∙ c.in_ok-files.ensures)) (fresh-wholes os) in
    let v = subst (AreWindows (wholes os)) (sym (c.as_slice-2.ensures.value ∙ c.in_ok-windows.ensures)) (windows-wholes os) in
    blamed job os c.from_residual-in_err-merge_round.result c.in_err-merge_round.field-0.0
    (err_from_is_err_and c.from_residual-in_err-merge_round.result c.from_residual-in_err-merge_round.ensures.1)
    (subst (λ (qs : List ShardText). Blames job qs c.in_err-merge_round.field-0.0) (outputs-wholes os)
    (c.in_err-merge_round.ensures.err (wholes os) [] (c.in_ok-merger.ensures.fresh job (wholes os) fresh) v))

pub returns-clause-stands : goal.returns-clause-stands
returns-clause-stands c =
    let job = c.args.job.now in
    let os = c.args.outputs.now in
    let fresh = subst (λ (fs : List ShardFiles). AreFresh fs (wholes os)) (sym (c.as_slice.ensures.value ∙ c.in_ok-files.ensures)) (fresh-wholes os) in
    let v = subst (AreWindows (wholes os)) (sym (c.as_slice-2.ensures.value ∙ c.in_ok-windows.ensures)) (windows-wholes os) in
    let last = ap are_last (c.as_slice-2.ensures.value ∙ c.in_ok-windows.ensures) ∙ last-wholes os in
    let m = c.in_ok-merge_round.ensures.ok.whole (wholes os) [] (c.in_ok-merger.ensures.fresh job (wholes os) fresh) v last in
    (subst (λ (qs : List ShardText). IsMerged job qs c.merge_round.new.self.text) (outputs-wholes os) m.0).stands

pub returns-clause-merged : goal.returns-clause-merged
returns-clause-merged c =
    let job = c.args.job.now in
    let os = c.args.outputs.now in
    let fresh = subst (λ (fs : List ShardFiles). AreFresh fs (wholes os)) (sym (c.as_slice.ensures.value ∙ c.in_ok-files.ensures)) (fresh-wholes os) in
    let v = subst (AreWindows (wholes os)) (sym (c.as_slice-2.ensures.value ∙ c.in_ok-windows.ensures)) (windows-wholes os) in
    let last = ap are_last (c.as_slice-2.ensures.value ∙ c.in_ok-windows.ensures) ∙ last-wholes os in
    let m = c.in_ok-merge_round.ensures.ok.whole (wholes os) [] (c.in_ok-merger.ensures.fresh job (wholes os) fresh) v last in
    c.in_ok-from_slice.ensures.items ∙ c.text.ensures ∙ (subst (λ (qs : List ShardText). IsMerged job qs c.merge_round.new.self.text) (outputs-wholes os) m.0).text_is

pub returns-clause-whole : goal.returns-clause-whole
returns-clause-whole c =
    let job = c.args.job.now in
    let os = c.args.outputs.now in
    let fresh = subst (λ (fs : List ShardFiles). AreFresh fs (wholes os)) (sym (c.as_slice.ensures.value ∙ c.in_ok-files.ensures)) (fresh-wholes os) in
    let v = subst (AreWindows (wholes os)) (sym (c.as_slice-2.ensures.value ∙ c.in_ok-windows.ensures)) (windows-wholes os) in
    let last = ap are_last (c.as_slice-2.ensures.value ∙ c.in_ok-windows.ensures) ∙ last-wholes os in
    let m = c.in_ok-merge_round.ensures.ok.whole (wholes os) [] (c.in_ok-merger.ensures.fresh job (wholes os) fresh) v last in
    subst (IsOutputOfAll job os) (sym (c.in_ok-from_slice.ensures.items ∙ c.text.ensures)) (subst (λ (qs : List ShardText). IsMerged job qs c.merge_round.new.self.text) (outputs-wholes os) m.0).whole
