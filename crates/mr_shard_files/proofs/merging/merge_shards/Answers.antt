use Rattle.std.proofs.Common.{◌∙◌, ap, inl, inr, map, option_map, subst, sym}
use Rattle.std.proofs.lemmas.List.{length-map}
use Rattle.std.proofs.lemmas.Result.{err_from_is_err_and}
use Rattle.mr_files.specs.Holding.{Begins}
use Rattle.mr_files.specs.Names.{name_of_verdict}
use Rattle.mr_shards.specs.Verdict.{Told, spelling}
use Rattle.mr_shard_files.specs.Merging.{AreHeard, with_outputs}
use Rattle.mr_shard_files.proofs.PartLemmas.{heard_count}
use Rattle.mr_shard_files.proofs.ResultLemmas.{among_again, named, parts_change, unnamed}
use Rattle.mr_shard_files.proofs.merging.merge_shards.Goals as goal

pub list_files-requires-clause-all : goal.list_files-requires-clause-all
list_files-requires-clause-all g c =
    c.as_slice.ensures.value ∙ ap (λ (m : Told). m.inputs) c.joined.view_is ∙ c.in_ok-request.ensures.ok.all.joined.inputs_are

pub partitions_written-requires-clause-count : goal.partitions_written-requires-clause-count
partitions_written-requires-clause-count g c =
    let heard = subst (AreHeard (g.S.Store.holds c.args.store.now) (map (λ s. s.now) c.args.plan.now.names.now)) (sym c.as_slice-verdicts.ensures.value) c.in_ok-verdicts.ensures.ok in
    let names = c.args.plan.now.names.now in
    sym (length-map names (λ s. s.now)) ∙ heard_count (g.S.Store.holds c.args.store.now) (map (λ s. s.now) names) c.as_slice-verdicts.result.now heard

pub partitions_written-requires-clause-files : goal.partitions_written-requires-clause-files
partitions_written-requires-clause-files g c = c.as_slice-files.ensures.value ∙ c.in_ok-files.ensures

pub returns-in_err-outputs-clause-others : goal.returns-in_err-outputs-clause-others
returns-in_err-outputs-clause-others g c =
    let holds = g.S.Store.holds in
    parts_change (holds c.args.store.now) (holds c.partitions_written.new.store) (g.S.Store.unreadable c.args.store.now) (g.S.Store.unwritable c.args.store.now) c.in_ok-request.request (map (λ s. s.now) c.args.plan.now.names.now)
    c.as_slice-verdicts.result.now c.args.plan.now.out.now c.in_err-outputs.field-0.0 c.in_err-outputs.ensures.err

pub returns-in_err-outputs-clause-refused : goal.returns-in_err-outputs-clause-refused
returns-in_err-outputs-clause-refused g c =
    let heard = subst (AreHeard (g.S.Store.holds c.args.store.now) (map (λ s. s.now) c.args.plan.now.names.now)) (sym c.as_slice-verdicts.ensures.value) c.in_ok-verdicts.ensures.ok in
    let p = err_from_is_err_and c.from_residual-in_err-outputs.result c.from_residual-in_err-outputs.ensures.1 in
    let k = c.in_ok-request.ensures.ok in
    rw p.1 (rw p.2 (inr (record {
      verdicts = c.as_slice-verdicts.result.now;
      request = c.in_ok-request.request;
      joined = c.in_ok-request.joined;
      held = heard;
      ready = k;
      why = inl c.in_err-outputs.ensures.err;
    })))

pub returns-in_err-save_verdict-clause-others : goal.returns-in_err-save_verdict-clause-others
returns-in_err-save_verdict-clause-others g c =
    let holds = g.S.Store.holds in
    let parts = c.in_ok-request.request.parts in
    (parts, among_again (holds c.args.store.now) (holds c.partitions_written.new.store) (holds c.save_verdict.new.store) c.args.plan.now.out.now parts c.in_ok-outputs.ensures.ok.written.others c.in_err-save_verdict.ensures.others)

pub returns-clause-others : goal.returns-clause-others
returns-clause-others g c =
    let holds = g.S.Store.holds in
    let parts = c.in_ok-request.request.parts in
    (parts, among_again (holds c.args.store.now) (holds c.partitions_written.new.store) (holds c.save_verdict.new.store) c.args.plan.now.out.now parts c.in_ok-outputs.ensures.ok.written.others c.in_ok-save_verdict.ensures.others)

pub returns-in_err-save_verdict-clause-refused : goal.returns-in_err-save_verdict-clause-refused
returns-in_err-save_verdict-clause-refused g c =
    let merged = ap (λ (m : Told). with_outputs m c.in_ok-outputs.outputs.items) c.joined.view_is in
    let heard = subst (AreHeard (g.S.Store.holds c.args.store.now) (map (λ s. s.now) c.args.plan.now.names.now)) (sym c.as_slice-verdicts.ensures.value) c.in_ok-verdicts.ensures.ok in
    let p = err_from_is_err_and c.from_residual-in_err-save_verdict.result c.from_residual-in_err-save_verdict.ensures.1 in
    let holds = g.S.Store.holds in
    let names = map (λ s. s.now) c.args.plan.now.names.now in
    let list = option_map (λ n. n.now) c.args.plan.now.list in
    let dir = c.args.plan.now.out.now in
    let mid = holds c.partitions_written.new.store in
    let new = holds c.save_verdict.new.store in
    rw p.1 (rw p.2 (inr (unnamed (holds c.args.store.now) mid new (g.S.Store.known_as c.args.store.now) names list dir c.args.plan.now.partial c.as_slice-verdicts.result.now c.in_ok-request.request c.in_ok-request.joined c.in_ok-outputs.outputs.items (g.S.Store.unreadable c.args.store.now) (g.S.Store.unwritable c.args.store.now) (g.S.Store.unwritable c.partitions_written.new.store) c.in_err-save_verdict.field-0.0
    heard c.in_ok-request.ensures.ok c.in_ok-outputs.ensures.ok c.in_err-save_verdict.ensures.others (subst (λ (v : Told). Begins mid new (name_of_verdict dir) (spelling v)) merged c.in_err-save_verdict.ensures.begins) c.in_ok-outputs.ensures.still c.in_err-save_verdict.ensures.err)))

pub returns-clause-ok : goal.returns-clause-ok
returns-clause-ok g c =
    let merged = ap (λ (m : Told). with_outputs m c.in_ok-outputs.outputs.items) c.joined.view_is in
    let heard = subst (AreHeard (g.S.Store.holds c.args.store.now) (map (λ s. s.now) c.args.plan.now.names.now)) (sym c.as_slice-verdicts.ensures.value) c.in_ok-verdicts.ensures.ok in
    let holds = g.S.Store.holds in
    let names = map (λ s. s.now) c.args.plan.now.names.now in
    let list = option_map (λ n. n.now) c.args.plan.now.list in
    let dir = c.args.plan.now.out.now in
    let mid = holds c.partitions_written.new.store in
    let new = holds c.save_verdict.new.store in
    rw merged (named (holds c.args.store.now) mid new (g.S.Store.known_as c.args.store.now) names list dir c.args.plan.now.partial c.as_slice-verdicts.result.now c.in_ok-request.request c.in_ok-request.joined c.in_ok-outputs.outputs.items _
    (ap spelling merged) heard c.in_ok-request.ensures.ok c.in_ok-outputs.ensures.ok c.in_ok-save_verdict.ensures.others c.in_ok-save_verdict.ensures.whole)
