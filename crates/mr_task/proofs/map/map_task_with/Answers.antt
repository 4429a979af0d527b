use Rattle.std.proofs.Common.{◌≡◌, ℕ, ◌∙◌, List, [], ap, subst, sym, arith}
use Rattle.mr_bytes.specs.Pairs.{Triple}
use Rattle.mr_sequential.specs.Emitted.{emitted}
use Rattle.mr_task.specs.Mapped.{IsMapped}
use Rattle.mr_task.specs.Runs.{HasTaken}
use Rattle.mr_task.specs.Tasks.{between, record_count}
use Rattle.mr_task.specs.Values.{emitted_in}
use Rattle.mr_task.proofs.RunLemmas.{written}
use Rattle.mr_task.proofs.SourceLemmas.{between-same, pieces_are_all}
use Rattle.mr_task.proofs.map.map_task_with.Goals as goal

pub returns : goal.returns
returns c =
    let plan = c.args.plan.now in
    let job = c.args.job.now in
    let numbers : List ℕ = c.in_ok-left_out.left_out.items in
    let all : ℕ → List Triple = λ split. emitted_in (emitted job plan.size plan.files []) split c.args.skips.now in
    let own : ℕ = c.new-runs.result.split in
    let count : ℕ = record_count plan own in
    let runs = c.take_records.new.runs in
    let done = c.in_ok-take_records.ensures in
    let counted : c.records_in-count.result ≡ count = c.records_in-count.ensures ∙ ap (record_count plan) (sym c.new-runs.ensures.split) in
    let whole : c.in_ok-take_records.field-0 ≡ count = omega (arith, counted, done.least (omega (arith, counted)), done.within) in
    let same : between plan job own numbers 0 c.in_ok-take_records.field-0 ≡ all own =
    ap (between plan job own numbers 0) whole
    ∙ between-same job plan.size plan.files own numbers c.args.skips.now 0 count c.in_ok-left_out.ensures.same
    ∙ pieces_are_all job plan.size plan.files own c.args.skips.now in
    let taken : HasTaken (all c.args.split) runs =
    subst (λ (s : ℕ). HasTaken (all s) runs) c.new-runs.ensures.split (subst (λ (l : List Triple). HasTaken l runs) same done.taken) in
    written (λ part n. IsMapped part n (all c.args.split) c.in_ok-output.output) runs c.args.by c.args.parts
    (done.alike.by ∙ c.new-runs.ensures.by) (done.alike.parts ∙ c.new-runs.ensures.parts) (c.in_ok-output.ensures.all (all c.args.split) taken)
