use Rattle.std.proofs.Common.{◌≡◌, ◌<◌, ◌≤◌, ◌+◌, ℕ, List, length, refl, ap, sym, ◌∙◌, arith}
use Rattle.std.proofs.lemmas.List.{length_push}
use Rattle.mr_bytes.specs.Pairs.{Triple}
use Rattle.mr_bytes.specs.declared.RecordName.{RecordName}
use Rattle.mr_input.specs.Files.{split_total}
use Rattle.mr_jobs.specs.Hits.{Source}
use Rattle.mr_splits.specs.Named.{NamedRecord}
use Rattle.mr_splits.specs.Cut.{Cut, records_of}
use Rattle.mr_index.specs.Index.{triples_of, triples_in, mapped_among}
use Rattle.mr_index.proofs.JoinLemmas.{mapped-first, mapped-step, mapped-last, each-push, on_err}
use Rattle.mr_index.proofs.index.map_splits.Goals as goal

pub loop-split-init : goal.loop-split-init
loop-split-init g c =
    let v : Cut = c.args.kept.now.cut in
    let skips : List RecordName = c.args.kept.now.skips in
    let some : 0 < v.size = omega (arith, c.size-size.ensures.within, c.size-size.ensures.same, ap (λ (w : Cut). w.size) c.plan-plan.ensures) in
    let total : c.splits-splits.result ≡ split_total v.size v.files = c.splits-splits.ensures.count ∙ ap (λ (w : Cut). split_total w.size w.files) c.plan-plan.ensures in
    let none : length c.in_ok-parts.parts.items ≡ 0 = ap length c.in_ok-parts.ensures.items in
    record {
      within = omega arith;
      many = none;
      each = λ s h. absurd (omega (arith, h, none));
      counted = ap (λ (n : ℕ). c.args.mapping.now.mapped + n) (mapped-first skips v c.splits-splits.result some total);
      more = omega arith;
      mapper = refl;
    }

pub map_split-requires-clause-room : goal.map_split-requires-clause-room
map_split-requires-clause-room g c =
    let rs : List NamedRecord = records_of c.args.kept.now.cut in
    let step = mapped-step c.args.kept.now.skips c.loop-split.split c.splits-splits.result rs c.loop-split-test.true in
    omega (arith, c.loop-split.invariant.counted, step, c.requires.room)

pub returns-in_err-part-clause-err : goal.returns-in_err-part-clause-err
returns-in_err-part-clause-err g c =
    let rs : List NamedRecord = records_of c.args.kept.now.cut in
    let step = mapped-step c.args.kept.now.skips c.loop-split.split c.splits-splits.result rs c.loop-split-test.true in
    let inv = c.loop-split.invariant in
    let err = c.in_err-part.ensures.err in
    on_err c.from_residual-in_err-part.result
    ((c.args.mapping.now.mapped ≤ c.map_split.new.mapping.mapped) × (c.map_split.new.mapping.mapped ≤ c.args.mapping.now.mapped + mapped_among c.args.kept.now.skips rs))
    (omega (arith, err.0, inv.more), omega (arith, err.1, step, inv.counted))

pub returns-in_err-push-clause-err : goal.returns-in_err-push-clause-err
returns-in_err-push-clause-err g c =
    let rs : List NamedRecord = records_of c.args.kept.now.cut in
    let step = mapped-step c.args.kept.now.skips c.loop-split.split c.splits-splits.result rs c.loop-split-test.true in
    let inv = c.loop-split.invariant in
    let counted = c.in_ok-part.ensures.counted in
    on_err c.from_residual-in_err-push.result
    ((c.args.mapping.now.mapped ≤ c.map_split.new.mapping.mapped) × (c.map_split.new.mapping.mapped ≤ c.args.mapping.now.mapped + mapped_among c.args.kept.now.skips rs))
    (omega (arith, counted, inv.more), omega (arith, counted, step, inv.counted))

pub loop-split-preserved : goal.loop-split-preserved
loop-split-preserved g c =
    let v : Cut = c.args.kept.now.cut in
    let skips : List RecordName = c.args.kept.now.skips in
    let ts : List Triple = triples_of c.args.mapping.now.mapper.job v skips in
    let parts : List (List Triple) = c.loop-split.parts.items in
    let inv = c.loop-split.invariant in
    let step = mapped-step skips c.loop-split.split c.splits-splits.result (records_of v) c.loop-split-test.true in
    let counted = c.in_ok-part.ensures.counted in
    let grown = c.in_ok-push.ensures.items in
    record {
      within = omega (arith, c.loop-split-test.true);
      many = omega (arith, ap length grown, length_push parts c.in_ok-part.part, inv.many);
      each = each-push ts parts c.push.new.self.items c.in_ok-part.part grown
          (c.in_ok-part.ensures.part ∙ ap (λ (m : Source). triples_in c.loop-split.split (triples_of m.job v skips)) inv.mapper ∙ ap (λ (s : ℕ). triples_in s ts) (sym inv.many)) inv.each;
      counted = omega (arith, counted, step, inv.counted);
      more = omega (arith, counted, inv.more);
      mapper = c.map_split.ensures.same ∙ inv.mapper;
    }

pub returns-clause-counted : goal.returns-clause-counted
returns-clause-counted g c =
    omega (
      arith,
      c.loop-split.invariant.counted,
      mapped-last c.args.kept.now.skips c.loop-split.split c.splits-splits.result (records_of c.args.kept.now.cut) (omega (arith, c.loop-split-test.false)),
    )
