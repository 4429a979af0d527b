use Rattle.std.proofs.Common.{◌≡◌, ◌<◌, ◌≤◌, ◌+◌, ◌++◌, ℕ, Bool, true, false, cond, List, length, refl, ap, sym, ◌∙◌, subst, arith}
use Rattle.mr_bytes.specs.declared.RecordName.{RecordName}
use Rattle.mr_jobs.specs.Emissions.{Emission}
use Rattle.mr_jobs.specs.Hits.{IsLine, Source}
use Rattle.mr_jobs.specs.JobSpec.{JobSpec}
use Rattle.mr_splits.specs.Named.{NamedRecord, is_left_out, of_split}
use Rattle.mr_splits.specs.Cut.{Cut, nth_named, records_of}
use Rattle.mr_sequential.specs.Pairs.{kept_pairs, record_pairs}
use Rattle.mr_sequential.proofs.LineLemmas.{Stands}
use Rattle.mr_index.specs.Index.{mapped_among}
use Rattle.mr_index.specs.Pairs.{pairs_seen, Fits}
use Rattle.mr_index.specs.Building.{Shows}
use Rattle.mr_index.specs.Windows.{piece_of, window_records}
use Rattle.mr_index.proofs.GrowLemmas.{slice-none, mapped-more, mapped-part, fits-slice, fits-split, split-stands, shows-none, shows-left, shows-next, next-fits}
use Rattle.mr_index.proofs.JoinLemmas.{on_err}
use Rattle.mr_index.proofs.tables.map_window.Goals as goal

-- whether the record of a split is left out, by its number among all
left-at : (skips : List RecordName) (plan cut : Cut) (split number index : ℕ) (out b : Bool) → plan ≡ cut
    → nth_named (records_of plan) index ≡ nth_named (of_split split (records_of plan)) number
    → out ≡ is_left_out skips (nth_named (records_of cut) index).name → out ≡ b → is_left_out skips (nth_named (of_split split (records_of cut)) number).name ≡ b
left-at skips plan cut split number index out b same at is h =
    ap (λ (r : NamedRecord). is_left_out skips r.name)
    (sym (subst (λ (v : Cut). nth_named (records_of v) index ≡ nth_named (of_split split (records_of v)) number) same at))
    ∙ (sym is ∙ h)

pub loop-number-init : goal.loop-number-init
loop-number-init g c =
    let w = c.args.window in
    let tables = c.new-tables.result in
    let rs : List NamedRecord = of_split w.split (records_of c.args.kept.now.cut) in
    record {
      order = omega arith;
      within = c.requires.window.order;
      sound = c.new-tables.ensures.sound;
      shows = shows-none c.args.mapping.now.mapper.job c.args.kept.now w.split w.from tables.ends.items (pairs_seen tables.pairs)
          c.new-tables.ensures.none.1 c.new-tables.ensures.none.0;
      mapper = refl;
      counted = omega (arith, ap (mapped_among c.args.kept.now.skips) (slice-none rs w.from));
    }

pub map_record-requires-clause-line : goal.map_record-requires-clause-line
map_record-requires-clause-line g c =
    let cut : Cut = c.args.kept.now.cut in
    let split : ℕ = c.args.window.split in
    let line = c.locate-line.result in
    let own = ap (λ (v : Cut). nth_named (of_split split (records_of v)) c.loop-number.number) (sym c.plan-plan.ensures) ∙ c.locate-line.ensures.«record» in
    subst (λ (fs : List (List ℕ)). IsLine fs line.file line.start line.bytes.now)
    (sym (ap (λ (m : Source). m.files) c.loop-number.invariant.mapper ∙ c.requires.files))
    (subst (Stands cut.files) own (split-stands cut split c.loop-number.number (omega (arith, c.loop-number-test.true, c.requires.window.within))))

pub map_record-requires-clause-fits : goal.map_record-requires-clause-fits
map_record-requires-clause-fits g c =
    let w = c.args.window in
    let number : ℕ = c.loop-number.number in
    let skips : List RecordName = c.args.kept.now.skips in
    let tables = c.loop-number.tables in
    let job : JobSpec = c.args.mapping.now.mapper.job in
    let pairs : List Emission = pairs_seen tables.pairs in
    let inv = c.loop-number.invariant in
    let own = ap (λ (v : Cut). nth_named (of_split w.split (records_of v)) number) (sym c.plan-plan.ensures) ∙ c.locate-line.ensures.«record» in
    let kept = left-at skips c.plan-plan.result.now c.args.kept.now.cut w.split number c.record_index-index.result c.leaves_out.result false
    c.plan-plan.ensures c.record_index-index.ensures.at c.leaves_out.ensures c.if-leaves_out.false in
    let fits = fits-split job c.args.kept.now w.split c.input.result.now (c.input.ensures ∙ ap (λ (v : Cut). v.files) c.plan-plan.ensures)
    (omega (arith, c.files-files.ensures.count, c.files-files.ensures.few)) c.files-files.ensures.small in
    subst (λ (m : Source). Fits (pairs ++ record_pairs m.job (record { name = record { split = w.split; rec = number }; file = c.locate-line.result.file; start = c.locate-line.result.start; bytes = c.locate-line.result.bytes.now })))
    (sym inv.mapper)
    (subst (λ (r : NamedRecord). Fits (pairs ++ record_pairs job r)) own
    (next-fits job c.args.kept.now w.split w.from number tables.ends.items pairs inv.order (omega (arith, c.loop-number-test.true, c.requires.window.within)) kept inv.shows fits))

pub map_record-requires-clause-room : goal.map_record-requires-clause-room
map_record-requires-clause-room g c =
    let w = c.args.window in
    let number : ℕ = c.loop-number.number in
    let skips : List RecordName = c.args.kept.now.skips in
    let rs : List NamedRecord = of_split w.split (records_of c.args.kept.now.cut) in
    let inv = c.loop-number.invariant in
    let kept = left-at skips c.plan-plan.result.now c.args.kept.now.cut w.split number c.record_index-index.result c.leaves_out.result false
    c.plan-plan.ensures c.record_index-index.ensures.at c.leaves_out.ensures c.if-leaves_out.false in
    omega (
      arith,
      inv.counted,
      mapped-more skips rs w.from number inv.order (omega (arith, c.loop-number-test.true, c.requires.window.within)),
      ap {B = ℕ} (λ b. cond b 0 1) kept,
      mapped-part skips rs w.from (number + 1) w.end (omega (arith, inv.order)) (omega (arith, c.loop-number-test.true)),
      c.requires.room,
    )

pub returns-in_err-map_record-clause-err : goal.returns-in_err-map_record-clause-err
returns-in_err-map_record-clause-err g c =
    let w = c.args.window in
    let skips : List RecordName = c.args.kept.now.skips in
    let rs : List NamedRecord = of_split w.split (records_of c.args.kept.now.cut) in
    let inv = c.loop-number.invariant in
    let part = mapped-part skips rs w.from c.loop-number.number w.end inv.order inv.within in
    let same = c.in_err-map_record.ensures.err in
    on_err c.from_residual.result
    ((c.args.mapping.now.mapped ≤ c.map_record.new.mapping.mapped)
    × (c.map_record.new.mapping.mapped ≤ c.args.mapping.now.mapped + mapped_among skips (window_records c.args.kept.now.cut w.split w.from w.end)))
    (omega (arith, same, inv.counted), omega (arith, same, inv.counted, part))

pub loop-number-preserved-then-leaves_out : goal.loop-number-preserved-then-leaves_out
loop-number-preserved-then-leaves_out g c =
    let w = c.args.window in
    let number : ℕ = c.loop-number.number in
    let skips : List RecordName = c.args.kept.now.skips in
    let tables = c.loop-number.tables in
    let rs : List NamedRecord = of_split w.split (records_of c.args.kept.now.cut) in
    let inv = c.loop-number.invariant in
    let within : number < length rs = omega (arith, c.loop-number-test.true, c.requires.window.within) in
    let left = left-at skips c.plan-plan.result.now c.args.kept.now.cut w.split number c.record_index-index.result c.leaves_out.result true
    c.plan-plan.ensures c.record_index-index.ensures.at c.leaves_out.ensures c.if-leaves_out.true in
    record {
      order = omega (arith, inv.order);
      within = omega (arith, c.loop-number-test.true);
      sound = inv.sound;
      shows = shows-left c.args.mapping.now.mapper.job c.args.kept.now w.split w.from number tables.ends.items (pairs_seen tables.pairs) inv.order within left inv.shows;
      mapper = inv.mapper;
      counted = omega (arith, inv.counted, mapped-more skips rs w.from number inv.order within, ap {B = ℕ} (λ b. cond b 0 1) left);
    }

pub loop-number-preserved : goal.loop-number-preserved
loop-number-preserved g c =
    let w = c.args.window in
    let number : ℕ = c.loop-number.number in
    let skips : List RecordName = c.args.kept.now.skips in
    let tables = c.loop-number.tables in
    let after = c.map_record.new.self in
    let job : JobSpec = c.args.mapping.now.mapper.job in
    let pairs : List Emission = pairs_seen tables.pairs in
    let rs : List NamedRecord = of_split w.split (records_of c.args.kept.now.cut) in
    let inv = c.loop-number.invariant in
    let given = c.in_ok-map_record.ensures in
    let within : number < length rs = omega (arith, c.loop-number-test.true, c.requires.window.within) in
    let own = ap (λ (v : Cut). nth_named (of_split w.split (records_of v)) number) (sym c.plan-plan.ensures) ∙ c.locate-line.ensures.«record» in
    let kept = left-at skips c.plan-plan.result.now c.args.kept.now.cut w.split number c.record_index-index.result c.leaves_out.result false
    c.plan-plan.ensures c.record_index-index.ensures.at c.leaves_out.ensures c.if-leaves_out.false in
    record {
      order = omega (arith, inv.order);
      within = omega (arith, c.loop-number-test.true);
      sound = given.sound;
      shows = shows-next job c.args.kept.now w.split w.from number tables.ends.items after.ends.items pairs (pairs_seen after.pairs) inv.order within kept
          (ap (λ (r : NamedRecord). r.name) own) inv.shows
          (given.pairs ∙ ap (λ (m : Source). pairs ++ record_pairs m.job (record { name = record { split = w.split; rec = number }; file = c.locate-line.result.file; start = c.locate-line.result.start; bytes = c.locate-line.result.bytes.now })) inv.mapper
          ∙ ap (λ (r : NamedRecord). pairs ++ record_pairs job r) (sym own))
          given.ends;
      mapper = c.map_record.ensures.same ∙ inv.mapper;
      counted = omega (arith, given.counted, inv.counted, mapped-more skips rs w.from number inv.order within, ap {B = ℕ} (λ b. cond b 0 1) kept);
    }

pub returns-clause-shows : goal.returns-clause-shows
returns-clause-shows g c =
    let w = c.args.window in
    let tables = c.loop-number.tables in
    let last : c.loop-number.number ≡ w.end = omega (arith, c.loop-number.invariant.within, c.loop-number-test.false) in
    subst (λ (n : ℕ). Shows (piece_of c.args.mapping.now.mapper.job c.args.kept.now w.split w.from n) tables.ends.items (pairs_seen tables.pairs)) last
    c.loop-number.invariant.shows

pub returns-clause-few : goal.returns-clause-few
returns-clause-few g c =
    let w = c.args.window in
    let job : JobSpec = c.args.mapping.now.mapper.job in
    let fits = fits-split job c.args.kept.now w.split c.input.result.now (c.input.ensures ∙ ap (λ (v : Cut). v.files) c.plan-plan.ensures)
    (omega (arith, c.files-files.ensures.count, c.files-files.ensures.few)) c.files-files.ensures.small in
    (subst Fits (sym c.loop-number.invariant.shows.pairs)
    (fits-slice (kept_pairs job c.args.kept.now.skips) (of_split w.split (records_of c.args.kept.now.cut)) w.from c.loop-number.number fits)).0

pub returns-clause-counted : goal.returns-clause-counted
returns-clause-counted g c =
    let w = c.args.window in
    let last : c.loop-number.number ≡ w.end = omega (arith, c.loop-number.invariant.within, c.loop-number-test.false) in
    omega (
      arith,
      c.loop-number.invariant.counted,
      ap (λ (n : ℕ). mapped_among c.args.kept.now.skips (window_records c.args.kept.now.cut w.split w.from n)) last,
    )
