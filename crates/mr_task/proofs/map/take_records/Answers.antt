use Rattle.std.proofs.Common.{◌≡◌, ℕ, ◌<◌, eqb, true, false, All, List, [], ◌++◌, ◌+◌, length, take, drop, refl, subst, sym, ap, ◌∙◌, arith}
use Rattle.std.proofs.lemmas.List.{append-nil}
use Rattle.std.proofs.lemmas.List.Elements.{All-filter}
use Rattle.std.specs.List.{flat_map}
use Rattle.mr_bytes.specs.Lists.{Rises}
use Rattle.mr_bytes.specs.Order.{name_order}
use Rattle.mr_bytes.specs.Pairs.{Triple}
use Rattle.mr_jobs.specs.Emissions.{emissions}
use Rattle.mr_jobs.specs.Hits.{IsLine, Source}
use Rattle.mr_sequential.specs.Emitted.{placed_from}
use Rattle.mr_sequential.proofs.LineLemmas.{Stands, records-stand}
use Rattle.mr_splits.specs.Cut.{nth_named, records_of}
use Rattle.mr_splits.specs.Named.{NamedRecord, of_split}
use Rattle.mr_spill.specs.Column.{names_of}
use Rattle.mr_task.specs.declared.runs.Runs.{Runs}
use Rattle.mr_merge.specs.Merged.{joined}
use Rattle.mr_task.specs.Runs.{AreAlike, AreOf, HasTaken, Takes}
use Rattle.mr_task.specs.Values.{has_number, record_gives}
use Rattle.mr_task.proofs.RunLemmas.{alike-then}
use Rattle.mr_task.proofs.SourceLemmas.{between-more, gives-kept, gives-nothing, nothing-between, record-rises, task-rises}
use Rattle.mr_task.proofs.map.take_records.Goals.{then-not-has+in_ok-take_record, else-not-has}
use Rattle.mr_task.proofs.map.take_records.Goals as goal

abbrev no_record : NamedRecord
no_record = record { name = record { split = 0; rec = 0 }; file = 0; start = 0; bytes = [] }

pub loop-next-init : goal.loop-next-init
loop-next-init g c =
    let rs : List NamedRecord = of_split c.args.runs.now.split (records_of c.args.records.now.plan.now) in
    record {
      low = omega arith;
      high = c.requires.from;
      same = record { split = refl; by = refl; parts = refl };
      own = subst (AreOf c.args.runs.now.split) (sym c.requires.empty) tt;
      mapper = c.mapper-mapper.ensures ∙ ap (λ (fs : List (List ℕ)). (let s : Source = record { job = c.args.records.now.job.now; files = fs } in s)) c.input.ensures;
      taken = subst (λ (l : List Triple). HasTaken l c.args.runs.now) (sym (ap (flat_map (record_gives c.args.records.now.job.now c.args.records.now.left_out.items)) (nothing-between rs c.args.from))) c.requires.none;
    }

pub take_record-requires-clause-line : goal.take_record-requires-clause-line
take_record-requires-clause-line g c =
    let files : List (List ℕ) = c.args.records.now.plan.now.files in
    let rs : List NamedRecord = of_split c.args.runs.now.split (records_of c.args.records.now.plan.now) in
    let i : ℕ = c.loop-next.next in
    let line = c.locate-line.result in
    let within : i < length rs = omega (arith, c.loop-next-test.true, c.records_in-count.ensures) in
    let stand : All (Stands files) rs =
    All-filter (λ (r : NamedRecord). eqb r.name.split c.args.runs.now.split) (Stands files) (records_of c.args.records.now.plan.now) (records-stand c.args.records.now.plan.now.size files) in
    let stands = subst (Stands files) c.locate-line.ensures.record (stand i no_record within) in
    subst (λ (m : Source). IsLine m.files line.file line.start line.bytes.now) (sym c.loop-next.invariant.mapper) stands

pub take_record-requires-clause-rise : goal.take_record-requires-clause-rise
take_record-requires-clause-rise g c =
    let skips : List ℕ = c.args.records.now.left_out.items in
    let rs : List NamedRecord = of_split c.args.runs.now.split (records_of c.args.records.now.plan.now) in
    let i : ℕ = c.loop-next.next in
    let line = c.locate-line.result in
    let is : NamedRecord = record { name = record { split = c.args.runs.now.split; rec = i }; file = line.file; start = line.start; bytes = line.bytes.now } in
    let has : c.has.result ≡ has_number skips i = c.has.ensures ∙ ap (λ (l : List ℕ). has_number l i) c.as_slice-left_out.ensures.value in
    let kept : has_number skips i ≡ false = sym has ∙ c.if-not-has.true in
    let within : i < length rs = omega (arith, c.loop-next-test.true, c.records_in-count.ensures) in
    let taken = c.loop-next.invariant.taken in
    subst (λ (l : List Triple). Rises name_order (names_of (c.loop-next.runs.buffer.pairs ++ l)))
    (gives-kept c.args.records.now.job.now skips (nth_named rs i) is c.locate-line.ensures.record kept
    ∙ ap (λ (m : Source). placed_from is.name 0 (emissions m.job line.file line.start line.bytes.now)) (sym c.loop-next.invariant.mapper))
    (record-rises (record_gives c.args.records.now.job.now skips) rs c.args.from i no_record (joined taken.sealed) c.loop-next.runs.buffer.pairs c.loop-next.invariant.low within taken.all
    (task-rises c.args.records.now.job.now c.args.records.now.plan.now.size c.args.records.now.plan.now.files c.args.runs.now.split skips (omega (arith, c.size-size.ensures.same, c.size-size.ensures.within.0))))

-- what the loop knows after some records
abbrev IsSoFar : Runs → Source → List Triple → Runs → Source → Type 0
IsSoFar first source pairs r m =
    record { same : AreAlike first r; own : AreOf r.split r.buffer.pairs; mapper : m ≡ source; taken : HasTaken pairs r }

kept-step : (first : Runs) (source : Source) (all so_far more : List Triple) (old new now : Runs) (m m_new m_now : Source) → now ≡ new → m_now ≡ m_new → m_new ≡ m
    → all ≡ so_far ++ more → IsSoFar first source so_far old m
    → record { alike : AreAlike old new; own : AreOf new.split new.buffer.pairs; taken : Takes more old new }
    → IsSoFar first source all now m_now
kept-step first source all so_far more old new now m m_new m_now is m_is same e before step =
    subst (λ (r : Runs). IsSoFar first source all r m_now) (sym is)
    (record {
      same = alike-then first old new before.same step.alike;
      own = step.own;
      mapper = m_is ∙ same ∙ before.mapper;
      taken = subst (λ (l : List Triple). HasTaken l new) (sym e) (step.taken so_far before.taken);
    })

pub loop-next-preserved : goal.loop-next-preserved
loop-next-preserved g c =
    let skips : List ℕ = c.args.records.now.left_out.items in
    let source : Source = record { job = c.args.records.now.job.now; files = c.args.records.now.plan.now.files } in
    let rs : List NamedRecord = of_split c.args.runs.now.split (records_of c.args.records.now.plan.now) in
    let i : ℕ = c.loop-next.next in
    let gives : NamedRecord → List Triple = record_gives c.args.records.now.job.now skips in
    let so_far : List Triple = flat_map gives (drop c.args.from (take i rs)) in
    let within : i < length rs = omega (arith, c.loop-next-test.true, c.records_in-count.ensures) in
    let longer : List Triple = flat_map gives (drop c.args.from (take (i + 1) rs)) in
    let more : longer ≡ so_far ++ gives (nth_named rs i) = between-more gives rs c.args.from i no_record c.loop-next.invariant.low within in
    let has : c.has.result ≡ has_number skips i = c.has.ensures ∙ ap (λ (l : List ℕ). has_number l i) c.as_slice-left_out.ensures.value in
    let line = c.locate-line.result in
    let is : NamedRecord = record { name = record { split = c.args.runs.now.split; rec = i }; file = line.file; start = line.start; bytes = line.bytes.now } in
    let held = c.loop-next.invariant in
    let before : IsSoFar c.args.runs.now source so_far c.loop-next.runs c.loop-next.mapper =
    record { same = held.same; own = held.own; mapper = held.mapper; taken = held.taken } in
    let behind : IsSoFar c.args.runs.now source longer c.if-not-has.runs c.if-not-has.mapper =
    elim c.if-not-has.branch [
      | then-not-has+in_ok-take_record w ↦
          let kept : has_number skips i ≡ false = sym has ∙ w.if-not-has.true in
          let gave : gives (nth_named rs i) ≡ placed_from is.name 0 (emissions c.loop-next.mapper.job line.file line.start line.bytes.now) =
          gives-kept c.args.records.now.job.now skips (nth_named rs i) is c.locate-line.ensures.record kept
          ∙ ap (λ (m : Source). placed_from is.name 0 (emissions m.job line.file line.start line.bytes.now)) (sym c.loop-next.invariant.mapper) in
          kept-step c.args.runs.now source longer so_far (placed_from is.name 0 (emissions c.loop-next.mapper.job line.file line.start line.bytes.now))
          c.loop-next.runs w.take_record.new.self c.if-not-has.runs c.loop-next.mapper w.take_record.new.mapper c.if-not-has.mapper
          w.runs-is w.mapper-is w.take_record.ensures.same (more ∙ ap (λ (l : List Triple). so_far ++ l) gave)
          before (let step = w.in_ok-take_record.ensures in record { alike = step.alike; own = step.own; taken = step.taken })
      | else-not-has w ↦
          let out : has_number skips i ≡ true = sym has ∙ w.if-not-has.false in
          let nothing : longer ≡ so_far =
          more ∙ ap (λ (l : List Triple). so_far ++ l) (gives-nothing c.args.records.now.job.now skips (nth_named rs i) is c.locate-line.ensures.record out) ∙ append-nil so_far in
          subst (λ (r : Runs). IsSoFar c.args.runs.now source longer r c.if-not-has.mapper) (sym w.runs-is)
          (subst (λ (m : Source). IsSoFar c.args.runs.now source longer c.loop-next.runs m) (sym w.mapper-is)
          (subst (λ (l : List Triple). IsSoFar c.args.runs.now source l c.loop-next.runs c.loop-next.mapper) (sym nothing) before))
    ] in
    record {
      low = omega (arith, held.low);
      high = omega (arith, within);
      same = behind.same;
      own = behind.own;
      mapper = behind.mapper;
      taken = behind.taken;
    }
