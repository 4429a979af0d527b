use Rattle.std.proofs.Common.{◌≡◌, ◌==◌, ◌+◌, ℕ, ◌++◌, ◌∷◌, [], not, List, All, count_by, length, refl, sym, subst, ap, ◌∙◌, arith, map}
use Rattle.std.proofs.lemmas.List.Elements.{All-filter, All-head, All-tail}
use Rattle.std.specs.List.{flat_map}
use Rattle.mr_bytes.specs.declared.RecordName.{RecordName}
use Rattle.mr_jobs.specs.JobSpec.{JobSpec}
use Rattle.mr_jobs.specs.Emissions.{Emission, emissions}
use Rattle.mr_jobs.specs.Hits.{Source, IsLine}
use Rattle.mr_splits.specs.Named.{NamedRecord, is_left_out}
use Rattle.mr_splits.specs.Cut.{Cut, records_of}
use Rattle.mr_splits.specs.Kept.{kept_records}
use Rattle.mr_bytes.specs.Pairs.{Triple}
use Rattle.mr_bytes.specs.declared.Name.{Name}
use Rattle.mr_certform.specs.Packed.{names_from, names_of}
use Rattle.mr_sequential.specs.Emitted.{gives_nothing}
use Rattle.mr_sequential.specs.Names.{record_names, triples_of}
use Rattle.mr_sequential.specs.Pairs.{record_keys}
use Rattle.mr_sequential.proofs.LineLemmas.{Stands, records-stand}
use Rattle.mr_sequential.proofs.SourceLemmas.{kept-keys, kept-names, next_gathered, next_silent, last_gathered, one-at-most}
use Rattle.mr_sequential.proofs.source.gather_all.Goals as goal
use Rattle.std.proofs.lemmas.List.{length-map, length-append}
use Rattle.std.proofs.lemmas.List.Sums.{count_by-le-length, length-filter}

pub loop-name-init : goal.loop-name-init
loop-name-init g c =
    let cut : Cut = c.args.kept.now.cut in
    let f : NamedRecord → List (List ℕ) = record_keys c.args.job.now in
    let start : c.records-left.result ≡ kept_records c.args.kept.now.skips (records_of cut) = c.records-left.ensures in
    let files : c.input.result.now ≡ cut.files = c.input.ensures ∙ ap (λ (k : Cut). k.files) c.plan-plan.ensures in
    record {
      keys = ap (λ (l : List (List ℕ)). l ++ flat_map f c.records-left.result) c.requires.no_keys ∙ ap (flat_map f) start;
      lines = subst (All (Stands cut.files)) (sym start)
          (All-filter (λ r. not (is_left_out c.args.kept.now.skips r.name)) (Stands cut.files) (records_of cut) (records-stand cut.size cut.files));
      mapper = c.mapper-mapper.ensures ∙ ap (λ (fs : List (List ℕ)). record { job = c.args.job.now; files = fs }) files;
      names = ap (λ (l : List Name). l ++ flat_map (record_names c.args.job.now) c.records-left.result) c.requires.no_names
          ∙ ap (flat_map (record_names c.args.job.now)) start;
      silent = ap (λ (rs : List NamedRecord). 0 + count_by (gives_nothing c.args.job.now) rs) start ∙ omega arith;
    }

-- the next record is a line of its file
abbrev next_line : (files : List (List ℕ)) (left later : List NamedRecord) (r : NamedRecord) → left ≡ r ∷ later → All (Stands files) left → Stands files r
next_line files left later r is lines = All-head (Stands files) r later (subst (All (Stands files)) is lines)

pub gather_record-requires-clause-line : goal.gather_record-requires-clause-line
gather_record-requires-clause-line g c =
    let line = c.in-Some.line in
    let r : NamedRecord = record { name = c.in-Some.name; file = line.file; start = line.start; bytes = line.bytes.now } in
    let stands = next_line c.args.kept.now.cut.files c.loop-name.left c.next.new.self r c.in-Some.ensures.next c.loop-name.invariant.lines in
    subst (λ (m : Source). IsLine m.files line.file line.start line.bytes.now) (sym c.loop-name.invariant.mapper) stands

pub gather_record-requires-clause-few : goal.gather_record-requires-clause-few
gather_record-requires-clause-few g c =
    let job : JobSpec = c.args.job.now in
    let skips : List RecordName = c.args.kept.now.skips in
    let rs : List NamedRecord = records_of c.args.kept.now.cut in
    let f : NamedRecord → List (List ℕ) = record_keys job in
    let line = c.in-Some.line in
    let r : NamedRecord = record { name = c.in-Some.name; file = line.file; start = line.start; bytes = line.bytes.now } in
    omega (
      arith,
      ap (λ (m : Source). length (emissions m.job line.file line.start line.bytes.now)) c.loop-name.invariant.mapper,
      ap length c.loop-name.invariant.keys,
      length-append c.loop-name.emitted.keys (flat_map f c.loop-name.left),
      ap length (ap (flat_map f) c.in-Some.ensures.next),
      length-append (f r) (flat_map f c.next.new.self),
      length-map (emissions job line.file line.start line.bytes.now) (λ (e : Emission). e.0),
      ap length (kept-keys job skips rs),
      length-map (triples_of job c.args.kept.now) (λ (t : Triple). t.key),
      c.requires.few,
    )

pub loop-name-preserved : goal.loop-name-preserved
loop-name-preserved _ c =
    let f : NamedRecord → List (List ℕ) = record_keys c.args.job.now in
    let g : NamedRecord → List Name = record_names c.args.job.now in
    let line = c.in-Some.line in
    let r : NamedRecord = record { name = c.in-Some.name; file = line.file; start = line.start; bytes = line.bytes.now } in
    let rs : List NamedRecord = kept_records c.args.kept.now.skips (records_of c.args.kept.now.cut) in
    let files : List (List ℕ) = c.args.kept.now.cut.files in
    let job : c.loop-name.mapper.job ≡ c.args.job.now = ap (λ (m : Source). m.job) c.loop-name.invariant.mapper in
    let keys = c.in_ok-count.ensures.keys
    ∙ ap (λ j. c.loop-name.emitted.keys ++ map (λ (e : Emission). e.0) (emissions j line.file line.start line.bytes.now)) job in
    let names = c.in_ok-count.ensures.names
    ∙ ap (λ j. names_of c.loop-name.emitted.names ++ names_from r.name 0 (length (emissions j line.file line.start line.bytes.now))) job in
    record {
      lines = All-tail (Stands files) r c.next.new.self (subst (All (Stands files)) c.in-Some.ensures.next c.loop-name.invariant.lines);
      mapper = c.gather_record.ensures.same ∙ c.loop-name.invariant.mapper;
      keys = next_gathered f c.loop-name.emitted.keys c.gather_record.new.emitted.keys (f r) (flat_map f rs) c.loop-name.left c.next.new.self r
          c.in-Some.ensures.next refl keys c.loop-name.invariant.keys;
      names = next_gathered g (names_of c.loop-name.emitted.names) (names_of c.gather_record.new.emitted.names) (g r) (flat_map g rs) c.loop-name.left c.next.new.self r
          c.in-Some.ensures.next refl names c.loop-name.invariant.names;
      silent = next_silent c.args.job.now r c.loop-name.left c.next.new.self c.loop-name.silent c.in_ok-count.count c.from-quiet.result
          (count_by (gives_nothing c.args.job.now) rs) c.in-Some.ensures.next c.from-quiet.ensures
          (c.in_ok-count.ensures.count ∙ ap (λ j. length (emissions j line.file line.start line.bytes.now)) job) c.loop-name.invariant.silent;
    }

-- the records that give nothing are no more than all
pub overflow_add-silent : goal.overflow_add-silent
overflow_add-silent g c =
    let job : JobSpec = c.args.job.now in
    let rs : List NamedRecord = records_of c.args.kept.now.cut in
    let kept : List NamedRecord = kept_records c.args.kept.now.skips rs in
    omega (
      arith,
      c.loop-name.invariant.silent,
      c.from-quiet.ensures,
      one-at-most (c.in_ok-count.count == 0),
      count_by-le-length (gives_nothing job) kept,
      length-filter (λ r. not (is_left_out c.args.kept.now.skips r.name)) rs,
      count_by-le-length (λ r. not (is_left_out c.args.kept.now.skips r.name)) rs,
      c.count.ensures.count,
      c.count.ensures.few,
      ap (λ (k : Cut). length (records_of k)) c.plan-plan.ensures,
    )

pub returns-clause-silent : goal.returns-clause-silent
returns-clause-silent g c =
    omega (arith, c.loop-name.invariant.silent, ap (λ (rs : List NamedRecord). count_by (gives_nothing c.args.job.now) rs) c.in_default.ensures.next)

pub returns-clause-emitted : goal.returns-clause-emitted
returns-clause-emitted g c =
    let job : JobSpec = c.args.job.now in
    let skips : List RecordName = c.args.kept.now.skips in
    let rs : List NamedRecord = records_of c.args.kept.now.cut in
    let left : List NamedRecord = c.loop-name.left in
    let none : left ≡ [] = c.in_default.ensures.next in
    record {
      keys_are = last_gathered (record_keys job) c.loop-name.emitted.keys (flat_map (record_keys job) (kept_records skips rs)) left none c.loop-name.invariant.keys
          ∙ kept-keys job skips rs;
      names_are = last_gathered (record_names job) (names_of c.loop-name.emitted.names) (flat_map (record_names job) (kept_records skips rs)) left none c.loop-name.invariant.names
          ∙ kept-names job skips rs;
    }
