use Rattle.std.proofs.Common.{◌≡◌, ℕ, ◌++◌, ◌∷◌, ◌∙◌, ◌^◌, ◌≤◌, [], not, List, All, length, refl, sym, subst, ap, arith, append_assoc, length-append, map, append-nil, rules}
use Rattle.std.proofs.lemmas.List.Elements.{All-filter, All-head, All-tail}
use Rattle.mr_bytes.specs.declared.Value.{Value}
use Rattle.mr_jobs.specs.JobSpec.{JobSpec}
use Rattle.mr_jobs.specs.Emissions.{Emission, emissions}
use Rattle.mr_jobs.specs.Hits.{IsLine, Source}
use Rattle.mr_jobs.specs.Pairs.{pairs_of as found_in}
use Rattle.mr_reduce.specs.Writing.{Writes}
use Rattle.mr_splits.specs.Named.{NamedRecord, is_left_out}
use Rattle.mr_splits.specs.Cut.{Cut, records_of}
use Rattle.mr_splits.specs.Kept.{Choice, kept_records}
use Rattle.mr_sequential.specs.Names.{triples_of}
use Rattle.mr_sequential.specs.Sequential.{values_of}
use Rattle.mr_sequential.proofs.LineLemmas.{Stands, records-stand}
use Rattle.mr_explain.specs.Explained.{kept_of, pairs_of}
use Rattle.mr_explain.proofs.NeedleLemmas.{no_pair}
use Rattle.mr_jobs.proofs.CountLemmas.{few_emissions}
use Rattle.mr_explain.specs.Group.{values_in, values_with}
use Rattle.mr_explain.specs.Texts.{HasText}
use Rattle.mr_explain.proofs.CountLemmas.{few-kept}
use Rattle.mr_explain.proofs.TextLemmas.{all-values, no-text, record-values, whole-text}
use Rattle.mr_explain.proofs.group.group_text.Goals as goal

pub loop-line-init : goal.loop-line-init
loop-line-init c =
    let job : JobSpec = c.args.query.now.job.now in
    let cut : Cut = c.args.query.now.plan.now in
    let skips = c.args.query.now.skips.now in
    let start : c.records-left.result ≡ kept_of c.args.query.now =
    c.records-left.ensures ∙ ap (λ (k : Choice). kept_records k.skips (records_of k.cut)) c.in_ok-kept.ensures.ok in
    record {
      mapper = c.mapper-mapper.ensures ∙ ap (λ (fs : List (List ℕ)). record { job = job; files = fs }) c.input.ensures;
      key = refl;
      lines = subst (All (Stands cut.files)) (sym start)
          (All-filter (λ r. not (is_left_out skips r.name)) (Stands cut.files) (records_of cut) (records-stand cut.size cut.files));
      text = (
        [],
        start,
        omega arith,
        record {
          writes = subst (λ (before : List ℕ). Writes job c.args.key.now [] before c.in_ok-writer.writer c.begin.new.out.items) c.new-text.ensures.items c.in_ok-writer.ensures.ok;
          count = refl;
        },
      );
    }

-- the next record is a line of its file
abbrev next_line : (files : List (List ℕ)) (left later : List NamedRecord) (r : NamedRecord) → left ≡ r ∷ later → All (Stands files) left → Stands files r
next_line files left later r is lines = All-head (Stands files) r later (subst (All (Stands files)) is lines)

pub emit-requires-clause-line : goal.emit-requires-clause-line
emit-requires-clause-line c =
    let line = c.in-Some.line in
    let r : NamedRecord = record { name = c.in-Some.field-0-0; file = line.file; start = line.start; bytes = line.bytes.now } in
    subst (λ (m : Source). IsLine m.files line.file line.start line.bytes.now) (sym c.loop-line.invariant.mapper)
    (next_line c.args.query.now.plan.now.files c.loop-line.left c.next.new.self r c.in-Some.ensures.next c.loop-line.invariant.lines)

pub add_values-requires-clause-pairs : goal.add_values-requires-clause-pairs
add_values-requires-clause-pairs c =
    let line = c.in-Some.line in
    omega (arith, ap length c.in_ok-emit.ensures.emissions, few_emissions c.loop-line.mapper.job line.file line.start line.bytes.now, c.in-Some.ensures.small)

pub add_values-requires-clause-few : goal.add_values-requires-clause-few
add_values-requires-clause-few c =
    let was = c.loop-line.invariant.text in
    let done : List NamedRecord = was.0 in
    let cut : Cut = c.args.query.now.plan.now in
    let all : length done ≤ 2 ^ 30 =
    omega (
      arith,
      ap length was.1,
      length-append done c.loop-line.left,
      few-kept c.args.query.now.skips.now (records_of cut),
      c.count-few.ensures.count,
      c.count-few.ensures.few,
    ) in
    omega (arith, all, was.2)

pub loop-line-preserved-then-not-is_in : goal.loop-line-preserved-then-not-is_in
loop-line-preserved-then-not-is_in c =
    let job : JobSpec = c.args.query.now.job.now in
    let key : List ℕ = c.args.key.now in
    let files = c.args.query.now.plan.now.files in
    let was = c.loop-line.invariant in
    let done : List NamedRecord = was.text.0 in
    let line = c.in-Some.line in
    let r : NamedRecord = record { name = c.in-Some.field-0-0; file = line.file; start = line.start; bytes = line.bytes.now } in
    let none : values_with key (pairs_of job r) ≡ [] =
    ap (map (λ (e : Emission). e.1)) (no_pair key (pairs_of job r) (c.needle_of-needle.ensures line.bytes.now (sym c.is_in.ensures ∙ c.if-not-is_in.true) line.file line.start)) in
    record {
      mapper = was.mapper;
      key = was.key;
      lines = All-tail (Stands files) r c.next.new.self (subst (All (Stands files)) c.in-Some.ensures.next was.lines);
      text = (
        done ++ r ∷ [],
        append_assoc done (r ∷ []) c.next.new.self ∙ ap (λ (l : List NamedRecord). done ++ l) (sym c.in-Some.ensures.next) ∙ was.text.1,
        omega (arith, was.text.2, length-append done (r ∷ [])),
        subst (λ (l : List Value). HasText job key l c.loop-line.to)
            (sym (record-values job key done r ∙ ap (λ (l : List Value). values_in job key done ++ l) none ∙ append-nil (values_in job key done))) was.text.3,
      );
    }

pub loop-line-preserved : goal.loop-line-preserved
loop-line-preserved c =
    let job : JobSpec = c.args.query.now.job.now in
    let key : List ℕ = c.args.key.now in
    let files = c.args.query.now.plan.now.files in
    let was = c.loop-line.invariant in
    let taken = c.in_ok-add_values.ensures in
    let done : List NamedRecord = was.text.0 in
    let line = c.in-Some.line in
    let r : NamedRecord = record { name = c.in-Some.field-0-0; file = line.file; start = line.start; bytes = line.bytes.now } in
    let values : values_with c.loop-line.to.key.now (found_in c.in_ok-emit.field-0) ≡ values_with key (pairs_of job r) =
    ap (values_with c.loop-line.to.key.now) c.in_ok-emit.ensures.emissions ∙
    ap (λ (k : List ℕ). values_with k (emissions c.loop-line.mapper.job line.file line.start line.bytes.now)) was.key
    ∙ ap (λ (m : Source). values_with key (emissions m.job line.file line.start line.bytes.now)) was.mapper in
    record {
      mapper = search rules;
      key = ap (λ k. k.now) taken.key ∙ was.key;
      lines = All-tail (Stands files) r c.next.new.self (subst (All (Stands files)) c.in-Some.ensures.next was.lines);
      text = (
        done ++ r ∷ [],
        append_assoc done (r ∷ []) c.next.new.self ∙ ap (λ (l : List NamedRecord). done ++ l) (sym c.in-Some.ensures.next) ∙ was.text.1,
        omega (arith, was.text.2, taken.few, length-append done (r ∷ [])),
        subst (λ (l : List Value). HasText job key l c.add_values.new.to)
            (ap (λ (l : List Value). values_in job key done ++ l) values ∙ sym (record-values job key done r))
            (taken.text job key (values_in job key done) was.text.3),
      );
    }

pub returns-then-count-eq0 : goal.returns-then-count-eq0
returns-then-count-eq0 c =
    let job : JobSpec = c.args.query.now.job.now in
    let key : List ℕ = c.args.key.now in
    let was = c.loop-line.invariant.text in
    let kept : Choice = record { cut = c.args.query.now.plan.now; skips = c.args.query.now.skips.now } in
    let all : values_in job key was.0 ≡ values_of (triples_of job kept) key =
    all-values job kept key was.0 c.loop-line.left c.in_default.ensures.next was.1 in
    c.new.ensures.items
    ∙ no-text job key (values_of (triples_of job kept) key) (sym (ap length all) ∙ sym was.3.count ∙ c.if-count-eq0.true)

pub returns : goal.returns
returns c =
    let job : JobSpec = c.args.query.now.job.now in
    let key : List ℕ = c.args.key.now in
    let cut : Cut = c.args.query.now.plan.now in
    let was = c.loop-line.invariant.text in
    let done : List NamedRecord = was.0 in
    let values : List Value = values_in job key done in
    let kept : Choice = record { cut = cut; skips = c.args.query.now.skips.now } in
    let all : values ≡ values_of (triples_of job kept) key =
    all-values job kept key done c.loop-line.left c.in_default.ensures.next was.1 in
    let few : length done ≤ 2 ^ 30 =
    omega (
      arith,
      ap length was.1,
      length-append done c.loop-line.left,
      few-kept c.args.query.now.skips.now (records_of cut),
      c.count-few.ensures.count,
      c.count-few.ensures.few,
    ) in
    whole-text job kept key values c.loop-line.to.count c.finish.new.out.items
    (omega (arith, c.size-size.ensures.same, c.size-size.ensures.within))
    all was.3.count (omega (arith, few, was.2)) c.if-count-eq0.false
    (λ fits. c.in_ok-finish.ensures.ok job key values [] was.3.writes fits)
