use Rattle.std.proofs.Common.{◌≡◌, ◌++◌, ◌∷◌, ◌∙◌, ◌^◌, ◌≤◌, [], not, List, All, length, refl, sym, subst, ap, arith, append_assoc, length-append}
use Rattle.std.proofs.lemmas.List.Elements.{All-filter, All-tail}
use Rattle.mr_splits.specs.Named.{NamedRecord, is_left_out}
use Rattle.mr_splits.specs.Cut.{records_of}
use Rattle.mr_splits.specs.Kept.{Choice, kept_records}
use Rattle.mr_sequential.proofs.LineLemmas.{Stands, records-stand}
use Rattle.mr_explain.specs.Explained.{kept_of}
use Rattle.mr_explain.proofs.CountLemmas.{few-evidence, few-kept}
use Rattle.mr_explain.proofs.WalkLemmas.{walked_more, walked_none}
use Rattle.mr_explain.proofs.evidence.walk_kept.Goals as goal

pub loop-line-init : goal.loop-line-init
loop-line-init g c =
    let q = c.args.query.now in
    let files = q.plan.now.files in
    let start : c.records-left.result ≡ kept_of q =
    c.records-left.ensures ∙ ap (λ (k : Choice). kept_records k.skips (records_of k.cut)) c.requires.kept in
    record {
      mapper = refl;
      needle = refl;
      counted = c.requires.counted;
      lines = subst (All (Stands files)) (sym start)
          (All-filter (λ r. not (is_left_out q.skips.now r.name)) (Stands files) (records_of q.plan.now) (records-stand q.plan.now.size files));
      few = ([], start, omega (arith, ap (λ t. t.pairs) c.requires.none), walked_none q [] (g.W.CountedWrite.seen c.args.writer.now) c.args.walk.now.totals c.requires.none);
    }

pub take_record-requires-clause-few : goal.take_record-requires-clause-few
take_record-requires-clause-few g c =
    let q = c.args.query.now in
    let before = c.loop-line.invariant.few in
    let done : List NamedRecord = before.0 in
    let all : length done ≤ 2 ^ 30 =
    omega (
      arith,
      ap length before.1,
      length-append done c.loop-line.left,
      few-kept q.skips.now (records_of q.plan.now),
      c.count-few.ensures.count,
      c.count-few.ensures.few,
      ap (λ cut. length (records_of cut)) (c.plan.ensures ∙ ap (λ (k : Choice). k.cut) c.requires.kept),
    ) in
    (omega (arith, all, before.2), omega (arith, all, before.3.counts.records, few-evidence q.job.now q.wanted done))

pub loop-line-preserved : goal.loop-line-preserved
loop-line-preserved g c =
    let q = c.args.query.now in
    let seen = g.W.CountedWrite.seen in
    let files = q.plan.now.files in
    let was = c.loop-line.invariant in
    let done : List NamedRecord = was.few.0 in
    let line = c.in-Some.line in
    let r : NamedRecord = record { name = c.in-Some.field-0-0; file = line.file; start = line.start; bytes = line.bytes.now } in
    let taken = c.in_ok-take_record.ensures in
    record {
      mapper = taken.mappers.0 ∙ was.mapper;
      needle = taken.mappers.1 ∙ was.needle;
      counted = taken.counted;
      lines = All-tail (Stands files) r c.next.new.self (subst (All (Stands files)) c.in-Some.ensures.next was.lines);
      few = (
        done ++ r ∷ [],
        append_assoc done (r ∷ []) c.next.new.self ∙ ap (λ (l : List NamedRecord). done ++ l) (sym c.in-Some.ensures.next) ∙ was.few.1,
        omega (arith, was.few.2, taken.few.0, length-append done (r ∷ [])),
        walked_more q [] (seen c.args.writer.now) done r c.loop-line.walk.totals c.take_record.new.walk.totals
            (seen c.loop-line.writer) (seen c.take_record.new.writer) was.few.3 taken.counts taken.put,
      );
    }
