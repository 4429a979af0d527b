use Rattle.std.proofs.Common.{◌≡◌, ℕ, ◌+◌, ◌<◌, ◌≤◌, ◌++◌, ◌∷◌, ◌∙◌, [], List, Some, length, take, get_or, refl, sym, subst, ap, arith}
use Rattle.std.specs.Prelude.{codes}
use Rattle.std.specs.List.{cons_option, filter_map}
use Rattle.std.proofs.lemmas.List.{append-nil, take_all, take_more}
use Rattle.std.proofs.lemmas.List.Elements.{filter_map-append}
use Rattle.std.proofs.lemmas.Result.{on_ok_weaker}
use Rattle.mr_bytes.specs.declared.RecordName.{RecordName}
use Rattle.mr_splits.specs.Named.{NamedRecord}
use Rattle.mr_splits.specs.Cut.{has_record_name, record_named, records_of}
use Rattle.mr_sequential.proofs.LineLemmas.{Stands, records-stand}
use Rattle.mr_store.specs.Devices.{Seen, with_bytes}
use Rattle.mr_explain.specs.Explained.{left_out_of, listing, summary_line}
use Rattle.mr_explain.specs.Walking.{HasWalked}
use Rattle.mr_explain.specs.declared.query.Query.{Query}
use Rattle.mr_explain.specs.declared.query.Totals.{Totals}
use Rattle.mr_explain.proofs.NameLemmas.{found-holds, none-found}
use Rattle.mr_explain.proofs.WalkLemmas.{none_left_out, some_left_out, walked_more, walked_none}
use Rattle.mr_explain.proofs.WrittenLemmas.{written}
use Rattle.mr_explain.proofs.evidence.walk_left_out.Goals as goal

abbrev no_name : RecordName
no_name = record { split = 0; rec = 0 }

pub loop-name-init : goal.loop-name-init
loop-name-init g c =
    record {
      mapper = refl;
      needle = refl;
      counted = c.requires.counted;
      few = (omega (arith, ap (λ t. t.pairs) c.requires.none), omega (arith, ap (λ t. t.records) c.requires.none));
      walked = walked_none c.args.query.now (codes "left out:") (g.W.CountedWrite.seen c.args.writer.now) c.args.walk.now.totals c.requires.none;
    }

-- the names up to the next one find the records so far, and the one of that name, if there is one
more_found : (rs : List NamedRecord) (skips : List RecordName) (i : ℕ) → i < length skips
    → filter_map (record_named rs) (take (i + 1) skips) ≡ filter_map (record_named rs) (take i skips) ++ cons_option (record_named rs (get_or skips i no_name)) []
more_found rs skips i less =
    ap (filter_map (record_named rs)) (take_more skips i no_name less) ∙ filter_map-append (record_named rs) (take i skips) (get_or skips i no_name ∷ [])

pub take_record-requires-clause-line : goal.take_record-requires-clause-line
take_record-requires-clause-line g c =
    let cut = c.args.query.now.plan.now in
    let line = c.locate-line.result in
    let name : RecordName = get_or c.args.query.now.skips.now c.loop-name.name-index no_name in
    let r : NamedRecord = record { name = name; file = line.file; start = line.start; bytes = line.bytes.now } in
    found-holds (has_record_name name) (Stands cut.files) (records_of cut) r (c.locate-line.ensures.named ∙ ap Some c.locate-line.ensures.record)
    (records-stand cut.size cut.files)

pub loop-name-preserved-then-not-has_record : goal.loop-name-preserved-then-not-has_record
loop-name-preserved-then-not-has_record g c =
    let q = c.args.query.now in
    let seen = g.W.CountedWrite.seen in
    let was = c.loop-name.invariant in
    let rs : List NamedRecord = records_of q.plan.now in
    let skips : List RecordName = q.skips.now in
    let i : ℕ = c.loop-name.name-index in
    let done : List NamedRecord = filter_map (record_named rs) (take i skips) in
    let none = none-found (has_record_name (get_or skips i no_name)) rs (sym c.has_record.ensures.same ∙ c.if-not-has_record.true) in
    let more : filter_map (record_named rs) (take (i + 1) skips) ≡ done =
    more_found rs skips i c.loop-name-test.true ∙ ap (λ o. done ++ cons_option o []) none ∙ append-nil done in
    record {
      mapper = was.mapper;
      needle = was.needle;
      counted = was.counted;
      few = (omega (arith, was.few.0), omega (arith, was.few.1));
      walked = subst (λ (l : List NamedRecord). HasWalked q (codes "left out:") l c.loop-name.walk.totals (seen c.args.writer.now) (seen c.loop-name.writer)) (sym more) was.walked;
    }

pub loop-name-preserved : goal.loop-name-preserved
loop-name-preserved g c =
    let q = c.args.query.now in
    let seen = g.W.CountedWrite.seen in
    let was = c.loop-name.invariant in
    let taken = c.in_ok-take_record.ensures in
    let rs : List NamedRecord = records_of q.plan.now in
    let skips : List RecordName = q.skips.now in
    let i : ℕ = c.loop-name.name-index in
    let done : List NamedRecord = filter_map (record_named rs) (take i skips) in
    let line = c.locate-line.result in
    let r : NamedRecord = record { name = get_or skips i no_name; file = line.file; start = line.start; bytes = line.bytes.now } in
    let found : record_named rs r.name ≡ Some r = c.locate-line.ensures.named ∙ ap Some c.locate-line.ensures.record in
    let more : filter_map (record_named rs) (take (i + 1) skips) ≡ done ++ r ∷ [] = more_found rs skips i c.loop-name-test.true ∙ ap (λ o. done ++ cons_option o []) found in
    record {
      mapper = taken.mappers.0 ∙ was.mapper;
      needle = taken.mappers.1 ∙ was.needle;
      counted = taken.counted;
      few = (omega (arith, was.few.0, taken.few.0), omega (arith, was.few.1, taken.few.1));
      walked = subst (λ (l : List NamedRecord). HasWalked q (codes "left out:") l c.take_record.new.walk.totals (seen c.args.writer.now) (seen c.take_record.new.writer))
          (sym more)
          (walked_more q (codes "left out:") (seen c.args.writer.now) done r c.loop-name.walk.totals c.take_record.new.walk.totals (seen c.loop-name.writer)
          (seen c.take_record.new.writer) was.walked taken.counts taken.put);
    }

all_walked : (q : Query) (totals : Totals) (start end : Seen) (i : ℕ) → length q.skips.now ≤ i
    → HasWalked q (codes "left out:") (filter_map (record_named (records_of q.plan.now)) (take i q.skips.now)) totals start end
    → HasWalked q (codes "left out:") (left_out_of q) totals start end
all_walked q totals start end i all =
    subst (λ (l : List RecordName). HasWalked q (codes "left out:") (filter_map (record_named (records_of q.plan.now)) l) totals start end) (take_all i q.skips.now all)

pub returns-then-walk-eq0 : goal.returns-then-walk-eq0
returns-then-walk-eq0 g c =
    let q = c.args.query.now in
    let seen = g.W.CountedWrite.seen in
    let all = all_walked q c.loop-name.walk.totals (seen c.args.writer.now) (seen c.loop-name.writer) c.loop-name.name-index c.loop-name-test.false c.loop-name.invariant.walked in
    record {
      counts = all.counts;
      put = all.put ∙ ap (with_bytes (seen c.args.writer.now)) (none_left_out q c.loop-name.walk.totals all.counts c.if-walk-eq0.true);
      cut = tt;
    }

pub returns-clause-counts : goal.returns-clause-counts
returns-clause-counts g c =
    let q = c.args.query.now in
    let seen = g.W.CountedWrite.seen in
    let all = all_walked q c.loop-name.walk.totals (seen c.args.writer.now) (seen c.loop-name.writer) c.loop-name.name-index c.loop-name-test.false c.loop-name.invariant.walked in
    on_ok_weaker c.put_summary.result (λ put. all.counts) c.put_summary.ensures.put

pub returns-clause-put : goal.returns-clause-put
returns-clause-put g c =
    let q = c.args.query.now in
    let seen = g.W.CountedWrite.seen in
    let t : Totals = c.loop-name.walk.totals in
    let all = all_walked q t (seen c.args.writer.now) (seen c.loop-name.writer) c.loop-name.name-index c.loop-name-test.false c.loop-name.invariant.walked in
    on_ok_weaker c.put_summary.result (λ put.
    written (seen c.args.writer.now) (seen c.loop-name.writer) (seen c.put_summary.new.writer) (listing q (codes "left out:") (left_out_of q)) (summary_line (codes "left out") t.pairs t.records) all.put put
    ∙ ap (with_bytes (seen c.args.writer.now)) (some_left_out q t all.counts c.if-walk-eq0.false)) c.put_summary.ensures.put
