use Rattle.std.proofs.Common.{arith}
use Rattle.mr_records.proofs.RecordLemmas.{records_from-next, records_from-end}
use Rattle.mr_records.proofs.record_end.Goals as goal

pub returns-then-from-bytes : goal.returns-then-from-bytes
returns-then-from-bytes c = record {
  past = c.if-from-bytes.true;
  none = records_from-end c.args.from c.args.bytes.now c.if-from-bytes.true;
}

pub returns : goal.returns
returns c =
    let end = c.line_end.ensures in record {
      inside = omega arith;
      rises = omega arith;
      within = omega arith;
      first = records_from-next c.args.from c.line_end.result c.args.bytes.now (omega arith) (omega arith) (omega arith) end.clear end.stops;
    }
