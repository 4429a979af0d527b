use Rattle.std.proofs.Common.{ℕ, List, ◌++◌, decimal}
use Rattle.std.specs.Prelude.{codes}
use Rattle.mr_store.specs.Devices.{Seen}
use Rattle.mr_explain.proofs.WrittenLemmas.{written}
use Rattle.mr_explain.proofs.evidence.put_summary.Goals as goal

pub returns-clause-put : goal.returns-clause-put
returns-clause-put g c =
    let seen = g.W.CountedWrite.seen in
    let w0 : Seen = seen c.args.writer.now in
    let w1 : Seen = seen c.write_all.new.writer in
    let w2 : Seen = seen c.write_all-2.new.writer in
    let w3 : Seen = seen c.put_number.new.writer in
    let w4 : Seen = seen c.write_all-3.new.writer in
    let w5 : Seen = seen c.put_number-2.new.writer in
    let w6 : Seen = seen c.write_all-4.new.writer in
    let t1 : List ℕ = c.args.label.now in
    let t2 : List ℕ = t1 ++ codes ": " in
    let t3 : List ℕ = t2 ++ decimal c.args.totals.pairs in
    let t4 : List ℕ = t3 ++ codes " pairs in " in
    let t5 : List ℕ = t4 ++ decimal c.args.totals.records in
    written w0 w5 w6 t5 (codes " records\n")
    (written w0 w4 w5 t4 (decimal c.args.totals.records)
    (written w0 w3 w4 t3 (codes " pairs in ")
    (written w0 w2 w3 t2 (decimal c.args.totals.pairs) (written w0 w1 w2 t1 (codes ": ") c.in_ok-write_all.ensures.whole c.in_ok-write_all-2.ensures.whole) c.in_ok-put_number.ensures.put)
    c.in_ok-write_all-3.ensures.whole) c.in_ok-put_number-2.ensures.put) c.in_ok-write_all-4.ensures.whole
