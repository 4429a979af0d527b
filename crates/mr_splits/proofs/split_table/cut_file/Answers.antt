use Rattle.std.proofs.Common.{arith, ap, ◌≡◌, ◌+◌, ◌-◌, ℕ, List, length, length-append}
use Rattle.mr_splits.proofs.TableLemmas.{cutting-begun, cutting-step, cutting-done}
use Rattle.mr_splits.proofs.split_table.cut_file.Goals as goal

pub loop-start-init : goal.loop-start-init
loop-start-init c = record {
  cut = (0, cutting-begun c.args.size c.args.input.now c.args.i c.args.table.now.ends.items c.args.table.now.rows.items c.requires.rows c.requires.stands);
  within = omega arith;
  inside = omega arith;
}

pub loop-start-preserved : goal.loop-start-preserved
loop-start-preserved c =
    let t = c.in_ok-next.ensures.taken in
    let cut = c.loop-start.invariant.cut in
    let ends : List ℕ = c.loop-start.table.ends.items in
    let first : c.len-first.result ≡ length ends = omega (arith, c.len-first.ensures, c.loop-start.table.ends.ok.0) in
    let count : c.len.result - c.len-first.result ≡ length t.0 =
    omega (arith, first, c.len.ensures, c.take_records.new.ends.ok.0, ap length t.1, length-append ends t.0) in
    record {
      cut = (
        cut.0 + 1,
        cutting-step c.args.size c.args.input.now c.args.i _ c.loop-start.start c.loop-start.next c.min-end.result c.in_ok-next.next
            ends t.0 c.take_records.new.ends.items c.loop-start.table.rows.items c.push.new.self.items c.file-bytes.result.now
            c.len-first.result (c.len.result - c.len-first.result) cut.0 c.requires.size.0 c.requires.file.0 cut.1 c.file-bytes.ensures.bytes
            c.loop-start-test.true (omega arith) t.2 c.in_ok-next.ensures.next.1 first count t.1 c.in_ok-push.ensures.items,
      );
      within = omega arith;
      inside = omega (arith, c.in_ok-next.ensures.next.2);
    }

pub overflow_cast-len : goal.overflow_cast-len
overflow_cast-len c =
    let t = c.in_ok-next.ensures.taken in
    let ends : List ℕ = c.loop-start.table.ends.items in
    omega (
      arith,
      c.len-first.ensures,
      c.loop-start.table.ends.ok.0,
      c.len.ensures,
      c.take_records.new.ends.ok.0,
      ap length t.1,
      length-append ends t.0,
      t.2.few,
      c.in_ok-next.ensures.next.2,
      c.file-bytes.ensures.small,
    )

pub returns-clause-all : goal.returns-clause-all
returns-clause-all c =
    let cut = c.loop-start.invariant.cut in
    (cutting-done c.args.size c.args.input.now c.args.i _ c.loop-start.start c.loop-start.next c.loop-start.table.ends.items c.loop-start.table.rows.items cut.0
    c.requires.size.0 cut.1 (omega (arith, c.loop-start-test.false, ap length c.file-bytes.ensures.bytes))).1
