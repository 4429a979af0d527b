use Rattle.std.proofs.Common.{arith, sym, subst}
use Rattle.mr_files.specs.Ranges.{EndsLine}
use Rattle.mr_files.proofs.RangeLemmas.{none_before, opens}
use Rattle.mr_files.proofs.ranges.open_range.Goals as goal

pub returns-then-lacking-gt0-clause-refused : goal.returns-then-lacking-gt0-clause-refused
returns-then-lacking-gt0-clause-refused g c =
    let some = c.if-lacking-gt0.true in
    let read = c.in-Ok-read_up_to.ensures in
    none_before (g.S.Store.holds c.args.store.now) (g.S.Store.unreadable c.args.store.now) c.args.name.now c.args.from c.saturating_sub-at.result c.saturating_sub-at.ensures
    (g.S.Reader.CountedRead.remaining c.in-Ok.reader) (g.S.Reader.CountedRead.remaining c.read_up_to.new.reader) c.in-Ok-read_up_to.read.0.items c.in-Ok-read_up_to.read.1
    c.in-Ok.ensures.bytes read.read some (read.end some)

pub returns-clause-opened : goal.returns-clause-opened
returns-clause-opened g c =
    let same = c.deref.ensures.value in
    opens (g.S.Store.holds c.args.store.now) (g.S.Store.unreadable c.args.store.now) c.args.name.now c.args.from c.saturating_sub-at.result c.saturating_sub-at.ensures
    (g.S.Reader.CountedRead.remaining c.in-Ok.reader) (g.S.Reader.CountedRead.remaining c.read_up_to.new.reader) c.in-Ok-read_up_to.read.0.items c.in-Ok-read_up_to.read.1
    c.in-Ok.ensures.bytes c.in-Ok-read_up_to.ensures.read (omega (arith, c.if-lacking-gt0.false)) c.ends_line.result
    (λ e. subst EndsLine same (c.ends_line.ensures.yes e)) (λ e h. c.ends_line.ensures.no e (subst EndsLine (sym same) h))
