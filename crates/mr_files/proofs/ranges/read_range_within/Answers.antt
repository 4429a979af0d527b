use Rattle.std.proofs.Common.{◌-◌, ◌<◌, length, sym, subst, arith, Bool, Option, ℕ}
use Rattle.std.proofs.lemmas.Result.{err_from_is_err_and}
use Rattle.std.proofs.lemmas.Bool.{le-leb}
use Rattle.std.proofs.Math.Dec.{leb}
use Rattle.std.specs.Prelude.{Vec}
use Rattle.std.specs.Global.{Global}
use Rattle.mr_files.specs.Holding.{Agrees}
use Rattle.mr_files.specs.Ranges.{IsFront, IsOpenAt, IsRangeRefusal}
use Rattle.mr_files.specs.declared.ranges.RangeFault.TheVariants.{InsideALine, TooLong}
use Rattle.mr_files.proofs.RangeLemmas.{inside_from, inside_rest, inside_to, of_long, of_some, rest_long, taken, too_long}
use Rattle.mr_files.proofs.ranges.read_range_within.Goals as goal

pub returns-in_err-reader-clause-refused : goal.returns-in_err-reader-clause-refused
returns-in_err-reader-clause-refused g c =
    let p = err_from_is_err_and c.from_residual.result c.from_residual.ensures.1 in
    rw p.1 (rw p.2 (c.in_err-reader.ensures.refused c.args.to c.args.limit))

pub returns-then-not-begins-clause-refused : goal.returns-then-not-begins-clause-refused
returns-then-not-begins-clause-refused g c =
    let opened = subst (λ (v : Bool). IsOpenAt (g.S.Store.holds c.args.store.now) c.args.name.now c.args.from v (g.S.Reader.CountedRead.remaining c.in_ok-reader.reader)) c.if-not-begins.true c.in_ok-reader.ensures.opened in
    subst (λ (v : Option ℕ). IsRangeRefusal (g.S.Store.holds c.args.store.now) (g.S.Store.unreadable c.args.store.now) c.args.name.now c.args.from v c.args.limit (InsideALine c.args.from)) (sym c.in_default.is)
    (inside_rest (g.S.Store.holds c.args.store.now) (g.S.Store.unreadable c.args.store.now) c.args.name.now c.args.from (g.S.Reader.CountedRead.remaining c.in_ok-reader.reader) c.args.limit opened)

pub returns-in-Err-TooLong-clause-refused : goal.returns-in-Err-TooLong-clause-refused
returns-in-Err-TooLong-clause-refused g c =
    let opened = subst (λ (v : Bool). IsOpenAt (g.S.Store.holds c.args.store.now) c.args.name.now c.args.from v (g.S.Reader.CountedRead.remaining c.in_ok-reader.reader)) c.if-not-begins.false c.in_ok-reader.ensures.opened in
    let long = of_long (λ _ b. Agrees (g.S.Reader.CountedRead.remaining c.in_ok-reader.reader) b) (λ _. g.S.Reader.CountedRead.can_fail c.in_ok-reader.reader) c.args.name.now c.args.limit c.in-Err-TooLong.field-0 c.in-Err-TooLong.field-0-is c.in-Err-TooLong.ensures.refused in
    subst (λ (v : Option ℕ). IsRangeRefusal (g.S.Store.holds c.args.store.now) (g.S.Store.unreadable c.args.store.now) c.args.name.now c.args.from v c.args.limit TooLong) (sym c.in_default.is)
    (rest_long (g.S.Store.holds c.args.store.now) (g.S.Store.unreadable c.args.store.now) c.args.name.now c.args.from (g.S.Reader.CountedRead.remaining c.in_ok-reader.reader) c.args.limit opened long.0 long.1 long.2)

pub returns-then-not-begins-2-clause-refused : goal.returns-then-not-begins-2-clause-refused
returns-then-not-begins-2-clause-refused g c =
    let opened = subst (λ (v : Bool). IsOpenAt (g.S.Store.holds c.args.store.now) c.args.name.now c.args.from v (g.S.Reader.CountedRead.remaining c.in_ok-reader.reader)) c.if-not-begins-2.true c.in_ok-reader.ensures.opened in
    let front = c.in-Ok-Some.ensures.read in
    let taken_is = of_some c.in-Ok-Some.field-0 c.in-Ok-Some.range (length front.0 < c.in-Some.end - c.args.from) (λ (r : Vec ℕ Global × Bool). IsFront front.0 (c.in-Some.end - c.args.from) (leb (c.in-Some.end - c.args.from) c.args.limit) r.0.items r.1) c.in-Ok-Some.field-0-is front.2 in
    subst (λ (v : Option ℕ). IsRangeRefusal (g.S.Store.holds c.args.store.now) (g.S.Store.unreadable c.args.store.now) c.args.name.now c.args.from v c.args.limit (InsideALine c.args.from)) (sym c.in-Some.is)
    (inside_from (g.S.Store.holds c.args.store.now) (g.S.Store.unreadable c.args.store.now) c.args.name.now c.args.from (g.S.Reader.CountedRead.remaining c.in_ok-reader.reader) c.args.limit
    c.in-Some.end (c.requires c.in-Some.end c.in-Some.is) _ c.in-Ok-Some.range.0.items c.in-Ok-Some.range.1 opened front.0 front.1 taken_is)

pub returns-then-not-may_end-clause-refused : goal.returns-then-not-may_end-clause-refused
returns-then-not-may_end-clause-refused g c =
    let opened = subst (λ (v : Bool). IsOpenAt (g.S.Store.holds c.args.store.now) c.args.name.now c.args.from v (g.S.Reader.CountedRead.remaining c.in_ok-reader.reader)) c.if-not-begins-2.false c.in_ok-reader.ensures.opened in
    let front = c.in-Ok-Some.ensures.read in
    let taken_is = of_some c.in-Ok-Some.field-0 c.in-Ok-Some.range (length front.0 < c.in-Some.end - c.args.from) (λ (r : Vec ℕ Global × Bool). IsFront front.0 (c.in-Some.end - c.args.from) (leb (c.in-Some.end - c.args.from) c.args.limit) r.0.items r.1) c.in-Ok-Some.field-0-is front.2 in
    let not = c.may_end.ensures.no c.if-not-may_end.true in
    subst (λ (v : Option ℕ). IsRangeRefusal (g.S.Store.holds c.args.store.now) (g.S.Store.unreadable c.args.store.now) c.args.name.now c.args.from v c.args.limit (InsideALine c.in-Some.end)) (sym c.in-Some.is)
    (inside_to (g.S.Store.holds c.args.store.now) (g.S.Store.unreadable c.args.store.now) c.args.name.now c.args.from (g.S.Reader.CountedRead.remaining c.in_ok-reader.reader) c.args.limit
    c.in-Some.end (c.requires c.in-Some.end c.in-Some.is) _ c.in-Ok-Some.range.0.items c.in-Ok-Some.range.1 opened front.0 front.1 taken_is not.0 (rw (sym c.deref.ensures.value) not.1))

pub returns-then-count-limit-clause-refused : goal.returns-then-count-limit-clause-refused
returns-then-count-limit-clause-refused g c =
    let opened = subst (λ (v : Bool). IsOpenAt (g.S.Store.holds c.args.store.now) c.args.name.now c.args.from v (g.S.Reader.CountedRead.remaining c.in_ok-reader.reader)) c.if-not-begins-2.false c.in_ok-reader.ensures.opened in
    let front = c.in-Ok-Some.ensures.read in
    let taken_is = of_some c.in-Ok-Some.field-0 c.in-Ok-Some.range (length front.0 < c.in-Some.end - c.args.from) (λ (r : Vec ℕ Global × Bool). IsFront front.0 (c.in-Some.end - c.args.from) (leb (c.in-Some.end - c.args.from) c.args.limit) r.0.items r.1) c.in-Ok-Some.field-0-is front.2 in
    subst (λ (v : Option ℕ). IsRangeRefusal (g.S.Store.holds c.args.store.now) (g.S.Store.unreadable c.args.store.now) c.args.name.now c.args.from v c.args.limit TooLong) (sym c.in-Some.is)
    (too_long (g.S.Store.holds c.args.store.now) (g.S.Store.unreadable c.args.store.now) c.args.name.now c.args.from (g.S.Reader.CountedRead.remaining c.in_ok-reader.reader) c.args.limit
    c.in-Some.end (c.requires c.in-Some.end c.in-Some.is) _ c.in-Ok-Some.range.0.items c.in-Ok-Some.range.1 opened front.0 front.1 taken_is
    (rw (sym c.deref.ensures.value) (c.may_end.ensures.yes c.if-not-may_end.false)) c.if-count-limit.true)

pub returns-clause-bytes : goal.returns-clause-bytes
returns-clause-bytes g c =
    let opened = subst (λ (v : Bool). IsOpenAt (g.S.Store.holds c.args.store.now) c.args.name.now c.args.from v (g.S.Reader.CountedRead.remaining c.in_ok-reader.reader)) c.if-not-begins-2.false c.in_ok-reader.ensures.opened in
    let front = c.in-Ok-Some.ensures.read in
    let taken_is = of_some c.in-Ok-Some.field-0 c.in-Ok-Some.range (length front.0 < c.in-Some.end - c.args.from) (λ (r : Vec ℕ Global × Bool). IsFront front.0 (c.in-Some.end - c.args.from) (leb (c.in-Some.end - c.args.from) c.args.limit) r.0.items r.1) c.in-Ok-Some.field-0-is front.2 in
    rw c.in-Some.is
    (taken (g.S.Store.holds c.args.store.now) (g.S.Store.unreadable c.args.store.now) c.args.name.now c.args.from (g.S.Reader.CountedRead.remaining c.in_ok-reader.reader) c.args.limit
    c.in-Some.end (c.requires c.in-Some.end c.in-Some.is) _ c.in-Ok-Some.range.0.items c.in-Ok-Some.range.1 opened front.0 front.1 taken_is
    (rw (sym c.deref.ensures.value) (c.may_end.ensures.yes c.if-not-may_end.false)) (le-leb _ _ (omega (arith, c.if-count-limit.false))))
