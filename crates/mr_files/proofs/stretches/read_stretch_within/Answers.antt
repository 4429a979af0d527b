use Rattle.std.proofs.Common.{◌≡◌, ◌∷◌, ◌++◌, [], List, map, ap, subst, ℕ, arith}
use Rattle.std.specs.Result.{is_ok}
use Rattle.mr_input.specs.Files.{contents}
use Rattle.mr_files.specs.Ranges.{IsRangeRefusal}
use Rattle.mr_files.specs.Stretches.{Stretch, begin_in, end_in}
use Rattle.mr_files.proofs.Passed.{sizes_pushed}
use Rattle.mr_files.proofs.StretchLemmas.{is_pushed, name_at, next_taken, number_below, untaken}
use Rattle.mr_files.proofs.stretches.read_stretch_within.Goals as goal

pub returns-in-Err-clause-refused : goal.returns-in-Err-clause-refused
returns-in-Err-clause-refused g c =
    let s = c.args.stretch.now in
    let i = c.loop-file.file in
    let xs = c.stretch.inside.names.now in
    let names : map (λ n. n.now) xs ≡ s.names = ap (λ (v : Stretch). v.names) c.stretch.view_is in
    let range = c.range_in-from.ensures in
    untaken (g.S.Store.holds c.args.store.now) (g.S.Store.unreadable c.args.store.now) s c.args.limit c.loop-file.left i (contents c.loop-file.files.items) c.loop-file.ends c.in-Err.fault
    (number_below (λ n. n.now) xs s.names i names c.loop-file-test.true) c.loop-file.invariant.taken c.loop-file.invariant.room
    (subst (λ (n : List ℕ). IsRangeRefusal (g.S.Store.holds c.args.store.now) (g.S.Store.unreadable c.args.store.now) n (begin_in s i) (end_in s i) c.loop-file.left c.in-Err.fault) (name_at (λ n. n.now) xs s.names i _ names c.loop-file-test.true)
    (rw (range.from, range.to) at c.in-Err.ensures.refused))

pub returns-then-is_err-clause-refused : goal.returns-then-is_err-clause-refused
returns-then-is_err-clause-refused g c =
    let s = c.args.stretch.now in
    let xs = c.stretch.inside.names.now in
    let names : map (λ n. n.now) xs ≡ s.names = ap (λ (v : Stretch). v.names) c.stretch.view_is in
    untaken (g.S.Store.holds c.args.store.now) (g.S.Store.unreadable c.args.store.now) s c.args.limit c.loop-file.left c.loop-file.file (contents c.loop-file.files.items) c.loop-file.ends _
    (number_below (λ n. n.now) xs s.names c.loop-file.file names c.loop-file-test.true) c.loop-file.invariant.taken c.loop-file.invariant.room tt

pub loop-file-preserved : goal.loop-file-preserved
loop-file-preserved g c =
    let s = c.args.stretch.now in
    let i = c.loop-file.file in
    let xs = c.stretch.inside.names.now in
    let was = c.loop-file.files.items in
    let bytes = c.in-Ok.taken.0 in
    let names : map (λ n. n.now) xs ≡ s.names = ap (λ (v : Stretch). v.names) c.stretch.view_is in
    let range = c.range_in-from.ensures in
    let pushed : c.push.new.self.items ≡ was ++ bytes ∷ [] = is_pushed was c.push.new.self.items bytes (is_ok c.push.result) c.is_err.result c.push.ensures.items c.is_err.ensures.negation c.if-is_err.false in
    let here = c.in-Ok.ensures.bytes in
    record {
      taken = next_taken (g.S.Store.holds c.args.store.now) s i was c.push.new.self.items bytes c.loop-file.ends c.in-Ok.taken.1 (number_below (λ n. n.now) xs s.names i names c.loop-file-test.true) pushed c.loop-file.invariant.taken (
        here.0,
        subst (λ (n : List ℕ). g.S.Store.holds c.args.store.now n here.0) (name_at (λ n. n.now) xs s.names i _ names c.loop-file-test.true) here.1,
        rw (range.from, range.to) at here.2,
      );
      room = omega (arith, c.loop-file.invariant.room, sizes_pushed was c.push.new.self.items bytes pushed, c.len.ensures, bytes.ok, c.in-Ok.ensures.within);
    }
