use Rattle.std.proofs.Common.{◌≡◌, ◌+◌, ◌∷◌, ◌++◌, [], refl, rules, List, ℕ, arith, map, subst}
use Rattle.std.proofs.lemmas.Result.{err_from_is_err_and}
use Rattle.mr_files.specs.Names.{name_of_part, part_names}
use Rattle.mr_files.proofs.Lists.{one_certificate, one_part, part_unread, parts_more, parts_none}
use Rattle.mr_files.proofs.Readers.{failed_more, none_given, read_more}
use Rattle.mr_files.specs.Holding.{AllAgree, Holding}
use Rattle.mr_files.proofs.result.result_readers.Goals as goal

pub loop-part-init : goal.loop-part-init
loop-part-init g c = rw (parts_none c.args.dir.now) (rw c.new-readers.ensures.items (record { bytes = none_given (g.S.Store.holds c.args.store.now); failed = λ p. refl }))

pub named_reader-requires : goal.named_reader-requires
named_reader-requires g c = record { cause = rw c.in_ok-name.ensures (λ u. c.requires.cause (name_of_part c.args.dir.now c.loop-part.part) (part_unread (g.S.Store.unreadable c.args.store.now) c.args.dir.now c.loop-part.part c.args.parts c.loop-part-test.true u)) }

pub returns-in_err-reader-clause-refused : goal.returns-in_err-reader-clause-refused
returns-in_err-reader-clause-refused g c =
    let p = err_from_is_err_and c.from_residual-in_err-reader.result c.from_residual-in_err-reader.ensures.1 in
    rw p.1 (rw p.2 (one_part (g.S.Store.unreadable c.args.store.now) c.args.dir.now c.loop-part.part c.args.parts c.in_err-reader.field-0.0 c.loop-part-test.true (rw c.in_ok-name.ensures at c.in_err-reader.ensures.refused)))

pub loop-part-preserved : goal.loop-part-preserved
loop-part-preserved g c =
    let i = c.loop-part.part in
    let dir = c.args.dir.now in
    let was = c.loop-part.readers.items in
    let reader = c.in_ok-reader.reader in
    let pushed : c.push.new.self.items ≡ was ++ reader ∷ [] = search rules in
    record {
      bytes = read_more was c.push.new.self.items reader (λ r. g.S.Reader.CountedRead.remaining r.reader) (g.S.Store.holds c.args.store.now) (part_names dir i) (part_names dir (i + 1)) (name_of_part dir i) pushed (parts_more dir i) c.loop-part.invariant.bytes (rw c.in_ok-name.ensures at c.in_ok-reader.ensures.bytes);
      failed = failed_more was c.push.new.self.items reader (λ r. r.failed) pushed c.loop-part.invariant.failed c.in_ok-reader.ensures.failed;
    }

pub returns-in_err-map_err-clause-refused : goal.returns-in_err-map_err-clause-refused
returns-in_err-map_err-clause-refused g c =
    let p = err_from_is_err_and c.from_residual-in_err-map_err.result c.from_residual-in_err-map_err.ensures.1 in
    rw p.1 (rw p.2 tt)

pub returns-clause-outputs : goal.returns-clause-outputs
returns-clause-outputs g c =
    let last : c.loop-part.part ≡ c.args.parts = omega (arith, c.loop-part-test.false, c.loop-part.auto.part-end) in
    let given = map (λ r. g.S.Reader.CountedRead.remaining r.reader) c.loop-part.readers.items in
    subst (λ (k : ℕ). (outs : List (List ℕ)) → AllAgree given outs → Holding (g.S.Store.holds c.args.store.now) (part_names c.args.dir.now k) outs) last c.loop-part.invariant.bytes

pub returns-clause-failed : goal.returns-clause-failed
returns-clause-failed g c = (c.loop-part.invariant.failed, c.in_ok-named_reader.ensures.failed)

pub returns-in_err-named_reader-clause-refused : goal.returns-in_err-named_reader-clause-refused
returns-in_err-named_reader-clause-refused g c =
    let p = err_from_is_err_and c.from_residual-in_err-named_reader.result c.from_residual-in_err-named_reader.ensures.1 in
    rw p.1 (rw p.2 (one_certificate (g.S.Store.unreadable c.args.store.now) c.args.dir.now c.args.parts c.in_err-named_reader.field-0.0 (rw c.in_ok-last.ensures.last at c.in_err-named_reader.ensures.refused)))
