use Rattle.std.proofs.Common.{◌≡◌, ◌≤◌, ◌+◌, ◌∷◌, ◌++◌, [], length, rules}
use Rattle.mr_files.specs.Names.{name_of_part, part_names}
use Rattle.mr_files.proofs.Lists.{holding_contents, parts_more, parts_none}
use Rattle.mr_files.proofs.Passed.{all_pushed, certificate_within, part_within}
use Rattle.std.proofs.lemmas.Result.{err_from_is_err_and}
use Rattle.mr_files.proofs.reading.read_result_within.Goals as goal

pub loop-part-init : goal.loop-part-init
loop-part-init g c = rw (parts_none c.args.dir.now) (rw c.new-outputs.ensures.items (record { held = tt; few = tt }))

pub loop-part-preserved : goal.loop-part-preserved
loop-part-preserved g c =
    let i = c.loop-part.part in
    let dir = c.args.dir.now in
    let was = c.loop-part.outputs.items in
    let bytes = c.in_ok-bytes.bytes in
    let pushed : c.push.new.self.items ≡ was ++ bytes ∷ [] = search rules in
    record {
      held = holding_contents (g.S.Store.holds c.args.store.now) (part_names dir i) was c.push.new.self.items (part_names dir (i + 1)) (name_of_part dir i) bytes (parts_more dir i) pushed c.loop-part.invariant.held (rw (c.as_str.ensures.value, c.in_ok-name.ensures) at c.in_ok-bytes.ensures.bytes);
      few = all_pushed (λ b. length b ≤ c.args.limit) was c.push.new.self.items bytes pushed c.loop-part.invariant.few c.in_ok-bytes.ensures.within;
    }

pub returns-in_err-bytes-clause-refused : goal.returns-in_err-bytes-clause-refused
returns-in_err-bytes-clause-refused g c =
    let p = err_from_is_err_and c.from_residual-in_err-bytes.result c.from_residual-in_err-bytes.ensures.1 in
    rw p.1 (rw p.2 (part_within (g.S.Store.holds c.args.store.now) (g.S.Store.unreadable c.args.store.now) c.args.dir.now c.loop-part.part c.args.parts c.args.limit c.in_err-bytes.field-0.0 c.loop-part-test.true (rw (c.as_str.ensures.value, c.in_ok-name.ensures) at c.in_err-bytes.ensures.refused)))

pub returns-in_err-certificate-clause-refused : goal.returns-in_err-certificate-clause-refused
returns-in_err-certificate-clause-refused g c =
    let p = err_from_is_err_and c.from_residual-in_err-certificate.result c.from_residual-in_err-certificate.ensures.1 in
    rw p.1 (rw p.2 (certificate_within (g.S.Store.holds c.args.store.now) (g.S.Store.unreadable c.args.store.now) c.args.dir.now c.args.parts c.args.limit c.in_err-certificate.field-0.0 (rw (c.as_str-2.ensures.value, c.in_ok-last.ensures.last) at c.in_err-certificate.ensures.refused)))
