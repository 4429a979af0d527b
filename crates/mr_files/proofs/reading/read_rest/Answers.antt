use Rattle.std.proofs.Common.{◌∙◌, ap, arith, Err}
use Rattle.mr_files.proofs.Passed.{read_begins}
use Rattle.mr_files.proofs.reading.read_rest.Goals as goal

pub returns-in-Err-TooLong-clause-refused : goal.returns-in-Err-TooLong-clause-refused
returns-in-Err-TooLong-clause-refused g c =
    let read = c.read_limited.ensures.consumes in
    let long = read.3.0 (c.in-Err-TooLong.is ∙ ap Err c.in-Err-TooLong.field-0-is) in
    let stands = read_begins _ _ _ read.1 in
    (stands.0, stands.1, omega (arith, long, stands.2))
