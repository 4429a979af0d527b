use Rattle.std.proofs.Common.{◌∙◌, ap, arith, Err, true}
use Rattle.mr_files.proofs.Passed.{read_begins}
use Rattle.mr_commands.proofs.SiftedLemmas.{whole_range}
use Rattle.mr_commands.proofs.sifted.sift_file.Goals as goal

pub returns-in-Err-TooLong-clause-refused : goal.returns-in-Err-TooLong-clause-refused
returns-in-Err-TooLong-clause-refused g c =
    let read = c.sift.ensures.consumes in
    let long = read.3.0 (c.in-Err-TooLong.is ∙ ap Err c.in-Err-TooLong.field-0-is) in
    let stands = read_begins _ _ _ read.1 in
    (stands.0, stands.0, true, c.in-Ok.ensures.bytes stands.0 stands.1, whole_range stands.0, omega (arith, long, stands.2))
