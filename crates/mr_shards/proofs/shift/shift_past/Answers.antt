use Rattle.std.proofs.Common.{arith}
use Rattle.mr_shards.proofs.PastLemmas.{IsCounted, counted-some, past-cut}
use Rattle.mr_shards.proofs.shift.shift_past.Goals as goal

pub overflow_sub-result : goal.overflow_sub-result
overflow_sub-result c =
    counted-some c.args.ranges.now c.args.behind.now c.count_files-files.result.files c.count_files-files.result.begin
    (record { count = c.count_files-files.ensures.count; end = c.count_files-files.ensures.begin }) c.in-Some.ensures.0

pub overflow_sub-result-in-Some : goal.overflow_sub-result-in-Some
overflow_sub-result-in-Some c =
    let counted : IsCounted c.args.ranges.now c.count_files-files.result.files c.count_files-files.result.begin =
    record { count = c.count_files-files.ensures.count; end = c.count_files-files.ensures.begin } in
    let some = counted-some c.args.ranges.now c.args.behind.now c.count_files-files.result.files c.count_files-files.result.begin counted c.in-Some.ensures.0 in
    omega (arith, c.in-Some.ensures.1, counted.end some)

pub returns-in-Some : goal.returns-in-Some
returns-in-Some c =
    past-cut c.args.ranges.now c.args.behind.now c.count_files-files.result.files c.count_files-files.result.begin c.in-Some.end
    (record { count = c.count_files-files.ensures.count; end = c.count_files-files.ensures.begin }) c.in-Some.ensures.0 c.in-Some.ensures.1
