use Rattle.std.proofs.Common.{ℕ, List, false, rules}
use Rattle.std.specs.Prelude.{IsTrue, ◌↔◌}
use Rattle.mr_shard_files.specs.Beside.{ReportsCause}
use Rattle.mr_shard_files.specs.Streams.{HasRead, length_told}
use Rattle.mr_shard_files.proofs.SettleLemmas.{ends}
use Rattle.mr_shard_files.proofs.streams.settle.Goals as goal

pub returns-in_ok-has_digest-in-Some-clause-ends : goal.returns-in_ok-has_digest-in-Some-clause-ends
returns-in_ok-has_digest-in-Some-clause-ends g c =
    let p = c.args.partition in
    let v = c.args.verdict.now in
    let is = c.in_ok-has_digest-in-Some.field-0 in
    let tells : (bytes : List ℕ) → HasRead (length_told p v) c.finish.new.self bytes → IsTrue is ↔ ReportsCause p v bytes = search rules in
    ends g.R.CountedRead.remaining g.R.CountedRead.can_fail p v is c.args.part.now c.finish.new.self c.in_ok-finish.ensures.moves c.in_ok-finish.ensures.done tells

pub returns-in-None-clause-ends : goal.returns-in-None-clause-ends
returns-in-None-clause-ends g c =
    let p = c.args.partition in
    let v = c.args.verdict.now in
    let tells : (bytes : List ℕ) → HasRead (length_told p v) c.finish.new.self bytes → IsTrue false ↔ ReportsCause p v bytes = search rules in
    ends g.R.CountedRead.remaining g.R.CountedRead.can_fail p v false c.args.part.now c.finish.new.self c.in_ok-finish.ensures.moves c.in_ok-finish.ensures.done tells
