use Rattle.std.proofs.Common.{arith, sym, ap, length}
use Rattle.mr_jobs.specs.declared.literal_search.Known.{Known}
use Rattle.mr_jobs.specs.Hits.{Sought}
use Rattle.mr_jobs.proofs.HitLemmas.{line-holds, line-short}
use Rattle.mr_jobs.proofs.literal_search.LiteralSearch.hold.Goals as goal

pub returns-in_default-clause-line : goal.returns-in_default-clause-line
returns-in_default-clause-line c =
    let sought : Sought = c.args.self.now in
    let size = ap (λ (s : Sought). length s.literal) c.self.view_is in
    sym (line-short sought.fold sought.text sought.literal c.args.start c.args.end (omega arith) (omega arith) (omega (arith, size)))

pub returns-then-last-start-clause-line : goal.returns-then-last-start-clause-line
returns-then-last-start-clause-line c =
    let sought : Sought = c.args.self.now in
    let size = ap (λ (s : Sought). length s.literal) c.self.view_is in
    sym (line-short sought.fold sought.text sought.literal c.args.start c.args.end (omega arith) (omega arith) (omega (arith, size)))

pub returns-clause-line : goal.returns-clause-line
returns-clause-line c =
    let sought : Sought = c.args.self.now in
    let known : Known = c.look_on-self-inside.result in
    let size = ap (λ (s : Sought). length s.literal) c.self.view_is in
    line-holds sought known c.args.start c.args.end c.in-Some.last c.look_on-self-inside.ensures.so
    (omega arith) (omega arith) (omega arith) (omega arith) (omega (arith, size)) c.look_on-self-inside.ensures.settled
