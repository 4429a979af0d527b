use Rattle.std.proofs.Common.{◌<◌, ap, sym, ◌∙◌, arith}
use Rattle.mr_core.specs.Core.{CoreView}
use Rattle.mr_core.specs.Looks.{committed_of}
use Rattle.mr_book.proofs.Assemblies.{commit_is, none_missing}
use Rattle.mr_book.proofs.StoredLaws.{commit_stored}
use Rattle.mr_book.proofs.book.Book.committed.Goals as goal

pub unreachable-requires : goal.unreachable-requires
unreachable-requires g c =
    let k = c.core-core.result.now in
    let same = c.core-core.ensures.core in
    let within : c.args.partition < k.shape.parts = omega (arith, c.requires.partition, ap (λ (v : CoreView). v.shape.parts) same) in
    none_missing k.shape c.args.self.now.history k.state c.limits-limits.ensures.within.attempts.0 c.core-core.ensures.run.0
    (ap (λ (v : CoreView). v.state.end) same ∙ c.requires.done) c.args.partition within (sym c.committed.ensures ∙ c.in_default.is)

pub reduce_output-requires : goal.reduce_output-requires
reduce_output-requires g c =
    let k = c.core-core.result.now in
    commit_stored k.shape c.args.self.now.history k.state c.args.self.now.reduces c.core-core.ensures.run.0 c.shape-shape.ensures.kept.stored.reduces
    c.args.partition c.in-Some.number (sym c.committed.ensures ∙ c.in-Some.is)

pub returns : goal.returns
returns g c =
    let b = c.args.self.now in
    let p = c.args.partition in
    commit_is b.state b.reduces p c.in-Some.number c.reduce_output.result.now
    (ap (λ (v : CoreView). committed_of v.state p) (sym c.core-core.ensures.core) ∙ (sym c.committed.ensures ∙ c.in-Some.is)) c.reduce_output.ensures
