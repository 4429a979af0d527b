use Rattle.std.proofs.Common.{arith, ap, ◌∙◌, ◌≡◌, length}
use Rattle.mr_splits.specs.Cut.{Cut, records_of}
use Rattle.mr_splits.proofs.ReadLemmas.{count-is}
use Rattle.mr_splits.proofs.CountLemmas.{few-records}
use Rattle.mr_splits.proofs.plan.Plan.count.Goals as goal

pub returns-clause-count : goal.returns-clause-count
returns-clause-count c =
    let p = c.self.inside in
    let all : c.len.result ≡ length p.table.ends.items = omega (arith, c.len.ensures, p.table.ends.ok.0) in
    all ∙ count-is p.size p.input.now p.table.ends.items p.table.rows.items c.self.invariant.stands c.self.invariant.all
    ∙ ap (λ (v : Cut). length (records_of v)) c.self.view_is

pub returns-clause-few : goal.returns-clause-few
returns-clause-few c =
    let p = c.self.inside in
    omega (
      arith,
      c.len.ensures,
      p.table.ends.ok.0,
      count-is p.size p.input.now p.table.ends.items p.table.rows.items c.self.invariant.stands c.self.invariant.all,
      few-records p.size p.input.now,
      c.files-files.ensures.small,
    )
