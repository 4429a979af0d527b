use Rattle.std.proofs.Common.{ap, sym, length, ◌∙◌}
use Rattle.mr_records.proofs.EndLemmas.{length-ended}
use Rattle.mr_records.proofs.Records.count.Goals as goal

pub returns-clause-number : goal.returns-clause-number
returns-clause-number c =
    let file = c.self.inside.bytes.now in
    let ends = c.self.inside.ends in
    c.len.ensures ∙ ends.ok.0 ∙ sym (length-ended file 0 ends.items) ∙ ap length c.self.view_is
