use Rattle.std.proofs.Common.{ap, ◌∙◌, length}
use Rattle.std.proofs.lemmas.List.{take_all}
use Rattle.mr_index.specs.Building.{joined}
use Rattle.mr_index.proofs.JoinLemmas.{joined-all, parts-apart}
use Rattle.mr_index.proofs.index.EmissionIndex.join.Goals as goal

pub invariant_of-result : goal.invariant_of-result
invariant_of-result c =
    let r = c.requires in
    record { apart = parts-apart r.job r.cut r.skips c.args.parts.items r.are; count = c.loop-part.invariant.count ∙ ap (λ ps. length (joined ps)) (take_all c.loop-part.part-index c.as_slice-part-items.result.now c.loop-part-test.false ∙ c.as_slice-part-items.ensures.value) }

pub returns : goal.returns
returns c = λ job cut skips are. joined-all job cut skips c.args.parts.items are
