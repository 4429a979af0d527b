use Rattle.std.proofs.Common.{◌≡◌, [], map, sym, ◌∙◌, arith}
use Rattle.std.specs.Prelude.{slice_index_or}
use Rattle.std.proofs.lemmas.List.{get_or-map}
use Rattle.mr_commands.proofs.Ends.{clear_so_far}
use Rattle.mr_commands.proofs.judging.first_line_end.Goals as goal

pub loop-at-preserved : goal.loop-at-preserved
loop-at-preserved c =
    let names = c.args.names.now in
    let at = c.loop-at.at in
    let there : slice_index_or (map (λ s. s.now) names) at [] ≡ c.as_bytes.result.now = get_or-map (λ s. s.now) names at _ [] c.loop-at-test.true ∙ sym c.as_bytes.ensures.value in
    clear_so_far (map (λ s. s.now) names) at c.as_bytes.result.now there c.loop-at.invariant c.if-contains.ensures.cases

pub returns : goal.returns
returns c = λ k h. c.loop-at.invariant k (omega arith)
