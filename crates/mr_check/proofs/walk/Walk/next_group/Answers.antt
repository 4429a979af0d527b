use Rattle.std.proofs.Common.{◌≡◌, ℕ, List, drop, ap, ◌∙◌}
use Rattle.mr_input.specs.Files.{nth_file}
use Rattle.mr_check.specs.Lines.{told_key}
use Rattle.mr_check.proofs.LineKeyLemmas.{told_more}
use Rattle.mr_check.proofs.walk.Walk.next_group.Goals as goal

pub returns : goal.returns
returns c =
    let outs : List (List ℕ) = c.args.given.now.outputs.now in
    let key : List ℕ = c.in_ok-key.key.now in
    let there = c.in_ok-line.ensures in
    let rest : drop c.args.self.now.outputs.passed (nth_file outs c.partition.result) ≡ c.args.self.now.outputs.rest.now =
    ap (λ (n : ℕ). drop n (nth_file outs c.partition.result)) c.requires.place
    ∙ (ap (λ (p : ℕ). drop c.args.self.now.judging.from (nth_file outs p)) c.partition.ensures ∙ c.requires.left.rest_is) in
    ap told_key there.is
    ∙ told_more (drop c.args.self.now.outputs.passed (nth_file outs c.partition.result)) there.more key (ap told_key rest ∙ c.in_ok-key.ensures)
