use Rattle.std.proofs.Common.{◌≡◌, ◌<◌, ◌-◌, ℕ, List, drop, length, ap, ◌∙◌, sym, subst, arith, length-drop}
use Rattle.std.proofs.lemmas.List.{take_all}
use Rattle.mr_input.specs.Files.{contents, nth_file}
use Rattle.mr_lanes.specs.Bits.{Extends}
use Rattle.mr_check.specs.Joined.{joined}
use Rattle.mr_check.proofs.JoinedLemmas.{rest_begins, contents_length, start_here, item_here}
use Rattle.mr_check.proofs.joined.JoinedOutputs.rest_at.Goals as goal

pub returns-in-Some : goal.returns-in-Some
returns-in-Some c =
    let vs = c.self.inside.outputs.now in
    let p = c.output_at.result in
    let output : List ℕ = c.as_slice-2.result.now in
    let n : ℕ = c.args.line - c.index-start.result.now in
    let got = c.in-Some.ensures.lookup.0 in
    let h : p < length vs = omega (arith, contents_length vs, ap length c.self.view_is) in
    let here : nth_file (contents vs) p ≡ output = item_here vs c.index-self-p.result p output h c.index-self-p.is c.as_slice-2.ensures.value in
    let is : drop n (nth_file (contents vs) p) ≡ c.in-Some.rest.now =
    ap (drop n) here ∙ (sym (take_all (length output - n) (drop n output) (omega (arith, length-drop n output))) ∙ sym got.2) in
    subst (λ (rest : List ℕ). Extends rest (drop c.args.line (joined c.args.self.now))) is
    (subst (λ (os : List (List ℕ)). Extends (drop n (nth_file (contents vs) p)) (drop c.args.line (joined os))) c.self.view_is
    (rest_begins (contents vs) c.self.inside.starts.items p c.index-start.result.now c.args.line c.self.invariant (omega (arith, h, contents_length vs))
    (start_here (contents vs) c.self.inside.starts.items p c.index-start.result.now c.self.invariant (omega (arith, h, contents_length vs)) c.index-start.ensures)
    c.if-start-line.false (omega (arith, ap length here, got.0))))
