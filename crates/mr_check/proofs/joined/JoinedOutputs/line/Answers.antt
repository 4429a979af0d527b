use Rattle.std.proofs.Common.{◌≡◌, ℕ, List, length, drop, ap, subst, arith}
use Rattle.std.specs.Prelude.{IfSome}
use Rattle.mr_input.specs.Files.{contents, nth_file}
use Rattle.mr_lanes.specs.Bits.{Extends}
use Rattle.mr_check.specs.Joined.{joined}
use Rattle.mr_check.proofs.JoinedLemmas.{line_begins, contents_length, start_here, item_here}
use Rattle.mr_check.proofs.joined.JoinedOutputs.line.Goals as goal

pub returns : goal.returns
returns c =
    let vs = c.self.inside.outputs.now in
    let p = c.args.p in
    let here : nth_file (contents vs) p ≡ c.as_slice-output.result.now = item_here vs c.index-self-p.result p c.as_slice-output.result.now (omega arith) c.index-self-p.is c.as_slice-output.ensures.value in
    subst (λ (os : List (List ℕ)). IfSome c.place_behind.result (λ line. Extends (drop c.args.from (nth_file os p)) (drop line (joined os)))) c.self.view_is
    (line_begins (contents vs) c.self.inside.starts.items p c.args.from c.index.result.now c.place_behind.result c.self.invariant (omega (arith, contents_length vs))
    (omega (arith, ap length here)) (start_here (contents vs) c.self.inside.starts.items p c.index.result.now c.self.invariant (omega (arith, contents_length vs)) c.index.ensures)
    c.place_behind.ensures)
