use Rattle.std.proofs.Common.{ℕ, [], ◌∷◌, length, length-append, take, ap, ◌∙◌, sym, arith}
use Rattle.mr_input.specs.Files.{contents}
use Rattle.mr_check.specs.Joined.{joined}
use Rattle.mr_check.proofs.JoinedLemmas.{contents_length, one_more, start_next, nth_contents}
use Rattle.mr_check.proofs.joined.JoinedOutputs.of.Goals as goal

pub invariant_of-result : goal.invariant_of-result
invariant_of-result c =
    let old = c.loop-output.invariant in
    record { one_each = omega (arith, old.count, contents_length c.args.outputs.now); places = old.places }

pub loop-output-preserved : goal.loop-output-preserved
loop-output-preserved c =
    let old = c.loop-output.invariant in
    let vs = c.args.outputs.now in
    let i = c.loop-output.output-index in
    let item = nth_contents vs c.output-item.result i c.loop-output-test.true c.output-item.is in
    record {
      count = omega (arith, old.count, ap length c.in_ok-push.ensures.items, length-append c.loop-output.starts.items (c.loop-output.start ∷ []));
      places = one_more (contents vs) c.loop-output.starts.items c.push.new.self.items c.loop-output.start old.places (old.next ∙ ap (λ (k : ℕ). length (joined (take k (contents vs)))) (sym old.count)) c.in_ok-push.ensures.items;
      next = omega (arith, c.in-Some.ensures, old.next, start_next (contents vs) i (omega (arith, c.loop-output-test.true, contents_length vs)), ap length item, c.len.ensures, c.output-item.result.ok.0);
    }
