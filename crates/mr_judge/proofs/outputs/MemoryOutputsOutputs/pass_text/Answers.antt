use Rattle.std.proofs.Common.{◌≡◌, ◌+◌, ◌++◌, true, false, length, take, refl, ap, sym, ◌∙◌, arith, length-drop}
use Rattle.std.specs.Prelude.{nat_eq}
use Rattle.std.specs.Cmp.Lexicographic.{pointwise}
use Rattle.std.proofs.lemmas.List.Sums.{common_prefix_len-le}
use Rattle.mr_input.specs.Files.{contents}
use Rattle.mr_judge.proofs.Faults.{starts_not}
use Rattle.mr_judge.proofs.OutputLemmas.{starts_is}
use Rattle.mr_judge.proofs.outputs.MemoryOutputsOutputs.pass_text.Goals as goal

pub returns-then-starts_with-clause-compares : goal.returns-then-starts_with-clause-compares
returns-then-starts_with-clause-compares c =
    let text = c.args.text.now in
    let old = c.args.self.now.rest.now in
    let begins : pointwise nat_eq text (take (length text) old) ≡ true = sym c.starts_with.ensures.value ∙ c.if-starts_with.true in
    (λ rest later e. (ap (λ w. text ++ w) (e.0 ∙ c.behind-self.ensures) ∙ starts_is text old begins, e.1), refl)

pub overflow_add-self-2 : goal.overflow_add-self-2
overflow_add-self-2 c =
    let within = (common_prefix_len-le nat_eq c.args.text.now c.args.self.now.rest.now).1 in
    omega (arith, c.agreement-same.ensures, within, c.args.self.now.few)

pub invariant_of-self-2 : goal.invariant_of-self-2
invariant_of-self-2 c =
    let within = (common_prefix_len-le nat_eq c.args.text.now c.args.self.now.rest.now).1 in
    record { few = omega (arith, c.agreement-same.ensures, within, c.args.self.now.few, ap length c.behind-self-2.ensures, length-drop c.agreement-same.result c.args.self.now.rest.now) }

pub returns-clause-compares : goal.returns-clause-compares
returns-clause-compares c =
    let text = c.args.text.now in
    let old = c.args.self.now.rest.now in
    let differs : pointwise nat_eq text (take (length text) old) ≡ false = sym c.starts_with.ensures.value ∙ c.if-starts_with.false in
    (old, (contents c.args.self.now.later.now, ((refl, refl), (ap (λ n. c.args.self.now.passed + n) c.agreement-same.ensures, starts_not text old differs))))
