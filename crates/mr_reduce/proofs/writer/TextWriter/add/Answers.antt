use Rattle.std.proofs.Common.{arith, ap, ◌∙◌}
use Rattle.mr_reduce.specs.Writing.{Writer, file_after}
use Rattle.mr_reduce.proofs.WritingLemmas.{writes-more}
use Rattle.mr_reduce.proofs.writer.TextWriter.add.Goals as goal

pub returns-clause-ok : goal.returns-clause-ok
returns-clause-ok c = λ job key values before was.
    let count = ap (λ (w : Writer). w.count) c.self.view_is in
    let next : Writer = record { text = c.self.inside.text; key = c.self.inside.key.now; count = c.saturating_add-self-inside.result; last = c.after-self-inside.result } in
    writes-more job key values before c.args.self.now c.args.out.now.items c.args.value next c.put_value.new.out.items was
    (ap (λ (w : Writer). w.text) c.self.view_is) (ap (λ (w : Writer). w.key) c.self.view_is)
    (λ few. omega (arith, few, count, c.saturating_add-self-inside.ensures))
    (c.after-self-inside.ensures ∙ ap (λ (w : Writer). file_after w.last c.args.value) c.self.view_is) c.in_ok-put_value.ensures.ok
