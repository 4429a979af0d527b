use Rattle.std.proofs.Common.{◌-◌, ap, sym, ◌∙◌, refl}
use Rattle.std.specs.Ordering.{is_lt}
use Rattle.mr_bytes.specs.Order.{name_order}
use Rattle.mr_bytes.specs.Pairs.{Triple}
use Rattle.mr_verdict.specs.Verdict.{Reached}
use Rattle.mr_judge.proofs.Faults.{within_tests, within_after}
use Rattle.mr_judge.proofs.judge_state.JudgeState.take_within_group.Goals as goal

pub returns : goal.returns
returns c h s =
    let st = c.args.self.now in
    let t : Triple = record { key = st.key; value = c.args.value; name = c.args.name } in (
      within_tests s (st.next - 1) st t c.requires.within.0 c.requires.within.1 refl (sym (ap (λ (w : Reached). is_lt (name_order w.before c.args.name)) c.self.view_is) ∙ (sym c.is_name_less-is_past.ensures ∙ c.if-not-is_past.false)),
      c.in_ok-take_later.ensures ∙ sym (within_after s st t c.requires.within.0 c.requires.within.1),
    )
