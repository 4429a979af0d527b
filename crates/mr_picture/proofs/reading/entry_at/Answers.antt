use Rattle.std.proofs.Common.{Some, ap}
use Rattle.mr_core.specs.declared.event.Event.{Event}
use Rattle.mr_core.specs.declared.event.Reply.{Reply}
use Rattle.mr_picture.proofs.ReadingLemmas.{parts-none, parts-one}
use Rattle.mr_picture.proofs.reading.entry_at.Goals as goal

pub returns-in_default-clause-only : goal.returns-in_default-clause-only
returns-in_default-clause-only c = λ e more small f. absurd (parts-none c.args.text.now c.in_default.ensures.value e more small f)

pub returns-clause-only : goal.returns-clause-only
returns-clause-only c = λ e more small f.
    ap (λ (v : Event × Reply). Some v)
    (parts-one c.args.text.now c.in-Some.event c.in-Some.answer c.in-Some.left_out.now c.in_ok-skips.skips.items c.in-Some.ensures.value c.in_ok-skips.ensures.only e more small f)
