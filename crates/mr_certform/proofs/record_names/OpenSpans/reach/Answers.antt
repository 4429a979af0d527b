use Rattle.std.proofs.Common.{sym, subst, ap, ◌∙◌, List}
use Rattle.mr_certform.specs.Packed.{AreOpen, span_under}
use Rattle.mr_certform.specs.declared.record_names.NameSpan.{NameSpan}
use Rattle.mr_certform.proofs.Packed.{open_pushed, pushed_before}
use Rattle.mr_certform.proofs.record_names.OpenSpans.reach.Goals as goal

pub returns-in_ok-push-clause-valid : goal.returns-in_ok-push-clause-valid
returns-in_ok-push-clause-valid c =
    subst (λ (l : List NameSpan). AreOpen l c.args.span c.args.span.first) (sym c.in_ok-push.ensures.items)
    (open_pushed c.args.self.now.spans.items c.args.self.now.last c.args.span c.requires.valid)

pub returns-in_ok-push-clause-before : goal.returns-in_ok-push-clause-before
returns-in_ok-push-clause-before c n h =
    ap (λ (l : List NameSpan). span_under l n) c.in_ok-push.ensures.items ∙ pushed_before c.args.self.now.spans.items c.args.span n h
