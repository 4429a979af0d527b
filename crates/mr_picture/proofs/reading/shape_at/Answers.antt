use Rattle.std.proofs.Common.{◌∙◌, ◌++◌, List, ℕ, ap, sym}
use Rattle.mr_picture.proofs.ReadingLemmas.{shape-none, shape-other, shape-past}
use Rattle.mr_picture.proofs.reading.shape_at.Goals as goal

pub returns-in_default : goal.returns-in_default
returns-in_default c = shape-none c.args.text.now (sym c.shape_of.ensures ∙ c.in_default.is)

pub returns-then-not-is_in_limits : goal.returns-then-not-is_in_limits
returns-then-not-is_in_limits c =
    shape-other c.args.text.now c.in-Some.shape (sym c.shape_of.ensures ∙ c.in-Some.is) (λ limits. cc (sym c.if-not-is_in_limits.true ∙ c.is_in_limits.ensures.1 limits))

pub returns : goal.returns
returns c =
    shape-past c.args.text.now c.in-Some.shape (sym c.shape_of.ensures ∙ c.in-Some.is)
    (λ more e. c.in-None.ensures more (e ∙ ap (λ (l : List ℕ). l ++ more) (sym (c.as_bytes.ensures.value ∙ c.in_ok-line.ensures))))
