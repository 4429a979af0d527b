use Rattle.std.proofs.Common.{sym, ap, subst, ◌∙◌, Bool, true, false, ℕ, List, ◌≡◌, Option, None, Some, is_some}
use Rattle.memchr.specs.Find.{FindsNeedle}
use Rattle.mr_lanes.specs.Find.{FindsFolded}
use Rattle.mr_jobs.specs.Literal.{holds}
use Rattle.mr_jobs.proofs.LiteralLemmas.{holds-agreed, holds-nowhere, holds-found, holds-absent}
use Rattle.mr_explain.proofs.needle.Needle.is_in.Goals as goal

folded : (line literal : List ℕ) (r : Option ℕ) → FindsFolded line literal r → is_some r ≡ holds true line literal
folded line literal None none = sym (holds-nowhere line literal none)
folded line literal (Some at) f = sym (holds-agreed line literal at f.0)

exact : (line literal : List ℕ) (r : Option ℕ) → FindsNeedle line literal 0 r → is_some r ≡ holds false line literal
exact line literal None none = sym (holds-absent line literal none)
exact line literal (Some at) f = sym (holds-found line literal at f.1)

pub returns-then-self : goal.returns-then-self
returns-then-self c =
    let n = c.args.self.now in
    c.is_some.ensures ∙ folded c.args.bytes.now n.literal.now c.find_folded.result c.find_folded.ensures
    ∙ ap (λ (fold : Bool). holds fold c.args.bytes.now n.literal.now) (sym c.if-self.true)

pub returns-else-self : goal.returns-else-self
returns-else-self c =
    let n = c.args.self.now in
    let found : FindsNeedle c.args.bytes.now n.literal.now 0 c.find.result =
    subst (λ (l : List ℕ). FindsNeedle c.args.bytes.now l 0 c.find.result) n.same c.find.ensures in
    c.is_some-else-self.ensures ∙ exact c.args.bytes.now n.literal.now c.find.result found
    ∙ ap (λ (fold : Bool). holds fold c.args.bytes.now n.literal.now) (sym c.if-self.false)
