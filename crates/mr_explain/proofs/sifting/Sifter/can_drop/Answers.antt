use Rattle.std.proofs.Common.{◌≡◌, ℕ, List, Bool, true, false, not, ap, sym, ◌∙◌, refl}
use Rattle.std.proofs.lemmas.Bool.{false≢true, le-ltb}
use Rattle.mr_jobs.specs.Literal.{holds}
use Rattle.mr_explain.proofs.TakingLemmas.{all-lack}
use Rattle.mr_explain.proofs.sifting.Sifter.can_drop.Goals as goal
use Rattle.mr_explain.proofs.sifting.Sifter.can_drop.Goals.{then-len-saturating_sub, else-len-saturating_sub}

not-true : (t : Bool) → not t ≡ true → t ≡ false
not-true true h = absurd (false≢true h)
not-true false h = refl

pub returns-then-not-is_in-clause-record : goal.returns-then-not-is_in-clause-record
returns-then-not-is_in-clause-record c h =
    let s = c.args.self.now in
    elim c.if-len-saturating_sub.branch [
      | then-len-saturating_sub w ↦
          all-lack s.needle.fold s.needle.literal.now s.rest.items
          (sym (w.is_in.ensures ∙ ap (λ (l : List ℕ). holds s.needle.fold l s.needle.literal.now) c.as_slice-rest.ensures.value)
          ∙ not-true w.is_in.result (sym w.value-is ∙ c.if-not-is_in.true))
      | else-len-saturating_sub w ↦
          absurd (false≢true (sym (le-ltb c.len.result c.saturating_sub.result w.if-len-saturating_sub.false) ∙ sym w.value-is ∙ c.if-not-is_in.true))
    ]

pub returns-then-not-is_in-clause-others : goal.returns-then-not-is_in-clause-others
returns-then-not-is_in-clause-others c h =
    let s = c.args.self.now in
    all-lack s.needle.fold s.needle.literal.now c.args.others.now (sym c.is_in-then-not-is_in.ensures ∙ not-true c.is_in-then-not-is_in.result h)
