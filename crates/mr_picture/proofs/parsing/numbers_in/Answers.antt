use Rattle.std.proofs.Common.{◌≡◌, List, ℕ, [], ◌∷◌, ◌++◌, refl, subst, sym}
use Rattle.std.specs.List.{AllByRecursion}
use Rattle.mr_picture.specs.Histories.{IsSmall}
use Rattle.mr_picture.proofs.LineLemmas.{next-nothing}
use Rattle.mr_picture.proofs.NumberLemmas.{IsReadOn, read-all, read-more, read-none, small-more}
use Rattle.mr_picture.proofs.parsing.numbers_in.Goals as goal

pub loop-number-init : goal.loop-number-init
loop-number-init c = record {
  small = subst (AllByRecursion IsSmall) (sym c.new-numbers.ensures.items) tt;
  on = subst (λ (done : List ℕ). IsReadOn c.args.text.now done c.args.text.now) (sym c.new-numbers.ensures.items) (read-none c.args.text.now);
}

pub loop-number-preserved : goal.loop-number-preserved
loop-number-preserved c =
    let done : List ℕ = c.loop-number.numbers.items in
    let is : c.push.new.self.items ≡ done ++ c.in-Some.number ∷ [] = c.in_ok-push.ensures.items in
    record {
      small = subst (AllByRecursion IsSmall) (sym is) (small-more done c.in-Some.number c.loop-number.invariant.small c.in-Some.ensures.small);
      on = subst (λ (l : List ℕ). IsReadOn c.args.text.now l c.in-Some.more.now) (sym is)
          (read-more c.args.text.now done c.loop-number.rest.now c.in-Some.number c.in-Some.more.now (next-nothing [] refl) c.loop-number.invariant.on c.in-Some.ensures.value);
    }

pub returns-clause-only : goal.returns-clause-only
returns-clause-only c = λ ns small e. read-all c.args.text.now c.loop-number.numbers.items c.loop-number.rest.now c.loop-number.invariant.on c.in_default.ensures.value ns small e
