use Rattle.std.proofs.Common.{◌+◌, ℕ, List, Bor, BTreeSet, map, take, ap, sym, ◌∙◌, subst}
use Rattle.mr_shards.specs.RangeNotes.{names_of}
use Rattle.mr_shards.proofs.SeenLemmas.{AreSeen, seen-next, seen-same}
use Rattle.mr_shards.proofs.joining.first_repeat.Goals.{else-not-goes_on_at-via-then-not-goes_on_at+in_ok-see+else-not-branch, else-not-goes_on_at-via-else-not-goes_on_at}
use Rattle.mr_shards.proofs.joining.first_repeat.Goals as goal

pub loop-at-preserved : goal.loop-at-preserved
loop-at-preserved c =
    let ns = c.args.ranges.now in
    let i = c.loop-at.at in
    let d = c.index-ranges-at.result in
    elim c.else-not-goes_on_at.branch [
      | else-not-goes_on_at-via-then-not-goes_on_at+in_ok-see+else-not-branch w ↦
          subst (λ (s : BTreeSet (Bor (List ℕ))). AreSeen (map (λ k. k.now) s.keys) (names_of (take (i + 1) ns))) (sym w.seen-is)
          (seen-next ns i d _ _ w.as_slice.result.now c.loop-at-test.true (w.as_slice.ensures.value ∙ ap (λ n. n.name) (c.range.view_is ∙ c.index-ranges-at.is))
          (sym c.goes_on_at.ensures ∙ w.if-not-goes_on_at.true)
          c.loop-at.invariant (w.in_ok-see.ensures.fresh w.if-not-branch.false) w.in_ok-see.ensures.kept)
      | else-not-goes_on_at-via-else-not-goes_on_at w ↦
          subst (λ (s : BTreeSet (Bor (List ℕ))). AreSeen (map (λ k. k.now) s.keys) (names_of (take (i + 1) ns))) (sym w.seen-is)
          (seen-same ns i d _ c.loop-at-test.true (sym c.goes_on_at.ensures ∙ w.if-not-goes_on_at.false) c.loop-at.invariant)
    ]
