use Rattle.std.proofs.Common.{◌≡◌, ℕ, ◌<◌, ◌≤◌, ◌++◌, List, [], ◌∷◌, length, map, take, subst, ap, sym, ◌∙◌, arith}
use Rattle.std.proofs.lemmas.List.{map-append, take_more}
use Rattle.std.specs.List.{AllByRecursion}
use Rattle.mr_spill.specs.Groups.{no_group, nth_group}
use Rattle.mr_merge.specs.Merged.{Group}
use Rattle.mr_group.proofs.ListLemmas.{All-more}
use Rattle.mr_task.proofs.output.pair_counts.Goals as goal

pub loop-g-preserved : goal.loop-g-preserved
loop-g-preserved c =
    let gs : List Group = c.args.groups.now in
    let g : ℕ = c.loop-g.g in
    let within : g < length gs = omega (arith, c.loop-g-test.true, c.len-g-end.ensures) in
    let pushed : c.push.new.self.items ≡ c.loop-g.counts.items ++ c.count.result ∷ [] = c.in_ok-push.ensures.items in
    record {
      counts =
          pushed
          ∙ ap (λ (l : List ℕ). l ++ c.count.result ∷ []) c.loop-g.invariant.counts
          ∙ ap (λ (n : ℕ). map (λ (w : Group). length w.pairs) (take g gs) ++ n ∷ []) c.count.ensures.count
          ∙ sym (ap (map (λ (w : Group). length w.pairs)) (take_more gs g no_group within) ∙ map-append (λ (w : Group). length w.pairs) (take g gs) (nth_group gs g ∷ []));
      some = subst (AllByRecursion (λ m. 1 ≤ m)) (sym pushed) (All-more (λ m. 1 ≤ m) c.loop-g.counts.items c.count.result c.loop-g.invariant.some (omega (arith, c.count.ensures.some)));
    }
