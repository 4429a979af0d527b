use denote.Ref.{Bor}
use Rattle.std.proofs.Common.{◌≡◌, ℕ, ◌+◌, List, [], ◌∷◌, ◌++◌, take, ap, sym, ◌∙◌, subst, arith}
use Rattle.std.proofs.lemmas.List.{flat_map_more, map-append, take_all, take_more}
use Rattle.std.proofs.lemmas.Result.{IfErr-weaker, IfOk-weaker}
use Rattle.std.specs.List.{AllByRecursion}
use Rattle.mr_bytes.specs.Lists.{Rises}
use Rattle.mr_bytes.specs.Pairs.{Triple, pair_order}
use Rattle.mr_group.proofs.ListLemmas.{All-more}
use Rattle.mr_merge.specs.Merged.{NamesDiffer, joined, merged, values_of}
use Rattle.mr_merge.proofs.GatherLemmas.{All-at}
use Rattle.mr_merge.proofs.merged.merge.Goals as goal

pub loop-region-preserved : goal.loop-region-preserved
loop-region-preserved c =
    let rs : List (Bor (List Triple)) = c.args.regions.now in
    let i : ℕ = c.loop-region.region-index in
    let r : Bor (List Triple) = c.region-item.result in
    let before : List (List Triple) = values_of (take i rs) in
    let more : values_of (take (i + 1) rs) ≡ before ++ r.now ∷ [] =
    ap values_of (take_more rs i r (omega arith) ∙ ap (λ (y : Bor (List Triple)). take i rs ++ y ∷ []) (sym c.region-item.is))
    ∙ map-append (λ (y : Bor (List Triple)). y.now) (take i rs) (r ∷ []) in
    record {
      rise = subst (AllByRecursion (Rises pair_order)) (sym more)
          (All-more (Rises pair_order) before r.now c.loop-region.invariant.rise (c.pairs_rise.ensures.0 (cc c.if-not-pairs_rise.false)));
      all = c.in_ok-put_column.ensures ∙ ap (λ (l : List Triple). l ++ r.now) c.loop-region.invariant.all
          ∙ flat_map_more (λ (l : List Triple). l) [] before r.now ∙ ap joined (sym more);
    }

pub returns-then-not-pairs_rise-clause-damaged : goal.returns-then-not-pairs_rise-clause-damaged
returns-then-not-pairs_rise-clause-damaged c = λ told s.
    cc (
      c.pairs_rise.ensures.1 (All-at (Rises pair_order) (λ (r : Bor (List Triple)). r.now) c.args.regions.now c.loop-region.region-index c.region-item.result (omega arith) c.region-item.is s.in_order),
      c.if-not-pairs_rise.true,
    )

pub returns : goal.returns
returns c =
    let whole : take c.loop-region.region-index c.args.regions.now ≡ c.args.regions.now = take_all c.loop-region.region-index c.args.regions.now (omega (arith, c.loop-region-test.false)) in
    let all : c.loop-region.all ≡ joined (values_of c.args.regions.now) = c.loop-region.invariant.all ∙ ap (λ (rs : List (Bor (List Triple))). joined (values_of rs)) whole in
    let rise = subst (λ (rs : List (Bor (List Triple))). AllByRecursion (Rises pair_order) (values_of rs)) whole c.loop-region.invariant.rise in
    record {
      sound = IfOk-weaker c.grouped_by_name.result _ _ (λ g d. record { in_order = rise; names_differ = subst NamesDiffer all d }) c.grouped_by_name.ensures.differ;
      groups = IfOk-weaker c.grouped_by_name.result _ _ (λ g is. is ∙ ap merged all) c.grouped_by_name.ensures.groups;
      damaged = IfErr-weaker c.grouped_by_name.result _ _ (λ e f is s. f is (subst NamesDiffer (sym all) s.names_differ)) c.grouped_by_name.ensures.damaged;
    }
