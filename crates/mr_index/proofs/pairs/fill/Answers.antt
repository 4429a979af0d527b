use Rattle.std.proofs.Common.{arith, ap, sym, ◌∙◌, ◌≡◌, ◌-◌, ◌<◌, ◌≤◌, ◌++◌, ◌∷◌, [], List, ℕ, suc, length, replicate, append_assoc}
use Rattle.std.proofs.lemmas.List.{append-nil, length_push}
use Rattle.mr_index.specs.Pairs.{filled}
use Rattle.mr_index.proofs.pairs.fill.Goals as goal

fill-more : (count end : ℕ) (ends : List ℕ) → length ends < count → filled count end (ends ++ end ∷ []) ≡ filled count end ends
fill-more count end ends h =
    let fewer : count - length ends ≡ suc (count - length (ends ++ end ∷ [])) = omega (arith, h, length_push ends end) in
    append_assoc ends (end ∷ []) (replicate (count - length (ends ++ end ∷ [])) end)
    ∙ ap (λ (k : ℕ). ends ++ replicate k end) (sym fewer)

fill-none : (count end : ℕ) (ends : List ℕ) → count ≤ length ends → filled count end ends ≡ ends
fill-none count end ends h =
    let none : count - length ends ≡ 0 = omega (arith, h) in
    ap (λ (k : ℕ). ends ++ replicate k end) none ∙ append-nil ends

pub loop-ends-preserved : goal.loop-ends-preserved
loop-ends-preserved c =
    ap (filled c.args.count c.args.end) c.in_ok-push_end.ensures
    ∙ fill-more c.args.count c.args.end c.loop-ends.ends.items (omega (arith, c.loop-ends-test.true, c.loop-ends.ends.ok.0))
    ∙ c.loop-ends.invariant

pub loop-ends-smaller : goal.loop-ends-smaller
loop-ends-smaller c =
    omega (
      arith,
      c.loop-ends-test.true,
      c.loop-ends.ends.ok.0,
      ap length c.in_ok-push_end.ensures,
      length_push c.loop-ends.ends.items c.args.end,
    )

pub returns : goal.returns
returns c =
    sym (fill-none c.args.count c.args.end c.loop-ends.ends.items (omega (arith, c.loop-ends-test.false, c.loop-ends.ends.ok.0))) ∙ c.loop-ends.invariant
