use Rattle.std.proofs.Common.{◌≡◌, ◌∙◌, ℕ, ap, arith, inl, inr, map, option_map, subst, sym}
use Rattle.std.proofs.lemmas.Result.{err_from_is_err_and}
use Rattle.std.specs.List.{AllByRecursion}
use Rattle.mr_shards.specs.Joined.{IsNearRange}
use Rattle.mr_shards.specs.Verdict.{Told}
use Rattle.mr_shard_files.specs.Listing.{IsListed}
use Rattle.mr_shard_files.specs.Sharing.{IsShared}
use Rattle.mr_shard_files.proofs.InputLemmas.{near_inputs}
use Rattle.mr_shard_files.proofs.merging.prepare.Goals as goal

pub expect_listed-requires : goal.expect_listed-requires
expect_listed-requires g c =
    subst (AllByRecursion IsNearRange) (sym (c.as_slice.ensures.value ∙ ap (λ (m : Told). m.inputs) c.joined.view_is))
    (near_inputs c.in_ok-request.request c.args.verdicts.now c.in_ok-joined.joined c.in_ok-joined.ensures.ok.joined)

pub returns-in_err-expect_apart-clause-err : goal.returns-in_err-expect_apart-clause-err
returns-in_err-expect_apart-clause-err g c =
    let p = err_from_is_err_and c.from_residual-in_err-expect_apart.result c.from_residual-in_err-expect_apart.ensures.1 in
    let list = option_map (λ n. n.now) c.args.plan.now.list in
    let listed = subst (IsListed (g.S.Store.holds c.args.store.now) list) (c.as_slice.ensures.value ∙ ap (λ (m : Told). m.inputs) c.joined.view_is) c.in_ok-expect_listed.ensures.ok in
    rw p.1 (rw p.2 (inr (inr (c.in_ok-request.request, c.in_ok-request.ensures.ok, inr (c.in_ok-joined.joined, c.in_ok-joined.ensures.ok, inr (listed, inl c.in_err-expect_apart.ensures.err))))))

pub returns-in_err-expect_unshared-clause-err : goal.returns-in_err-expect_unshared-clause-err
returns-in_err-expect_unshared-clause-err g c =
    let p = err_from_is_err_and c.from_residual-in_err-expect_unshared.result c.from_residual-in_err-expect_unshared.ensures.1 in
    let store = c.args.store.now in
    let list = option_map (λ n. n.now) c.args.plan.now.list in
    let names = map (λ s. s.now) c.args.plan.now.names.now in
    let listed = subst (IsListed (g.S.Store.holds store) list) (c.as_slice.ensures.value ∙ ap (λ (m : Told). m.inputs) c.joined.view_is) c.in_ok-expect_listed.ensures.ok in
    let same : c.parts.result ≡ c.in_ok-request.request.parts = omega (arith, c.parts.ensures.same) in
    let shared = subst (λ (parts : ℕ). IsShared (g.S.Store.known_as store) names list c.args.plan.now.out.now parts c.in_err-expect_unshared.field-0.0) same c.in_err-expect_unshared.ensures.err in
    rw p.1 (rw p.2 (inr (inr (c.in_ok-request.request, c.in_ok-request.ensures.ok, inr (c.in_ok-joined.joined, c.in_ok-joined.ensures.ok, inr (listed, inr (c.in_ok-expect_apart.ensures.ok, shared)))))))
