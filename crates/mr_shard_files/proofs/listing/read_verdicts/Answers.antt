use Rattle.std.proofs.Common.{◌≡◌, ◌+◌, ◌∷◌, ◌++◌, [], map, take, rules}
use Rattle.std.proofs.lemmas.Result.{err_from_is_err_and}
use Rattle.mr_files.proofs.Lists.{names_more}
use Rattle.mr_shard_files.proofs.PartLemmas.{heard_next, unheard_at}
use Rattle.mr_shard_files.proofs.listing.read_verdicts.Goals as goal

pub returns-in_err-verdict-clause-err : goal.returns-in_err-verdict-clause-err
returns-in_err-verdict-clause-err g c =
    let p = err_from_is_err_and c.from_residual.result c.from_residual.ensures.1 in
    rw p.1 (rw p.2 (unheard_at (λ s. s.now) (g.S.Store.holds c.args.store.now) (g.S.Store.unreadable c.args.store.now) c.args.names.now c.loop-shard.shard _ c.loop-shard.verdicts.items c.in_err-verdict.field-0.0 c.loop-shard-test.true c.loop-shard.invariant c.in_err-verdict.ensures.err))

pub loop-shard-preserved : goal.loop-shard-preserved
loop-shard-preserved g c =
    let i = c.loop-shard.shard in
    let names = c.args.names.now in
    let pushed : c.push.new.self.items ≡ c.loop-shard.verdicts.items ++ c.in_ok-verdict.verdict ∷ [] = search rules in
    heard_next (g.S.Store.holds c.args.store.now) (map (λ s. s.now) (take i names)) (map (λ s. s.now) (take (i + 1) names)) _ c.loop-shard.verdicts.items c.push.new.self.items c.in_ok-verdict.verdict
    (names_more (λ s. s.now) names i _ c.loop-shard-test.true) pushed c.loop-shard.invariant c.in_ok-verdict.ensures.ok
