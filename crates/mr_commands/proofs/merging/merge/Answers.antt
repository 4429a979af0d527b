use Rattle.std.proofs.Common.{ℕ, List, ap, inl, map, option_map, refl, subst}
use Rattle.std.proofs.lemmas.Result.{err_from_is_err_and}
use Rattle.mr_shard_files.specs.Faults.{IsShardRefusal}
use Rattle.mr_shard_files.specs.declared.fault.ShardFault.TheVariants.{OutOfMemory}
use Rattle.mr_commands.proofs.merging.merge.Goals as goal

pub returns-in_err-room-clause-refused : goal.returns-in_err-room-clause-refused
returns-in_err-room-clause-refused g c =
    let p = err_from_is_err_and c.from_residual.result c.from_residual.ensures.1 in
    rw p.1 (OutOfMemory, p.2, inl ((λ n b d. (λ h. h, λ h. h)), inl (inl refl)))

pub returns-in_err-joined-clause-refused : goal.returns-in_err-joined-clause-refused
returns-in_err-joined-clause-refused g c =
    let p = err_from_is_err_and c.from_residual-in_err-joined.result c.from_residual-in_err-joined.ensures.1 in
    let holds = g.S.Store.holds in
    let e = c.in_err-joined.field-0.0 in
    let refused = subst (λ (names : List (List ℕ)). IsShardRefusal (holds c.args.store.now) (holds c.merge_shards.new.store) (g.S.Store.unreadable c.args.store.now)
    (g.S.Store.unwritable c.args.store.now) (g.S.Store.alike c.args.store.now) (g.S.Store.known_as c.args.store.now) names (option_map (λ s. s.now) c.args.asked.now.inputs) c.args.asked.now.out.now c.args.asked.now.partial e) (ap (map (λ s. s.now)) c.as_slice.ensures.value) c.in_err-joined.ensures.refused in
    rw p.1 (e, p.2, refused)
