use Rattle.std.proofs.Common.{inl, refl}
use Rattle.std.proofs.lemmas.Result.{err_from_is_err_and}
use Rattle.mr_shard_files.specs.declared.fault.ShardFault.TheVariants.{OutOfMemory}
use Rattle.mr_commands.proofs.verifying.verify.Goals as goal

pub returns-in_err-room-clause-refused : goal.returns-in_err-room-clause-refused
returns-in_err-room-clause-refused g c =
    let p = err_from_is_err_and c.from_residual.result c.from_residual.ensures.1 in
    rw p.1 (OutOfMemory, p.2, inl refl)
