use Rattle.std.proofs.Common.{ℕ, List, [], subst, sym, arith}
use Rattle.std.proofs.lemmas.List.{get_or-map, length-map, take-map}
use Rattle.mr_files.specs.Folders.{IsFolderOf}
use Rattle.mr_shard_files.specs.Apart.{AreApart}
use Rattle.mr_shard_files.proofs.sharing.expect_apart.Goals as goal

pub returns-then-is_same_folder-clause-err : goal.returns-then-is_same_folder-clause-err
returns-then-is_same_folder-clause-err g c =
    let names = c.args.names.now in
    let shard = c.loop-shard.shard in (
      omega (arith, c.loop-shard-test.true, length-map names (λ s. s.now)),
      subst (λ (l : List (List ℕ)). AreApart l c.args.out.now) (sym (take-map (λ s. s.now) shard names)) c.loop-shard.invariant,
      (c.folder_of.result.now, subst (λ (n : List ℕ). IsFolderOf n c.folder_of.result.now) (sym (get_or-map (λ s. s.now) names shard _ [] c.loop-shard-test.true)) c.folder_of.ensures, c.is_same_folder.ensures.same c.if-is_same_folder.true),
    )
