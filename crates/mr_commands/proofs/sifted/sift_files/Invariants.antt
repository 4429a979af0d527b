use Rattle.std.proofs.Common.{◌+◌, ◌≤◌, ◌^◌, map, take}
use Rattle.mr_explain.specs.Explained.{IsUnwanted}
use Rattle.mr_commands.specs.Sifted.{HasSifted}
use Rattle.mr_commands.proofs.sifted.sift_files.Given as goal

abbrev pub invariant-loop-file : goal.invariant-loop-file
invariant-loop-file g l = record {
  sifted : HasSifted (g.S.Store.holds l.store) (IsUnwanted l.request.job l.wanted) l.request.split l.most (take l.file (map (λ s. s.now) l.names)) l.files;
  small : l.files.splits + l.files.left ≤ 2 ^ 30;
}
