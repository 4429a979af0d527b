use Rattle.std.proofs.Common.{◌≡◌, ◌++◌, length, map}
use Rattle.mr_sequential.proofs.source.push_keys.Given as goal

abbrev pub invariant-loop-key : goal.invariant-loop-key
invariant-loop-key l = l.keys ++ map (λ e. e.0) l.left ≡ l.fn.keys ++ map (λ e. e.0) l.fn.pairs

abbrev pub decreases-loop-key : goal.decreases-loop-key
decreases-loop-key l = length l.left
