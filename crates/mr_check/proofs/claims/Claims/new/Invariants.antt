use Rattle.std.proofs.Common.{◌≡◌, []}
use Rattle.mr_check.specs.Claims.{claims_in}
use Rattle.mr_check.proofs.claims.Claims.new.Given as goal

abbrev pub invariant-loop-w : goal.invariant-loop-w
invariant-loop-w l = claims_in l.windows.bits l.windows.list l.lists.items ≡ []
