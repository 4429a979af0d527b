use Rattle.std.proofs.Common.{ap, ◌∙◌}
use Rattle.mr_check.specs.Claims.{claims_in}
use Rattle.mr_check.proofs.ClaimLemmas.{none_at_all, none_more}
use Rattle.mr_check.proofs.claims.Claims.new.Goals as goal

pub loop-w-init : goal.loop-w-init
loop-w-init c =
    let ws = c.args.windows.now in
    ap (claims_in ws.bits ws.list) c.in_ok-lists.ensures.items ∙ none_at_all ws.bits ws.list

pub loop-w-preserved : goal.loop-w-preserved
loop-w-preserved c =
    let ws = c.args.windows.now in
    ap (claims_in ws.bits ws.list) c.in_ok-push_empty.ensures ∙ none_more ws.bits ws.list c.loop-w.lists.items c.loop-w.invariant
