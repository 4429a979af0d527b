use Rattle.std.proofs.Common.{All, sym, subst}
use Rattle.mr_check.specs.Sections.{IsSection}
use Rattle.std.proofs.lemmas.List.Elements.{All-push}
use Rattle.mr_check.proofs.sections.sections_of.Goals as goal

pub loop-group-preserved-in-Continue-branch-2 : goal.loop-group-preserved-in-Continue-branch-2
loop-group-preserved-in-Continue-branch-2 c =
    let all = c.args.walker.now in
    let inv = c.loop-group.invariant in
    record {
      here = c.in-Some.ensures.passed all inv.here;
      sections = subst (All (IsSection all)) (sym c.in_ok-push-2.ensures.items) (All-push (IsSection all) c.loop-group.sections.items c.in-Some.group inv.sections (c.in-Some.ensures.section all inv.here));
    }
