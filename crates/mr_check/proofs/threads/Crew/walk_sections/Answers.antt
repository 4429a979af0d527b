use Rattle.std.proofs.Common.{arith}
use Rattle.mr_check.specs.Sections.{AreWalked}
use Rattle.mr_check.specs.Walk.{known}
use Rattle.mr_check.proofs.SectionLemmas.{ok_both}
use Rattle.mr_check.proofs.threads.Crew.walk_sections.Goals as goal

pub returns-clause-walked : goal.returns-clause-walked
returns-clause-walked g c =
    ok_both c.draw_all.result _ _ (λ v. AreWalked (known c.args.given.now) c.args.sections.now v.items)
    (λ v len each i s w less. (each i w (omega (arith, less, len, v.ok))).1 s) c.draw_all.ensures.len c.draw_all.ensures.each
