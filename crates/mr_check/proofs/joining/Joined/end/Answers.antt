use Rattle.std.proofs.Common.{get_or, subst, arith}
use Rattle.mr_certform.specs.Walking.{items_left}
use Rattle.mr_check.specs.declared.section.Section.{Section}
use Rattle.mr_check.specs.declared.walk.Walked.{Walked}
use Rattle.mr_check.specs.Claims.{claims_of}
use Rattle.mr_check.specs.Sections.{IsWalked}
use Rattle.mr_check.specs.Walk.{HoldsFor}
use Rattle.mr_check.proofs.SectionLemmas.{joined_end}
use Rattle.mr_check.proofs.joining.Joined.end.Goals as goal

pub returns-in-ToEnd : goal.returns-in-ToEnd
returns-in-ToEnd c k all ss walked came holds =
    let j = c.args.self.now in
    let w : Walked = c.in_ok-walk.walk.now in
    let on = c.in_ok-walk.ensures in
    let passed : IsWalked k (items_left j.section.walker) w =
    subst (IsWalked k (items_left j.section.walker)) (on.walk w)
    (subst (λ (s : Section). IsWalked k (items_left s.walker) (get_or c.args.walked.now j.walks w)) (came.section j.section) (walked j.walks j.section w on.within)) in
    joined_end k all (items_left j.section.walker) w j.border j.named c.in_ok-walk.named c.in-ToEnd.is passed
    (subst (λ (x : Walked). HoldsFor k (claims_of x.claims)) (on.walk w) (holds j.walks w (omega arith) on.within)) on.border on.named
    (came.joined (λ i d before within. holds i d (omega (arith, before)) within))
