use Rattle.std.proofs.Common.{◌≡◌, ◌<◌, ◌+◌, List, get_or, length, sym, ◌∙◌, subst, arith}
use Rattle.std.proofs.lemmas.List.{get_or_default}
use Rattle.mr_certform.specs.Walking.{items_left}
use Rattle.mr_check.specs.declared.section.Section.{Section}
use Rattle.mr_check.specs.declared.walk.Walked.{Walked}
use Rattle.mr_check.specs.Claims.{claims_of}
use Rattle.mr_check.specs.Sections.{IsSection, IsWalked}
use Rattle.mr_check.specs.Walk.{HoldsFor}
use Rattle.mr_check.proofs.SectionLemmas.{joined_next, some_at}
use Rattle.mr_check.proofs.joining.Joined.join_next.Goals as goal

pub returns-clause-came : goal.returns-clause-came
returns-clause-came c k all sections walked came =
    let ss : List Section = c.args.sections.now in
    let ws : List Walked = c.args.walked.now in
    let j = c.args.self.now in
    let w : Walked = c.in_ok-walk.walk.now in
    let next : Section = c.in_ok-next.next.now in
    let on = c.in_ok-walk.ensures in
    let less : j.walks + 1 < length ss = c.in_ok-next.ensures.lookup.3.0 in
    let there : (d : Section) → get_or ss (j.walks + 1) d ≡ next = λ d. get_or_default ss (j.walks + 1) d next less ∙ sym c.in_ok-next.ensures.lookup.1 in
    let this : IsSection all j.section = subst (IsSection all) (came.section j.section) (sections j.walks j.section came.within) in
    let behind : IsSection all next = subst (IsSection all) (there next) (sections (j.walks + 1) next less) in
    let passed : IsWalked k (items_left j.section.walker) w =
    subst (IsWalked k (items_left j.section.walker)) (on.walk w)
    (subst (λ (s : Section). IsWalked k (items_left s.walker) (get_or ws j.walks w)) (came.section j.section) (walked j.walks j.section w on.within)) in
    record {
      within = less;
      section = there;
      joined = λ holds. joined_next k all j.section next w j.border c.in-To.border j.named c.in_ok-walk.named this.here behind (c.if-next-at.false ∙ c.in_ok-at.ensures.1) (some_at next.at c.if-next-eq0.false) c.in-To.is passed
          (subst (λ (x : Walked). HoldsFor k (claims_of x.claims)) (on.walk w) (holds j.walks w (omega arith) on.within)) on.border on.named
          (came.joined (λ i d before within. holds i d (omega (arith, before)) within));
    }
