use Rattle.std.proofs.Common.{◌≡◌, refl, sym, subst}
use Rattle.mr_certform.specs.Walking.{items_left, halt}
use Rattle.mr_check.specs.Sections.{IsWalked}
use Rattle.mr_check.specs.Claims.{Taken}
use Rattle.mr_check.specs.Walk.{known}
use Rattle.mr_check.proofs.SectionLemmas.{walked_from}
use Rattle.mr_check.proofs.threads.walk_section.Goals as goal

pub returns-clause-walked : goal.returns-clause-walked
returns-clause-walked c =
    let k = known c.args.given.now in
    let w = c.args.section.now.walker in
    let now = c.take_some-came.new.items in
    let came = c.take_some-came.new.self in
    subst (IsWalked k (items_left w)) (sym c.end.ensures)
    (subst (λ (taken : Taken). IsWalked k (items_left w) (record { began = c.args.began; most = c.args.most; came = c.take_some-came.result; named = came.judging.named; claims = taken })) (sym c.pack.ensures)
    (walked_from (λ is at. (is ≡ items_left w) × (at ≡ halt w)) (λ is at. (is ≡ items_left now) × (at ≡ halt now)) k (items_left w) (items_left now) (halt now) c.at-walk.result.judging c.args.began c.take_some-came.new.self
    c.args.most c.take_some-came.result (λ l n e. e.0) (refl, refl) c.at-walk.ensures.begins c.take_some-came.ensures.takes))
