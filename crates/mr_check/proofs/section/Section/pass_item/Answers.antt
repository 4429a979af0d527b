use Rattle.std.proofs.Common.{◌≡◌, ◌∷◌, drop, ap, sym, ◌∙◌, List}
use Rattle.mr_certform.specs.declared.grammar_state.Item.{Item}
use Rattle.mr_certform.specs.declared.walker.Walker.{Walker}
use Rattle.mr_certform.specs.Walking.{items_left, halt}
use Rattle.mr_check.proofs.SectionLemmas.{goes_on, drop_on}
use Rattle.mr_check.proofs.section.Section.pass_item.Goals as goal

pub returns-clause-item : goal.returns-clause-item
returns-clause-item c =
    goes_on c.in-Ok.item (items_left c.args.self.now.walker) (items_left c.next.new.self) c.in_default-item.not-End c.in-Ok.ensures.item
    ∙ ap (λ (w : Walker). c.in-Ok.item ∷ items_left w) (sym c.note.ensures.walker)

pub returns-clause-passed : goal.returns-clause-passed
returns-clause-passed c all here =
    let is : List Item = items_left c.args.self.now.walker in
    let js : List Item = items_left c.next.new.self in
    let on : is ≡ c.in-Ok.item ∷ js = goes_on c.in-Ok.item is js c.in_default-item.not-End c.in-Ok.ensures.item in
    record {
      left = ap (λ (w : Walker). items_left w) c.note.ensures.walker ∙ (drop_on 1 c.in_ok-self.field-0 c.args.self.now.at is js (items_left all) here.left (ap (drop 1) (sym on)) c.in_ok-self.ensures.1 ∙ ap (λ n. drop n (items_left all)) (sym c.note.ensures.at));
      stop = ap (λ (w : Walker). halt w) c.note.ensures.walker ∙ (c.next.ensures.stop ∙ here.stop);
    }
