use Rattle.std.proofs.Common.{◌≡◌, Some, Option, IfSome, sym, ◌∙◌, subst}
use Rattle.mr_bytes.specs.declared.Name.{Name}
use Rattle.mr_bytes.specs.Lists.{Has}
use Rattle.mr_certform.specs.declared.grammar_state.Item.TheVariants.{Entry}
use Rattle.mr_judge.specs.declared.border.FoundItem.{FoundItem}
use Rattle.mr_judge.specs.Rows.{IsFound}
use Rattle.mr_judge.specs.Rows.{row_subject}
use Rattle.mr_judge.proofs.JudgedRows.{row_tests_are, row_after_is}
use Rattle.mr_verdict.specs.Verdict.{Reached}
use Rattle.mr_verdict.specs.Steps.{Known, Ground, Room}
use Rattle.mr_sequential.specs.Good.{named}
use Rattle.mr_check.specs.Claims.{Taken, claims_of}
use Rattle.mr_check.specs.Walk.{IsTold, known}
use Rattle.mr_check.specs.declared.walk.Told.{Told}
use Rattle.mr_check.proofs.WalkLemmas.{row_room, found_right}
use Rattle.mr_check.proofs.walk.Walk.take_entry.Goals as goal

pub returns-clause-taken : goal.returns-clause-taken
returns-clause-taken c h =
    let k : Known = known c.args.given.now in
    let b : Ground = record { request = k.request; triples = k.triples } in
    let st : Reached = c.args.self.now.judging in
    let name : Name = c.args.name in
    let row : FoundItem = record { item = Entry name; found = Some (c.in-Some.told.key, c.in-Some-value_of.value) } in
    let same : c.step_entry.new.self.claims ≡ c.take.new.self = c.step_entry.ensures.claims in
    let off = c.in-Ok-true.ensures.put c.in-Ok-true.field-0-test in
    let tested = c.step_entry.ensures.tested h in
    let told : IsTold k c.in-Some.told = subst (λ (o : Option Told). IfSome o (IsTold k)) c.in-Some.is c.requires.stands.told in
    record {
      kept = λ x there. subst (λ (t : Taken). Has (claims_of t) x) (sym same) (off.kept x there);
      room = λ more all r. subst (λ (w : Reached). Room w more all) (sym tested.1) (row_room (row_subject k.request k.outputs) st row more all r);
      passed = λ holds. (let has = subst (λ (t : Taken). Has (claims_of t) (record { name = name; line = c.in-Some.told.line })) (sym same) off.put in
          let found : IsFound k.triples row = λ n e. (let is : name ≡ n = cc e in
          subst (λ (w : Name). named k.triples w ≡ Some (record { key = c.in-Some.told.key.now; value = c.in-Some-value_of.value; name = w })) is
          (found_right k (claims_of c.step_entry.new.self.claims) name c.in-Some.told c.in-Some-value_of.value told holds has c.in-Some-value_of.ensures)) in
          (sym (row_tests_are b k.outputs st row found (λ e. cc e)) ∙ tested.0, tested.1 ∙ row_after_is b k.outputs st row found));
    }
