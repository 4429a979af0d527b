use Rattle.std.proofs.Common.{◌≡◌, ◌+◌, ◌-◌, ◌^◌, [], Ok, Err, length, refl, ap, sym, subst, ◌∙◌, inl, inr, arith}
use Rattle.std.specs.Prelude.{nat_le}
use Rattle.std.proofs.lemmas.Result.{err_from_is_err_and}
use Rattle.mr_certform.specs.declared.grammar_state.Item.{Item}
use Rattle.mr_certform.specs.declared.grammar_state.Item.TheVariants.{End}
use Rattle.mr_verdict.specs.declared.answers.No.{No}
use Rattle.mr_verdict.specs.declared.answers.No.TheVariants.{Unnamed}
use Rattle.mr_verdict.specs.declared.items.JudgeError.TheVariants.{Fault}
use Rattle.mr_verdict.specs.Verdict.{Reached, passes, tests, after}
use Rattle.mr_verdict.specs.Steps.{Answers, Ground, opens, subject_with}
use Rattle.mr_verdict.specs.Items.{Took, stop_of}
use Rattle.mr_judge.specs.Outputs.{Through, JudgesOn}
use Rattle.mr_judge.specs.Borders.{begun_at, ground_of}
use Rattle.mr_judge.proofs.PartLemmas.{less_room, one_entry}
use Rattle.mr_judge.proofs.OutputLemmas.{through_all, fits_on}
use Rattle.mr_judge.proofs.JudgedRows.{tested_by_row}
use Rattle.mr_judge.proofs.JudgingLemmas.{Judging, no_item, item_fault, item_ended, opens_next, going_first, going_next, counts_next, judges_all, room_behind}
use Rattle.mr_judge.proofs.parts.check_parts.Goals as goal

pub returns-in_err-item-clause-judged : goal.returns-in_err-item-clause-judged
returns-in_err-item-clause-judged g c =
    let b : Ground = ground_of c.args.walk.now in
    let begun : Reached = begun_at c.args.walk.now in
    let gives = g.I.ItemSource.gives in
    let outs = g.O.Outputs.gives in
    let left = outs c.loop-judging.outputs in
    let now = gives c.loop-judging.walker in
    let st = c.loop-judging.judging in
    let inv = c.loop-judging.invariant in
    let looked = c.loop-judging.work.meter.lookups in
    let h = c.in_err-item.field-0.0 in
    let p = err_from_is_err_and c.from_residual.result c.from_residual.ensures.1 in
    rw (p.1, p.2) (judges_all (outs c.args.outputs.now) left (gives c.args.walker.now) now b begun st c.args.work.now.meter.lookups looked looked (Err (stop_of h)) inv.going inv.looked
    (through_all left st (λ os. JudgesOn now (subject_with b os) st looked looked (Err (stop_of h))) inv.some (λ os. no_item now (gives c.next_item.new.self) (subject_with b os) st looked h c.in_err-item.ensures.took c.in_err-item.ensures.some)))

pub returns-in_err-test_named-clause-judged : goal.returns-in_err-test_named-clause-judged
returns-in_err-test_named-clause-judged g c =
    let b : Ground = ground_of c.args.walk.now in
    let begun : Reached = begun_at c.args.walk.now in
    let gives = g.I.ItemSource.gives in
    let outs = g.O.Outputs.gives in
    let left = outs c.loop-judging.outputs in
    let now = gives c.loop-judging.walker in
    let st : Reached = c.loop-judging.judging in
    let inv = c.loop-judging.invariant in
    let looked = c.loop-judging.work.meter.lookups in
    let e : No = c.in_err-test_named.field-0.0 in
    let p = err_from_is_err_and c.from_residual-in_err-test_named.result c.from_residual-in_err-test_named.ensures.1 in
    let told : Answers (passes (nat_le (length b.triples) st.named) (Unnamed (length b.triples) st.named)) e =
    rw (c.total-in-End.ensures, c.named-named.ensures) at c.in_err-test_named.ensures in
    let took = subst (λ (i : Item). Took now (gives c.next_item.new.self) (Ok i)) c.in-End.is c.in_ok-item.ensures.took in
    rw (p.1, p.2) (judges_all (outs c.args.outputs.now) left (gives c.args.walker.now) now b begun st c.args.work.now.meter.lookups looked looked (Err (Fault e)) inv.going inv.looked
    (item_fault left left now (gives c.next_item.new.self) b st st (λ os. st) looked looked End (Fault e) inv.some took c.in_ok-item.ensures.some (omega arith)
    (through_all left st (λ os. Answers (tests (subject_with b os) st End) e) inv.some (λ os. told))))

pub returns-in-End-clause-judged : goal.returns-in-End-clause-judged
returns-in-End-clause-judged g c =
    let b : Ground = ground_of c.args.walk.now in
    let begun : Reached = begun_at c.args.walk.now in
    let gives = g.I.ItemSource.gives in
    let outs = g.O.Outputs.gives in
    let ahead = outs c.args.outputs.now in
    let left = outs c.loop-judging.outputs in
    let old = gives c.args.walker.now in
    let now = gives c.loop-judging.walker in
    let next = gives c.next_item.new.self in
    let st : Reached = c.loop-judging.judging in
    let inv = c.loop-judging.invariant in
    let before = c.args.work.now.meter.lookups in
    let looked = c.loop-judging.work.meter.lookups in
    let none : passes (nat_le (length b.triples) st.named) (Unnamed (length b.triples) st.named) ≡ [] =
    rw (c.total-in-End.ensures, c.named-named.ensures) at c.in_ok-test_named.ensures in
    let took = subst (λ (i : Item). Took now next (Ok i)) c.in-End.is c.in_ok-item.ensures.took in
    let all = judges_all ahead left old now b begun st before looked looked (Ok st.named) inv.going inv.looked
    (through_all left st (λ os. JudgesOn now (subject_with b os) st looked looked (Ok st.named)) inv.some (λ os. item_ended now next (subject_with b os) st looked took c.in_ok-item.ensures.some none)) in
    subst (λ n. Through ahead begun (λ os. JudgesOn old (subject_with b os) begun before looked (Ok n))) (sym c.named-named.ensures) all

pub returns-in_err-step-clause-judged : goal.returns-in_err-step-clause-judged
returns-in_err-step-clause-judged g c =
    let b : Ground = ground_of c.args.walk.now in
    let begun : Reached = begun_at c.args.walk.now in
    let gives = g.I.ItemSource.gives in
    let outs = g.O.Outputs.gives in
    let left = outs c.loop-judging.outputs in
    let new = outs c.step.new.outputs in
    let now = gives c.loop-judging.walker in
    let next = gives c.next_item.new.self in
    let st = c.loop-judging.judging in
    let last = c.step.new.self in
    let inv = c.loop-judging.invariant in
    let looked = c.loop-judging.work.meter.lookups in
    let behind = c.look_up-row.new.meter.lookups in
    let row = c.look_up-row.ensures in
    let item = c.in_ok-item.item in
    let e = c.in_err-step.field-0.0 in
    let p = err_from_is_err_and c.from_residual-in_err-step.result c.from_residual-in_err-step.ensures.1 in
    let tested = tested_by_row b left new st last c.look_up-row.result item (Err e) row.found row.item c.in_default.not-End c.in_err-step.ensures.tested in
    rw (p.1, p.2) (judges_all (outs c.args.outputs.now) left (gives c.args.walker.now) now b begun st c.args.work.now.meter.lookups looked behind (Err e) inv.going inv.looked
    (item_fault left new now next b st last (λ os. after (subject_with b os) st item) looked behind item e inv.some c.in_ok-item.ensures.took c.in_ok-item.ensures.some row.lookups tested))

pub loop-judging-preserved : goal.loop-judging-preserved
loop-judging-preserved g c =
    let b : Ground = ground_of c.args.walk.now in
    let begun : Reached = begun_at c.args.walk.now in
    let gives = g.I.ItemSource.gives in
    let outs = g.O.Outputs.gives in
    let ahead = outs c.args.outputs.now in
    let left = outs c.loop-judging.outputs in
    let new = outs c.step.new.outputs in
    let old = gives c.args.walker.now in
    let now = gives c.loop-judging.walker in
    let next = gives c.next_item.new.self in
    let most = g.I.ItemSource.most in
    let st = c.loop-judging.judging in
    let last = c.step.new.self in
    let inv = c.loop-judging.invariant in
    let item = c.in_ok-item.item in
    let came = c.in_ok-item.ensures in
    let other = c.in_default.not-End in
    let row = c.look_up-row.ensures in
    let told = c.in_ok-step.ensures in
    let u = c.in_ok-step.field-0 in
    let tested = tested_by_row b left new st last c.look_up-row.result item (Ok u) row.found row.item other told.tested in
    let fits = fits_on ahead left begun st (λ os. Judging old now (subject_with b os) begun st) inv.going c.requires.fits in
    let counts = counts_next left new b st last item u told.some fits tested in
    record {
      going = going_next ahead left new old now next b begun st last item u inv.going came.took other tested;
      given = came.some;
      some = told.some;
      place = told.place;
      begun = inr (elim inv.begun [
        | inl d ↦ told.opens (ap opens row.item ∙ opens_next now next item d came.took came.some other)
        | inr d ↦ told.begun d
      ]);
      sound = came.sound;
      count = came.halts ∙ inv.count;
      failed = told.halts ∙ inv.failed;
      room = counts.1 (most c.next_item.new.self) (2 ^ 64 - 1) (less_room st (most c.next_item.new.self + 1) (most c.loop-judging.walker) (2 ^ 64 - 1) (let fewer = came.fewer other in omega (arith, fewer)) inv.room);
      few = (let fewer = came.fewer other in omega (arith, fewer, row.lookups, inv.few, one_entry item));
      looked = record { more = omega (arith, counts.0, inv.looked.more); each = omega (arith, counts.0, row.lookups, inv.looked.each) };
      mapped = row.mapped ∙ inv.mapped;
    }

pub loop-judging-init : goal.loop-judging-init
loop-judging-init g c =
    let e = c.resume-judging.ensures in
    record {
      going = going_first (g.O.Outputs.gives c.args.outputs.now) (g.I.ItemSource.gives c.args.walker.now) (ground_of c.args.walk.now) (begun_at c.args.walk.now) c.resume-judging.result e;
      given = c.requires.some;
      some = c.requires.outputs;
      place = c.requires.place ∙ sym (ap (λ (w : Reached). w.from) e);
      begun = c.requires.begins;
      sound = c.requires.sound;
      count = refl;
      failed = refl;
      room = room_behind c.args.walk.now.border c.args.walk.now.named (g.I.ItemSource.most c.args.walker.now) c.resume-judging.result c.requires.small c.requires.named c.requires.few e;
      few = omega arith;
      looked = record { more = omega (arith, ap (λ (w : Reached). w.named) e); each = omega (arith, ap (λ (w : Reached). w.named) e) };
      mapped = refl;
    }
