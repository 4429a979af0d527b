use Rattle.std.proofs.Common.{◌+◌, ◌-◌, ◌∙◌, refl, arith}
use Rattle.mr_certform.specs.declared.grammar_state.Item.{Item}
use Rattle.mr_verdict.specs.Steps.{Known}
use Rattle.mr_check.specs.Claims.{claims_of}
use Rattle.mr_check.specs.Walk.{known}
use Rattle.mr_judge.proofs.PartLemmas.{less_room}
use Rattle.mr_check.proofs.WalkLemmas.{border_room, going_first, going_next}
use Rattle.mr_check.proofs.walk.Walk.take_some.Goals as goal

pub loop-left-init : goal.loop-left-init
loop-left-init g c =
    let k : Known = known c.args.given.now in
    let gives = g.I.ItemSource.gives in
    record {
      windows = refl;
      left = omega arith;
      sound = c.requires.sound;
      few = omega arith;
      stands = c.requires.stands;
      room = border_room c.requires.begins.0 c.args.self.now.judging (g.I.ItemSource.most c.args.items.now) c.requires.begins.1.0 c.requires.begins.1.1 c.requires.few;
      going = going_first (gives c.args.items.now) k (claims_of c.args.self.now.claims) c.args.self.now.judging (c.args.most - c.args.most) (omega arith);
    }

pub loop-left-preserved : goal.loop-left-preserved
loop-left-preserved g c =
    let k : Known = known c.args.given.now in
    let gives = g.I.ItemSource.gives in
    let inv = c.loop-left.invariant in
    let item : Item = c.in-Ok.item in
    let taken = c.take.ensures.taken c.if-not-take.false in
    record {
      windows = c.take.ensures.windows ∙ inv.windows;
      left = omega (arith, inv.left);
      sound = c.in-Ok.ensures.sound;
      few = omega (arith, c.in-Ok.ensures.fewer c.in_default-item.not-End, inv.few);
      stands = c.take.ensures.stands c.if-not-take.false;
      room = taken.room (g.I.ItemSource.most c.next_item.new.self) 9223372041149743104
          (less_room c.loop-left.self.judging (g.I.ItemSource.most c.next_item.new.self + 1) (g.I.ItemSource.most c.loop-left.items) 9223372041149743104 (omega (arith, c.in-Ok.ensures.fewer c.in_default-item.not-End)) inv.room);
      going = going_next (gives c.args.items.now) (gives c.loop-left.items) (gives c.next_item.new.self) k (claims_of c.loop-left.self.claims) (claims_of c.take.new.self.claims) c.args.self.now.judging c.loop-left.self.judging c.take.new.self.judging (c.args.most - c.loop-left.left) (c.args.most - (c.loop-left.left - 1)) item
          c.in_default-item.not-End inv.going c.in-Ok.ensures.took taken.kept (omega (arith, inv.left, c.loop-left-test.true)) taken.passed;
    }
