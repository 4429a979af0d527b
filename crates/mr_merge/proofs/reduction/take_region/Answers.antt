use Rattle.std.proofs.Common.{◌&&◌, Bool, [], ap, sym, ◌∙◌, subst, true}
use Rattle.mr_spill.specs.declared.cursor.RegionCursor.{RegionCursor}
use Rattle.mr_spill.specs.Cursor.{AreAhead}
use Rattle.mr_merge.proofs.TakingLemmas.{IsNamed, named-end, named-more, named-start}
use Rattle.mr_merge.proofs.reduction.take_region.Goals as goal

pub loop-pair-init : goal.loop-pair-init
loop-pair-init c =
    subst (IsNamed c.args.partition c.args.region.now true c.args.all.now c.args.all.now c.in-Some.cursor) (sym c.clear.ensures)
    (named-start c.args.partition c.args.region.now c.args.all.now c.in-Some.cursor c.bytes.result.now c.split.result c.in-Some.ensures c.bytes.ensures c.split.ensures)

pub loop-pair-preserved-then-in_turn : goal.loop-pair-preserved-then-in_turn
loop-pair-preserved-then-in_turn c =
    let past : Bool = c.in_ok-past.past in
    subst (λ (b : Bool). IsNamed c.args.partition c.args.region.now b c.args.all.now c.take_pair.new.all c.next.new.self c.push.new.self.numbers.items)
    (ap (λ b. b && past) c.if-in_turn.true)
    (subst (IsNamed c.args.partition c.args.region.now (c.loop-pair.in_turn && past) c.args.all.now c.take_pair.new.all c.next.new.self) (sym c.in_ok-push.ensures)
    (named-more c.args.partition c.args.region.now c.loop-pair.in_turn past c.args.all.now c.loop-pair.all c.take_pair.new.all c.loop-pair.cursor c.next.new.self c.in-Some-next.pair
    c.loop-pair.names.numbers.items c.loop-pair.invariant c.in-Some-next.ensures.none c.in-Some-next.ensures.last c.in_ok-past.ensures))

pub loop-pair-preserved : goal.loop-pair-preserved
loop-pair-preserved c =
    let past : Bool = c.in_ok-past.past in
    subst (λ (b : Bool). IsNamed c.args.partition c.args.region.now b c.args.all.now c.take_pair.new.all c.next.new.self c.push.new.self.numbers.items)
    (ap (λ b. b && past) c.if-in_turn.false ∙ sym c.if-in_turn.false)
    (subst (IsNamed c.args.partition c.args.region.now (c.loop-pair.in_turn && past) c.args.all.now c.take_pair.new.all c.next.new.self) (sym c.in_ok-push.ensures)
    (named-more c.args.partition c.args.region.now c.loop-pair.in_turn past c.args.all.now c.loop-pair.all c.take_pair.new.all c.loop-pair.cursor c.next.new.self c.in-Some-next.pair
    c.loop-pair.names.numbers.items c.loop-pair.invariant c.in-Some-next.ensures.none c.in-Some-next.ensures.last c.in_ok-past.ensures))

pub returns-then-in_turn-2 : goal.returns-then-in_turn-2
returns-then-in_turn-2 c =
    named-end c.args.partition c.args.region.now c.loop-pair.in_turn c.differ.result c.args.all.now c.loop-pair.all c.loop-pair.cursor c.loop-pair.names.numbers.items c.loop-pair.invariant
    (subst (λ (r : RegionCursor). AreAhead r []) c.in_default-next.ensures.none.0 (c.is_at_end.ensures.0 c.if-not-is_at_end.false)) (λ h. (c.if-in_turn-2.true, c.differ.ensures h))

pub returns-else-in_turn-2 : goal.returns-else-in_turn-2
returns-else-in_turn-2 c =
    named-end c.args.partition c.args.region.now c.loop-pair.in_turn c.loop-pair.in_turn c.args.all.now c.loop-pair.all c.loop-pair.cursor c.loop-pair.names.numbers.items c.loop-pair.invariant
    (subst (λ (r : RegionCursor). AreAhead r []) c.in_default-next.ensures.none.0 (c.is_at_end.ensures.0 c.if-not-is_at_end.false)) (λ h. absurd (cc (h, c.if-in_turn-2.false)))
