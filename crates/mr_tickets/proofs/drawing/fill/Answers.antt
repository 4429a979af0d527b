use Rattle.std.proofs.Common.{◌≡◌, ◌∷◌, ◌++◌, ◌<◌, ℕ, [], ap, arith, sym, ◌∙◌, subst, List, length, length-set}
use Rattle.std.specs.Prelude.{All, Option}
use Rattle.mr_tickets.specs.declared.drawing.Found.{Found}
use Rattle.mr_tickets.specs.Pieces.{numbers_of, AllSlots, AllGiven}
use Rattle.mr_tickets.proofs.Slots.{fills, all_last, all_front}
use Rattle.mr_tickets.proofs.drawing.fill.Goals as goal

-- the last is below the count, as all are
last_within : {X : Type 0} (n : ℕ) (all rest : List (Found X)) (f : Found X) → All (λ (x : Found X). x.piece < n) all → all ≡ rest ++ f ∷ [] → f.piece < n
last_within {X} n all rest f within e = all_last (λ (x : Found X). x.piece < n) rest f (subst (All (λ (x : Found X). x.piece < n)) e within)

pub overflow_sub-count : goal.overflow_sub-count
overflow_sub-count g c = omega (arith, last_within c.args.count _ _ _ c.loop-next.invariant.within c.in-Some.ensures.items)

pub overflow_sub-count-in-Some : goal.overflow_sub-count-in-Some
overflow_sub-count-in-Some g c = omega (arith, last_within c.args.count _ _ _ c.loop-next.invariant.within c.in-Some.ensures.items)

pub put-requires : goal.put-requires
put-requires g c = omega (arith, c.loop-next.invariant.len, last_within c.args.count _ _ _ c.loop-next.invariant.within c.in-Some.ensures.items)

pub loop-next-preserved : goal.loop-next-preserved
loop-next-preserved g c =
    let gives = g.W.WorkPieces.gives c.args.all.now in
    let i = c.loop-next.invariant in
    let e = c.in-Some.ensures.items in
    let rest = c.pop.new.self.items in
    let f = c.in-Some.next in
    let n = c.args.count in
    let slots = c.loop-next.slots in
    let in_range = subst (All (λ (x : Found g.row.W-Out.Denot). x.piece < n)) e i.within in
    let given = subst (AllGiven gives) e i.given in
    let filled = fills gives n slots rest f i.len (all_last (λ (x : Found g.row.W-Out.Denot). x.piece < n) rest f in_range) (all_last (λ (x : Found g.row.W-Out.Denot). gives x.piece x.out) rest f given)
    (subst (λ (l : List (Found g.row.W-Out.Denot)). AllSlots gives (numbers_of l) n slots) e i.filled) in
    record {
      len = ap length c.put.ensures ∙ length-set _ _ _ ∙ i.len;
      within = all_front (λ (x : Found g.row.W-Out.Denot). x.piece < n) rest f in_range;
      given = all_front (λ (x : Found g.row.W-Out.Denot). gives x.piece x.out) rest f given;
      filled = subst (λ (l : List (Option g.row.W-Out.Denot)). AllSlots gives (numbers_of rest) n l) (sym c.put.ensures) filled;
    }
