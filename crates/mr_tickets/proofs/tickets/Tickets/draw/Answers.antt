use Rattle.std.proofs.Common.{◌≡◌, ◌<◌, ℕ, [], ◌∷◌, ◌++◌, Bool, true, sym, ap, ◌∙◌, arith, length, length-append}
use Rattle.std.specs.Prelude.{if◌then◌else◌}
use Rattle.mr_tickets.specs.Drawn.{weigh, past, kept}
use Rattle.mr_tickets.proofs.Sums.{weigh_append, past_here, past_not, kept_in, kept_out}
use Rattle.mr_tickets.proofs.Moves.{draws}
use Rattle.mr_tickets.proofs.tickets.Tickets.draw.Goals as goal

pub fetch_add-found-requires : goal.fetch_add-found-requires
fetch_add-found-requires c =
    let table = c.self.inside.table.shared in
    let mine = c.seat.inside in
    let is = c.seat.invariant in
    let inv = c.self.invariant in
    let limit : mine.limit ≡ table.key.limit = ap (λ v. v.limit) c.seat.view_is ∙ c.requires.1 ∙ sym (ap (λ v. v.limit) c.self.view_is) ∙ sym inv.2 in
    let fresh : weigh (past table.key.limit) mine.seat.me.0.drawn ≡ 0 = ap (λ (n : ℕ). weigh (past n) mine.seat.me.0.drawn) (sym limit) ∙ is.2 ∙ ap (λ (b : Bool). if b then 1 else 0) c.if-seat.false in
    (ap (λ v. v.table) c.seat.view_is ∙ c.requires.0 ∙ sym (ap (λ v. v.table) c.self.view_is), omega (arith, inv.0), draws table.key _ _ _ inv.3 inv.5 (omega (arith, is.1)) fresh)

pub invariant_of-seat : goal.invariant_of-seat
invariant_of-seat c =
    let mine = c.seat.inside in
    let is = c.seat.invariant in
    let e = c.fetch_add-found.ensures.2.0 in
    let x = c.fetch_add-found.result in
    let same : mine.limit ≡ c.self.inside.limit = ap (λ v. v.limit) c.seat.view_is ∙ c.requires.1 ∙ sym (ap (λ v. v.limit) c.self.view_is) in
    let p = past_not mine.limit x (omega (arith, same, c.if-found-self.true)) in
    let a = weigh_append (past mine.limit) mine.seat.me.0.drawn (x ∷ []) in
    (ap (λ m. m.1) e ∙ is.0, ap (λ m. m.0.parts) e ∙ is.1, ap (λ m. weigh (past mine.limit) m.0.drawn) e ∙ omega (arith, a, p) ∙ is.2)

pub invariant_of-seat-else-found-self : goal.invariant_of-seat-else-found-self
invariant_of-seat-else-found-self c =
    let mine = c.seat.inside in
    let is = c.seat.invariant in
    let e = c.fetch_add-found.ensures.2.0 in
    let x = c.fetch_add-found.result in
    let same : mine.limit ≡ c.self.inside.limit = ap (λ v. v.limit) c.seat.view_is ∙ c.requires.1 ∙ sym (ap (λ v. v.limit) c.self.view_is) in
    let p = past_here mine.limit x (omega (arith, same, c.if-found-self.false)) in
    let a = weigh_append (past mine.limit) mine.seat.me.0.drawn (x ∷ []) in
    let none : weigh (past mine.limit) mine.seat.me.0.drawn ≡ 0 = is.2 ∙ ap (λ (b : Bool). if b then 1 else 0) c.if-seat.false in
    (ap (λ m. m.1) e ∙ is.0, ap (λ m. m.0.parts) e ∙ is.1, ap (λ m. weigh (past mine.limit) m.0.drawn) e ∙ omega (arith, a, p, none))

pub returns-then-found-self-clause-some : goal.returns-then-found-self-clause-some
returns-then-found-self-clause-some c =
    let mine = c.seat.inside in
    let v = c.seat.view_is in
    let e = c.fetch_add-found.ensures in
    let x = c.fetch_add-found.result in
    let outer = ap (λ v. v.limit) c.self.view_is in
    let same : mine.limit ≡ c.self.inside.limit = ap (λ v. v.limit) v ∙ c.requires.1 ∙ sym outer in
    let in_range : x < mine.limit = omega (arith, same, c.if-found-self.true) in
    let drawn = ap (λ m. kept mine.limit m.0.drawn) e.2.0 ∙ kept_in mine.limit mine.seat.me.0.drawn x in_range ∙ ap (λ (s : _). s.drawn ++ x ∷ []) v in (
      omega (arith, outer, c.if-found-self.true),
      sym (ap (λ v. v.told) v) ∙ c.if-seat.false,
      (let few = e.2.1 mine.limit in
          let longer = ap length drawn in
          omega (arith, few, longer, length-append c.args.seat.now.drawn (x ∷ []), same, outer)),
      λ i. record { table = (e.0 ∙ ap (λ v. v.table) v) i; limit = (ap (λ v. v.limit) v) i; drawn = drawn i; told = (ap (λ v. v.told) v) i },
    )

pub returns-else-found-self-clause-none : goal.returns-else-found-self-clause-none
returns-else-found-self-clause-none c =
    let mine = c.seat.inside in
    let v = c.seat.view_is in
    let e = c.fetch_add-found.ensures in
    let x = c.fetch_add-found.result in
    let same : mine.limit ≡ c.self.inside.limit = ap (λ v. v.limit) v ∙ c.requires.1 ∙ sym (ap (λ v. v.limit) c.self.view_is) in
    let drawn = ap (λ m. kept mine.limit m.0.drawn) e.2.0 ∙ kept_out mine.limit mine.seat.me.0.drawn x (omega (arith, same, c.if-found-self.false)) ∙ ap (λ v. v.drawn) v in
    λ i. record { table = (e.0 ∙ ap (λ v. v.table) v) i; limit = (ap (λ v. v.limit) v) i; drawn = drawn i; told = true }
