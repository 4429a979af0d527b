use Rattle.std.proofs.Common.{◌≡◌, ℕ, Option, List, Some, refl, ap, sym, ◌∙◌, subst, arith}
use Rattle.mr_core.specs.Master.{Attempt, update_at}
use Rattle.mr_core.specs.Index.{Issued, IsIndexed}
use Rattle.mr_core.proofs.Updates.{update_past, update_is_set}
use Rattle.mr_core.proofs.Indexed.{indexed_fetch}
use Rattle.mr_core.proofs.attempts.Attempts.note_fetch.Goals as goal

pub returns-then-at-len : goal.returns-then-at-len
returns-then-at-len c =
    let past = update_past (λ (t : Attempt). record t { fetched = update_at (λ x. Some c.args.output) c.args.map t.fetched }) c.self.inside.items.items c.args.at (omega arith) in
    sym (ap (λ (v : Issued). let new : Issued = record v { items = update_at (λ (t : Attempt). record t { fetched = update_at (λ x. Some c.args.output) c.args.map t.fetched }) c.args.at v.items } in new) (sym c.self.view_is) ∙ ap (λ (xs : List Attempt). let new : Issued = record { items = xs; maps = Rattle.std.proofs.Common.length c.self.inside.counts.maps; parts = Rattle.std.proofs.Common.length c.self.inside.counts.parts; workers = Rattle.std.proofs.Common.length c.self.inside.current.items } in new) past ∙ c.self.view_is)

pub invariant_of-self : goal.invariant_of-self
invariant_of-self c =
    let set = update_is_set (λ (t : Attempt). record t { fetched = update_at (λ x. Some c.args.output) c.args.map t.fetched }) c.self.inside.items.items c.args.at c.index_mut.result.now c.note_fetch.new.self (omega arith) (c.note_fetch.ensures ∙ ap (λ (q : Attempt). let y : Attempt = record q { fetched = update_at (λ x. Some c.args.output) c.args.map q.fetched } in y) c.index_mut.ensures.value) in
    subst (λ (xs : List Attempt). IsIndexed xs c.self.inside.counts c.self.inside.current.items) (sym set) (indexed_fetch c.self.inside.items.items c.self.inside.counts c.self.inside.current.items c.self.invariant (update_at (λ x. Some c.args.output) c.args.map) c.args.at)

pub returns : goal.returns
returns c =
    let set = update_is_set (λ (t : Attempt). record t { fetched = update_at (λ x. Some c.args.output) c.args.map t.fetched }) c.self.inside.items.items c.args.at c.index_mut.result.now c.note_fetch.new.self (omega arith) (c.note_fetch.ensures ∙ ap (λ (q : Attempt). let y : Attempt = record q { fetched = update_at (λ x. Some c.args.output) c.args.map q.fetched } in y) c.index_mut.ensures.value) in
    ap (λ (xs : List Attempt). let new : Issued = record { items = xs; maps = Rattle.std.proofs.Common.length c.self.inside.counts.maps; parts = Rattle.std.proofs.Common.length c.self.inside.counts.parts; workers = Rattle.std.proofs.Common.length c.self.inside.current.items } in new) set
    ∙ ap (λ (v : Issued). let new : Issued = record v { items = update_at (λ (t : Attempt). record t { fetched = update_at (λ x. Some c.args.output) c.args.map t.fetched }) c.args.at v.items } in new) c.self.view_is
