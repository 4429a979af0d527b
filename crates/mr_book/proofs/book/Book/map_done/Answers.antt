use Rattle.std.proofs.Common.{ap, ◌∙◌, length, ◌++◌, ◌∷◌, []}
use Rattle.std.specs.Arc.{arc_value}
use Rattle.mr_core.specs.declared.event.Event.{Event}
use Rattle.mr_book.specs.Stored.{stored_by}
use Rattle.mr_book.proofs.Histories.{Events, next_map, takes_map}
use Rattle.mr_book.proofs.book.Book.map_done.Goals as goal

pub store-requires-clause-rises : goal.store-requires-clause-rises
store-requires-clause-rises g c =
    let inside = c.self.inside in
    let old = c.self.invariant in
    let len = c.len-number.ensures ∙ ap length c.reserve.ensures.history in
    next_map inside.log.history inside.maps.outputs c.reserve-else-is_err.new.self.outputs c.len-number.result old.numbered old.maps c.reserve-else-is_err.ensures.same len

pub invariant_of-self-2 : goal.invariant_of-self-2
invariant_of-self-2 g c =
    let inside = c.self.inside in
    let n = c.len-number.result in
    let v = arc_value c.in_ok-output.output in
    let r = c.in-Ok.reply in
    let same = c.reserve.ensures.history in
    let len = c.len-number.ensures ∙ ap length same in
    let entry = c.in-Ok.ensures.history ∙ ap (λ (h : Events). h ++ (Event.MapDone c.args.attempt n, r) ∷ []) same in
    let stored = c.store.ensures ∙ ap (λ l. stored_by l n v r) c.reserve-else-is_err.ensures.same in
    takes_map inside.log.history inside.maps.outputs inside.reduces.outputs c.self.invariant c.args.attempt n v r c.enter.new.self.history c.store.new.self.outputs len entry stored
