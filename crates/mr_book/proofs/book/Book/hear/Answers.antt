use Rattle.std.proofs.Common.{ap, ◌∙◌, ◌≡◌, ◌++◌, ◌∷◌, []}
use Rattle.std.proofs.lemmas.Result.{IfOk-weaker, on_err_weaker}
use Rattle.mr_book.specs.Log.{LogView}
use Rattle.mr_book.proofs.Histories.{hears}
use Rattle.mr_book.proofs.book.Book.hear.Goals as goal

pub invariant_of-self-2 : goal.invariant_of-self-2
invariant_of-self-2 g c =
    let inside = c.self.inside in
    let e = c.args.event in
    let same = c.reserve.ensures.history in
    let ok = IfOk-weaker c.enter.result _ (λ r. c.enter.new.self.history ≡ inside.log.history ++ (e, r) ∷ []) (λ r is. is ∙ ap (λ h. h ++ (e, r) ∷ []) same) c.enter.ensures.history in
    let err = on_err_weaker {Q = c.enter.new.self.history ≡ inside.log.history} c.enter.result (λ kept. ap (λ (l : LogView). l.history) kept.0 ∙ same) c.enter.ensures.err in
    hears inside.log.history inside.maps.outputs inside.reduces.outputs c.self.invariant e c.enter.result c.enter.new.self.history c.requires ok err
