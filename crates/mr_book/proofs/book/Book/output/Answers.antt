use Rattle.std.proofs.Common.{ap, sym, ◌∙◌, ◌≤◌, ℕ, subst, refl, Option}
use Rattle.std.specs.Prelude.{None}
use Rattle.mr_core.specs.declared.event.Shape.{Shape}
use Rattle.mr_book.specs.View.{BookView}
use Rattle.mr_book.specs.Calls.{Shares}
use Rattle.mr_core.specs.Core.{CoreView}
use Rattle.mr_core.specs.Looks.{output_of}
use Rattle.mr_book.proofs.StoredLaws.{none_past, output_stored}
use Rattle.mr_book.proofs.book.Book.output.Goals as goal

pub at-requires : goal.at-requires
at-requires g c =
    let log = c.self.inside.log in
    let is = ap (λ (k : CoreView). output_of k.state c.args.map) (sym c.core-core.ensures.core) ∙ (sym c.output.ensures ∙ c.in-Some.is) in
    output_stored log.core.shape log.history log.core.state c.self.inside.maps.outputs c.core-core.ensures.run.0 c.self.invariant.maps c.args.map c.in-Some.number is

pub returns-then-map-shape : goal.returns-then-map-shape
returns-then-map-shape g c =
    let log = c.self.inside.log in
    let shape = c.shape.ensures ∙ ap (λ (k : CoreView). k.shape) c.core-core.ensures.core in
    let past = subst (λ (s : Shape). s.maps ≤ c.args.map) shape c.if-map-shape.true in
    let none = none_past log.core.shape log.history log.core.state c.core-core.ensures.run.0 c.args.map past in
    subst (λ (v : BookView). Shares v.maps (output_of v.state c.args.map) None) c.self.view_is (subst (λ (o : Option ℕ). Shares c.self.inside.maps.outputs o None) (sym none) refl)
