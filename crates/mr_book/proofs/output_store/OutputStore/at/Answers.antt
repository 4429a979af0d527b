use Rattle.std.proofs.Common.{rules, ℕ, subst, sym, ap, ◌∙◌, List}
use Rattle.std.specs.Prelude.{IsSome}
use Rattle.std.proofs.lemmas.List.Sorted.{answers_always}
use Rattle.std.specs.Ordering.{nat_cmp}
use Rattle.mr_bytes.specs.Lists.{Rises}
use Rattle.mr_book.specs.Stored.{numbers, stored_at, Shelved}
use Rattle.mr_book.proofs.Shelves.{no_gap, found}
use Rattle.mr_book.proofs.output_store.OutputStore.at.Goals as goal

pub unreachable-requires : goal.unreachable-requires
unreachable-requires g c =
    let V : Type 0 = g.row.T.Denot in
    let gap = c.in-Err.ensures.position (λ s. s.0) (answers_always _ _ _ (λ f a r g called. search rules)) in
    let same = sym c.as_slice-outputs.ensures.value in
    let rises = subst (λ (l : List (ℕ × V)). Rises nat_cmp (numbers l)) same c.self.invariant in
    let some = subst (λ (v : Shelved V). IsSome (stored_at v.outputs c.args.number)) (sym c.self.view_is) c.requires in
    no_gap c.as_slice-outputs.result.now c.args.number c.in-Err.field-0 rises gap (subst (λ (l : List (ℕ × V)). IsSome (stored_at l c.args.number)) same some)

pub returns : goal.returns
returns g c =
    let V : Type 0 = g.row.T.Denot in
    let at = c.in-Ok.ensures.position (λ s. s.0) (answers_always _ _ _ (λ f a r g called. search rules)) in
    let same = c.as_slice-outputs.ensures.value in
    let rises = subst (λ (l : List (ℕ × V)). Rises nat_cmp (numbers l)) (sym same) c.self.invariant in
    let is = found c.as_slice-outputs.result.now c.args.number c.in-Ok.at c.index-outputs-at.result rises c.in-Ok.ensures.bound (at c.index-outputs-at.result) c.index-outputs-at.is in
    ap (λ (v : Shelved V). stored_at v.outputs c.args.number) (sym c.self.view_is) ∙ (ap (λ (l : List (ℕ × V)). stored_at l c.args.number) (sym same) ∙ is)
