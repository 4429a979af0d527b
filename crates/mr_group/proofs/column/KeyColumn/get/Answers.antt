use Rattle.std.proofs.Common.{◌≡◌, ◌<◌, ℕ, List, [], length, get_or, arith, ap, sym, subst, ◌∙◌}
use Rattle.std.proofs.lemmas.List.{get_or_default, get_or-map, length-map}
use Rattle.std.proofs.lemmas.List.Elements.{All-get_or}
use Rattle.mr_group.specs.Interner.{key_at}
use Rattle.mr_group.proofs.column.KeyColumn.get.Goals as goal

pub index-requires : goal.index-requires
index-requires c =
    let n = c.self.inside in
    omega (arith, n.numbers.ok.0, c.requires, ap length c.self.view_is, length-map n.numbers.items (key_at n.keys))

pub get-requires : goal.get-requires
get-requires c =
    let n = c.self.inside in
    let few : c.args.i < length n.numbers.items = omega (arith, c.requires, ap length c.self.view_is, length-map n.numbers.items (key_at n.keys)) in
    subst (λ (j : ℕ). j < length n.keys) (sym c.index.ensures)
    (All-get_or (λ j. j < length n.keys) n.numbers.items c.args.i c.index.result.now few c.self.invariant.inside)

pub returns : goal.returns
returns c =
    let n = c.self.inside in
    let few : c.args.i < length n.numbers.items = omega (arith, c.requires, ap length c.self.view_is, length-map n.numbers.items (key_at n.keys)) in
    let number : c.index.result.now ≡ get_or n.numbers.items c.args.i 0 = c.index.ensures ∙ get_or_default n.numbers.items c.args.i c.index.result.now 0 few in
    c.get.ensures
    ∙ ap (key_at n.keys) number
    ∙ sym (get_or-map (key_at n.keys) n.numbers.items c.args.i 0 [] few)
    ∙ ap (λ (ks : List (List ℕ)). key_at ks c.args.i) c.self.view_is
