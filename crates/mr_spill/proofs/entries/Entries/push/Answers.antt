use Rattle.std.proofs.Common.{ap, ◌∙◌, ◌≡◌, ◌++◌, ◌∷◌, [], List}
use Rattle.std.specs.List.{zip}
use Rattle.mr_bytes.specs.declared.Name.{Name}
use Rattle.mr_bytes.specs.declared.Value.{Value}
use Rattle.mr_spill.specs.Entries.{Entry}
use Rattle.mr_spill.proofs.EntryLemmas.{zip-push}
use Rattle.mr_spill.proofs.entries.Entries.push.Goals as goal

pub returns-clause-ok : goal.returns-clause-ok
returns-clause-ok c =
    let values : List Value = c.self.inside.values in
    let names : List Name = c.self.inside.names.items in
    let names-are : c.push_reserved.new.self.items ≡ names ++ c.args.name ∷ [] =
    c.push_reserved.ensures.items ∙ ap (λ (l : List Name). l ++ c.args.name ∷ []) c.reserve.ensures.items in
    ap (λ (l : List Name). zip c.push.new.self l) names-are
    ∙ ap (λ (l : List Value). zip l (names ++ c.args.name ∷ [])) c.in_ok-push.ensures.ok
    ∙ zip-push values names c.args.value c.args.name c.self.invariant
    ∙ ap (λ (es : List Entry). es ++ (c.args.value, c.args.name) ∷ []) c.self.view_is
