use Rattle.std.proofs.Common.{rules, ◌≡◌, ◌++◌, ◌∷◌, [], ◌∙◌, map, ap, sym, string_bytes}
use Rattle.std.proofs.lemmas.List.{map-append}
use Rattle.mr_files.specs.Names.{part_names}
use Rattle.mr_files.proofs.Lists.{parts_more, parts_none}
use Rattle.mr_files.proofs.names.names_of_result.Goals as goal

pub loop-part-init : goal.loop-part-init
loop-part-init c = ap (map string_bytes) c.new-names.ensures.items ∙ sym (parts_none c.args.dir.now)

pub loop-part-preserved : goal.loop-part-preserved
loop-part-preserved c =
    let dir = c.args.dir.now in
    let pushed : c.push.new.self.items ≡ c.loop-part.names.items ++ c.in_ok-name.name ∷ [] = search rules in
    ap (map string_bytes) pushed ∙ (map-append string_bytes c.loop-part.names.items (c.in_ok-name.name ∷ [])
    ∙ (ap (λ v. v ++ string_bytes c.in_ok-name.name ∷ []) c.loop-part.invariant ∙ (ap (λ v. part_names dir c.loop-part.part ++ v ∷ []) c.in_ok-name.ensures ∙ sym (parts_more dir c.loop-part.part))))
