use Rattle.std.proofs.Common.{◌≡◌, ◌<◌, ◌∙◌, ◌++◌, List, ℕ, [], map, get_or, ap, sym, subst, string_bytes}
use Rattle.std.proofs.lemmas.List.{get_or-map, length-map}
use Rattle.std.proofs.lemmas.List.Elements.{Contains-get_or}
use Rattle.std.specs.Prelude.{Contains}
use Rattle.mr_commands.specs.Runs.{StandsIn, read_by_run, written_by_run}
use Rattle.mr_commands.proofs.running.expect_scratch_apart.Goals as goal

pub returns-then-is_same_folder : goal.returns-then-is_same_folder
returns-then-is_same_folder g c =
    let o = c.args.asked.now in
    let names = c.as_slice-name-items.result.now in
    let i = c.loop-name.name-index in
    let d = c.name-item.result in
    let same : c.as_str-name.result.now ≡ string_bytes (get_or names i d) = c.as_str-name.ensures.value ∙ ap string_bytes c.name-item.is in
    let told : string_bytes c.in_ok-from_str.field-0 ≡ c.as_str-name.result.now = c.in_ok-from_str.ensures.ok in
    let all : map string_bytes names ≡ read_by_run o ++ written_by_run o = ap (map string_bytes) c.as_slice-name-items.ensures.value ∙ c.in_ok-names.ensures in
    let there = subst (Contains (map string_bytes names)) (get_or-map string_bytes names i d [] c.loop-name-test.true ∙ sym same ∙ sym told)
    (Contains-get_or (map string_bytes names) i [] (subst (λ n. i < n) (sym (length-map names string_bytes)) c.loop-name-test.true)) in
    rw c.in-Some.is (
      subst (λ (ns : List (List ℕ)). Contains ns (string_bytes c.in_ok-from_str.field-0)) all there,
      subst (StandsIn (g.S.Store.alike c.args.store.now) c.in-Some.dir.now) (sym told) (c.folder_of.result.now, c.folder_of.ensures, c.is_same_folder.ensures.same c.if-is_same_folder.true),
    )
