use Rattle.std.proofs.Common.{rules, ◌≡◌, ◌∙◌, ◌++◌, ℕ, List, map, ap, string_bytes}
use Rattle.std.proofs.lemmas.List.{map-append}
use Rattle.mr_commands.specs.Named.{input_names, named}
use Rattle.mr_commands.specs.Runs.{read_by_run, script_name}
use Rattle.mr_commands.proofs.running.names_of_run.Goals as goal

pub returns : goal.returns
returns c =
    let o = c.args.asked.now in
    let read = c.add_names.new.names.items in
    let written = c.in_ok-written.written.items in
    let files : map (λ s. s.now) c.as_slice.result.now ≡ input_names o.options = ap (map (λ s. s.now)) c.as_slice.ensures.value in
    let before : map string_bytes read ≡ read_by_run o =
    c.in_ok-add_names.ensures ∙ (ap (λ (v : List (List ℕ)). v ++ map (λ s. s.now) c.as_slice.result.now) c.in_ok-names.ensures
    ∙ ap (λ (v : List (List ℕ)). named (script_name o) ++ v) files) in
    let more : c.append.new.self.items ≡ read ++ written = search rules in
    ap (map string_bytes) more ∙ (map-append string_bytes read written
    ∙ (ap (λ (v : List (List ℕ)). v ++ map string_bytes written) before ∙ ap (λ (v : List (List ℕ)). read_by_run o ++ v) c.in_ok-written.ensures))
