use Rattle.std.proofs.Common.{rules, ◌≡◌, ◌∙◌, ◌++◌, ℕ, List, map, ap, string_bytes}
use Rattle.std.proofs.lemmas.List.{map-append}
use Rattle.mr_commands.specs.Named.{named}
use Rattle.mr_commands.specs.Runs.{history_name}
use Rattle.mr_commands.proofs.running.names_written.Goals as goal

pub returns : goal.returns
returns c =
    let more : c.append.new.self.items ≡ c.in_ok-names.names.items ++ c.in_ok-files.files.items = search rules in
    ap (map string_bytes) more ∙ (map-append string_bytes c.in_ok-names.names.items c.in_ok-files.files.items
    ∙ (ap (λ (v : List (List ℕ)). v ++ map string_bytes c.in_ok-files.files.items) c.in_ok-names.ensures
    ∙ ap (λ (v : List (List ℕ)). named (history_name c.args.asked.now) ++ v) c.in_ok-files.ensures))
