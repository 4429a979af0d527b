use Rattle.std.proofs.Common.{◌≡◌, ◌+◌, ◌-◌, ℕ, List, ◌∷◌, length, take, drop, subst, sym, ◌∙◌, arith}
use Rattle.std.proofs.lemmas.List.{length-take, length-drop}
use Rattle.mr_records.specs.Records.{records_from}
use Rattle.mr_script.proofs.script.next_line.Goals as goal

pub returns : goal.returns
returns c =
    let bytes = c.args.bytes.now in
    let from = c.args.from in
    let end = c.in_ok-end in
    let line : List ℕ = take (end.end - from) (drop from bytes) in
    let place : end.end ≡ from + length line = omega (arith, length-take (end.end - from) (drop from bytes), length-drop from bytes, end.ensures.within, end.ensures.rises) in (
      omega (arith, place, end.ensures.within),
      end.ensures.inside,
      subst (λ (n : ℕ). records_from from (drop from bytes) ≡ record { start = from; bytes = line } ∷ records_from (n + 1) (drop (n + 1) bytes)) place end.ensures.first,
    )
