use Rattle.std.proofs.Common.{◌≡◌, ◌∙◌, ◌<◌, ◌+◌, ℕ, suc, List, [], ◌∷◌, ◌++◌, ap, sym, subst, take, length, get_or, append_assoc, arith}
use Rattle.std.proofs.lemmas.List.{append-nil}
use Rattle.std.specs.Prelude.{string_bytes}
use Rattle.std.specs.List.{flat_map}
use Rattle.std.proofs.Math.Seq.{take-suc}
use Rattle.std.proofs.lemmas.List.Concat.{flat_map-append}
use Rattle.mr_bytes.specs.declared.RecordName.{RecordName}
use Rattle.mr_commands.specs.YesLines.{left_out_line, yes_line}
use Rattle.mr_commands.proofs.texts.yes_text.Goals as goal

-- one more line behind those that were written
one_more : (front before after : List ℕ) (names : List RecordName) (i : ℕ) (d : RecordName) → i < length names → before ≡ front ++ flat_map left_out_line (take i names)
    → after ≡ before ++ left_out_line (get_or names i d) → after ≡ front ++ flat_map left_out_line (take (i + 1) names)
one_more front before after names i d within so_far more =
    let next : i + 1 ≡ suc i = omega arith in
    let line = left_out_line (get_or names i d) in
    let lines = flat_map left_out_line (take i names) in
    let longer : take (i + 1) names ≡ take i names ++ get_or names i d ∷ [] = ap (λ (k : ℕ). take k names) next ∙ take-suc names i d within in
    let all : flat_map left_out_line (take (i + 1) names) ≡ lines ++ (line ++ []) = ap (flat_map left_out_line) longer ∙ flat_map-append left_out_line (take i names) (get_or names i d ∷ []) in
    let behind : (front ++ lines) ++ line ≡ front ++ (lines ++ (line ++ [])) = append_assoc front lines line ∙ ap (λ (v : List ℕ). front ++ (lines ++ v)) (sym (append-nil line)) in
    more ∙ (ap (λ (v : List ℕ). v ++ line) so_far ∙ (behind ∙ ap (λ (v : List ℕ). front ++ v) (sym all)))

pub loop-name-preserved : goal.loop-name-preserved
loop-name-preserved c =
    let names = c.as_slice-name-items.result.now in
    let same : names ≡ c.args.yes.now.skips.items = c.as_slice-name-items.ensures.value in
    let front = yes_line c.args.yes.now.pairs (length c.args.yes.now.skips.items) in
    subst (λ (v : List RecordName). string_bytes c.add_left_out.new.text ≡ front ++ flat_map left_out_line (take (c.loop-name.name-index + 1) v)) same
    (one_more front (string_bytes c.loop-name.text) (string_bytes c.add_left_out.new.text) names c.loop-name.name-index _ c.loop-name-test.true
    (c.loop-name.invariant ∙ ap (λ (v : List RecordName). front ++ flat_map left_out_line (take c.loop-name.name-index v)) (sym same)) c.in_ok-add_left_out.ensures)
