use Rattle.std.proofs.Common.{◌≡◌, ℕ, List, ◌++◌, cond, ap, ◌∙◌, sym}
use Rattle.std.specs.Prelude.{codes}
use Rattle.mr_shards.specs.Verdict.{Told, line_of, number_line, request_lines}
use Rattle.mr_shards.proofs.TextLemmas.{six}
use Rattle.mr_shards.proofs.verdict.put_request.Goals.{then-old, else-old}
use Rattle.mr_shards.proofs.verdict.put_request.Goals as goal

pub returns : goal.returns
returns c =
    let old : List ℕ = c.args.out.now.items in
    let v = c.verdict.inside in
    let version : c.if-old.version ≡ cond c.args.old 1 2 = elim c.if-old.branch [
      | then-old w ↦ w.version-is ∙ sym (ap (λ b. cond b 1 2) w.if-old.true)
      | else-old w ↦ w.version-is ∙ sym (ap (λ b. cond b 1 2) w.if-old.false)
    ] in
    let a : List ℕ = number_line (codes "verdict") (cond c.args.old 1 2) in
    let b : List ℕ = number_line (codes "job") v.job in
    let d : List ℕ = number_line (codes "flags") v.flags in
    let e : List ℕ = line_of (codes "literal") v.literal.items in
    let f : List ℕ = number_line (codes "partitions") v.parts in
    let g : List ℕ = number_line (codes "split") v.split in
    c.in_ok-put_number-5.ensures
    ∙ ap (λ (l : List ℕ). l ++ g) (c.in_ok-put_number-4.ensures
    ∙ ap (λ (l : List ℕ). l ++ f) (c.in_ok-put_line.ensures ∙ ap (λ (t : List ℕ). c.put_number-3.new.out.items ++ line_of (codes "literal") t) c.as_slice.ensures.value
    ∙ ap (λ (l : List ℕ). l ++ e) (c.in_ok-put_number-3.ensures
    ∙ ap (λ (l : List ℕ). l ++ d) (c.in_ok-put_number-2.ensures
    ∙ ap (λ (l : List ℕ). l ++ b) (c.in_ok-put_number.ensures ∙ ap (λ n. old ++ number_line (codes "verdict") n) version)))))
    ∙ six old a b d e f g ∙ ap (λ (t : Told). old ++ request_lines c.args.old t) c.verdict.view_is
