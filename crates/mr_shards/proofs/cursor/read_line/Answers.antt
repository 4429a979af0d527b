use Rattle.std.proofs.Common.{◌≡◌, ◌++◌, ◌∷◌, [], ap, sym, ◌∙◌, List, ℕ, length, eqb-true, refl, None}
use Rattle.std.proofs.lemmas.Bool.{eqb-false}
use Rattle.std.proofs.lemmas.List.{append_assoc, append-nil}
use Rattle.std.proofs.lemmas.Result.{err_from_is_err_and}
use Rattle.mr_shards.specs.Cursors.{MayGoOn}
use Rattle.mr_shards.specs.Lines as Lines
use Rattle.mr_shards.specs.Refused.{BlamesOnly}
use Rattle.mr_shards.specs.declared.merger.MergeFault.{MergeFault}
use Rattle.mr_shards.proofs.CursorLemmas.{no_bytes}
use Rattle.mr_shards.proofs.HeadLemmas.{at-end, at-line, bad-line, both-none, no-line-here, some-bytes}
use Rattle.mr_shards.proofs.RefusedLemmas.{handed, unmoved-line}
use Rattle.mr_shards.proofs.cursor.read_line.Goals.{else-is_last-via-then-is_last+else-is_empty, else-is_last-via-else-is_last}
use Rattle.mr_shards.proofs.cursor.read_line.Goals as goal

-- bytes are left
some_bytes : (text : List ℕ) → (length text ≡ 0 → ⊥) → text ≡ [] → ⊥
some_bytes text some e = some (ap length e)

pub returns-then-is_empty-clause-some : goal.returns-then-is_empty-clause-some
returns-then-is_empty-clause-some c =
    let last = c.if-is_last.true in
    let none : c.args.text.now ≡ [] = no_bytes c.args.text.now (eqb-true (length c.args.text.now) 0 (sym c.is_empty.ensures ∙ c.if-is_empty.true)) in
    record {
      held = refl;
      text_is = refl;
      last = refl;
      head = (last, none, none);
      at = λ more may.
          (let end : c.args.text.now ++ more ≡ [] = both-none c.args.text.now more none (may last) in
          at-end c.args.job.now c.args.held (c.args.text.now ++ more) (c.args.text.now ++ more) c.args.is_last end end);
    }

pub returns-then-is_last-2-clause-err : goal.returns-then-is_last-2-clause-err
returns-then-is_last-2-clause-err c = λ more may.
    let none : more ≡ [] = may c.if-is_last-2.true in
    let same : c.args.text.now ++ more ≡ c.args.text.now = ap (λ (t : List ℕ). c.args.text.now ++ t) none ∙ append-nil c.args.text.now in (
      refl,
      refl,
      (λ e. elim c.else-is_last.branch [
        | else-is_last-via-then-is_last+else-is_empty w ↦ some_bytes c.args.text.now (eqb-false (length c.args.text.now) 0 (sym w.is_empty.ensures ∙ w.if-is_empty.false)) (sym same ∙ e)
        | else-is_last-via-else-is_last w ↦ cc (sym c.if-is_last-2.true ∙ w.if-is_last.false)
      ]),
      λ g rest l follows e. no-line-here c.args.job.now c.args.text.now c.in_default.ensures g rest l (sym same ∙ e),
    )

pub returns-in_default-parse_line-clause-err : goal.returns-in_default-parse_line-clause-err
returns-in_default-parse_line-clause-err c = λ more may.
    let line = c.in-Some.line.now in
    let rest = c.in-Some.rest.now in
    let is : c.args.text.now ++ more ≡ line ++ 10 ∷ (rest ++ more) = ap (λ (t : List ℕ). t ++ more) c.in-Some.ensures.0 ∙ append_assoc line (10 ∷ rest) more in (
      refl,
      refl,
      some-bytes line (rest ++ more) (c.args.text.now ++ more) is,
      bad-line c.args.job.now None line (rest ++ more) (c.args.text.now ++ more) is (c.in_default-parse_line.ensures.none refl (rest ++ more)),
    )

pub returns-in_err-line-clause-err : goal.returns-in_err-line-clause-err
returns-in_err-line-clause-err c =
    let line = c.in-Some.line.now in
    let rest = c.in-Some.rest.now in
    handed (λ (e : MergeFault). (more : List ℕ) → MayGoOn c.args.is_last more
    → BlamesOnly c.args.job.now c.args.shard c.args.held.count c.args.held.before None (c.args.text.now ++ more) c.args.held.lines e)
    c.from_residual.result c.in_err-line.field-0.0 (err_from_is_err_and c.from_residual.result c.from_residual.ensures.1)
    (λ more may.
    (let is : c.args.text.now ++ more ≡ line ++ 10 ∷ (rest ++ more) = ap (λ (t : List ℕ). t ++ more) c.in-Some.ensures.0 ∙ append_assoc line (10 ∷ rest) more in
    unmoved-line c.args.job.now c.args.shard c.args.held.count c.args.held.before None (c.args.text.now ++ more) c.args.held.lines c.in-Some-parse_line.line (rest ++ more)
    c.in-Some-parse_line.ensures.line (is ∙ c.in-Some-parse_line.ensures.text (rest ++ more)) c.in_err-line.field-0.0 c.in-Some-parse_line.ensures.still c.in_err-line.ensures.err))

pub returns-clause-some : goal.returns-clause-some
returns-clause-some c =
    let line = c.in-Some.line.now in
    let rest = c.in-Some.rest.now in
    let head = c.in_ok-line.ensures in
    let kind = head.kind c.args.job.now c.in-Some-parse_line.ensures.kind in
    let front = head.front c.in-Some-parse_line.ensures.front in
    record {
      held = refl;
      text_is = refl;
      last = refl;
      head = record { kind = kind; front = front; line = line; clear = c.in-Some.ensures.1; text_is = c.in-Some.ensures.0 };
      at = λ more may.
          (let is : c.args.text.now ++ more ≡ line ++ 10 ∷ (rest ++ more) = ap (λ (t : List ℕ). t ++ more) c.in-Some.ensures.0 ∙ append_assoc line (10 ∷ rest) more in
          at-line c.args.job.now c.args.held (c.args.text.now ++ more) (rest ++ more) line c.args.is_last c.in-Some-parse_line.line c.in_ok-line.line is
          (ap (Lines.groups_in c.args.job.now) is ∙ c.in-Some-parse_line.ensures.read (rest ++ more)) c.in-Some-parse_line.ensures.line
          (is ∙ c.in-Some-parse_line.ensures.text (rest ++ more)) head.group kind front head.own);
    }
