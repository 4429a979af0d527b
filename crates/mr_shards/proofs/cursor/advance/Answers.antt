use Rattle.std.proofs.Common.{◌≡◌, ◌++◌, ◌∷◌, ap, sym, ◌∙◌, List, ℕ, subst, refl, Option}
use Rattle.std.specs.Prelude.{IfSome}
use Rattle.std.specs.Borrow.{Bor}
use Rattle.mr_shards.specs.declared.cursor.Cursor.{Cursor}
use Rattle.mr_shards.specs.declared.line.Line.{Line}
use Rattle.std.proofs.lemmas.Result.{err_from_is_err_and}
use Rattle.mr_shards.specs.Cursors.{BlamesNext, HeadFollows, IsHeadOf, IsOpen, MayGoOn, on}
use Rattle.mr_shards.specs.Refused.{last_key}
use Rattle.mr_shards.specs.declared.cursor.Held.{Held}
use Rattle.mr_shards.specs.declared.merger.MergeFault.{MergeFault}
use Rattle.mr_shards.proofs.HeadLemmas.{blames-passed, head-text, one-first, passed-lines, some-bytes}
use Rattle.mr_shards.proofs.RefusedLemmas.{handed}
use Rattle.mr_shards.proofs.cursor.advance.Goals as goal

pub returns-in_err-head-clause-err : goal.returns-in_err-head-clause-err
returns-in_err-head-clause-err c =
    handed (λ (e : MergeFault). (more : List ℕ) → MayGoOn c.args.cursor.now.is_last more → BlamesNext c.args.job.now c.args.shard (on c.args.cursor.now more) e)
    c.from_residual.result c.in_err-head.field-0.0 (err_from_is_err_and c.from_residual.result c.from_residual.ensures.1)
    (λ more may. blames-passed c.args.job.now c.args.shard c.args.cursor.now c.held_behind-held.result more c.in_err-head.field-0.0 c.held_behind-held.ensures
    (c.in_err-head.ensures.err more may))

pub returns-then-not-may_follow-clause-err : goal.returns-then-not-may_follow-clause-err
returns-then-not-may_follow-clause-err c = λ more may.
    let old = c.args.cursor.now in
    let opened : Option Line × Bor (List ℕ) → Cursor = λ r. record { head = r.0; text = old.rest; rest = r.1; held = c.held_behind-held.result; is_last = old.is_last } in
    let o = subst (λ (x : Option (Option Line × Bor (List ℕ))). IfSome x (λ r. IsOpen c.args.job.now c.held_behind-held.result old.rest.now old.is_last (opened r))) c.in-Some.is c.in_ok-head.ensures.some in
    let rest = old.rest.now in
    let next = opened (c.in-Some.head, c.in-Some.rest) in
    let w = subst (IsHeadOf c.args.job.now next) c.in-Some-head.is o.head in
    let is : rest ++ more ≡ w.line ++ 10 ∷ (next.rest.now ++ more) = ap (λ (t : List ℕ). t ++ more) (sym o.text_is) ∙ head-text c.args.job.now next c.in-Some-head.line more w in
    let last = last_key c.args.cursor.now.head in (
      refl,
      ap (λ (h : Held). h.lines) c.held_behind-held.ensures ∙ passed-lines c.args.cursor.now.head c.args.cursor.now.held,
      some-bytes w.line (next.rest.now ++ more) (rest ++ more) is,
      λ g more' l follows e.
          (let f = (o.at more may).first last (one-first c.args.job.now last (rest ++ more) g more' l e follows) in
          cc (c.if-not-may_follow.ensures.turn.1 (subst (HeadFollows c.args.job.now last) c.in-Some-head.is f))),
    )
