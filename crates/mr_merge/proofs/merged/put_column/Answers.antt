use Rattle.std.proofs.Common.{◌≡◌, ℕ, List, [], ◌∷◌, ◌++◌, take, ap, sym, ◌∙◌, arith}
use Rattle.std.proofs.lemmas.List.{append_assoc, take_more}
use Rattle.mr_bytes.specs.Pairs.{Triple}
use Rattle.mr_spill.specs.Column.{no_pair, nth_pair}
use Rattle.mr_merge.proofs.merged.put_column.Goals as goal

pub loop-i-preserved : goal.loop-i-preserved
loop-i-preserved c =
    let ts : List Triple = c.args.column.now in
    let i : ℕ = c.loop-i.i in
    let before : List Triple = c.args.all.now in
    let pair : record { key = c.key.result.now; value = c.value.result; name = c.name.result } ≡ nth_pair ts i =
    λ k. record { key = c.key.ensures k; value = c.value.ensures k; name = c.name.ensures k } in
    c.in_ok-push.ensures.ok
    ∙ ap (λ (t : Triple). c.loop-i.all ++ t ∷ []) pair
    ∙ ap (λ (l : List Triple). l ++ nth_pair ts i ∷ []) c.loop-i.invariant
    ∙ append_assoc before (take i ts) (nth_pair ts i ∷ [])
    ∙ ap (λ (l : List Triple). before ++ l) (sym (take_more ts i no_pair (omega arith)))
