use Rattle.std.proofs.Common.{◌≡◌, ◌-◌, ℕ, List, [], ◌∷◌, ◌++◌, length, ap, sym, ◌∙◌, arith}
use Rattle.mr_bytes.specs.Pairs.{Triple}
use Rattle.mr_group.specs.Interner.{key_at}
use Rattle.mr_spill.specs.Column.{no_pair, nth_pair}
use Rattle.mr_spill.specs.Entries.{Entry, beside, nth_entry}
use Rattle.mr_spill.proofs.TableLemmas.{beside-nth, beside-push, length-beside}
use Rattle.mr_spill.proofs.pair_columns.PairColumns.push_again.Goals as goal

pub returns-in-Ok-clause-ok : goal.returns-in-Ok-clause-ok
returns-in-Ok-clause-ok c =
    let n = c.self.inside in
    let ks : List (List ℕ) = n.keys in
    let es : List Entry = n.entries in
    let ts : List Triple = c.args.self.now in
    let e : Entry = (c.args.value, c.args.name) in
    let last : List ℕ = key_at ks (length ks - 1) in
    let many : length ts ≡ length ks = ap length (sym c.self.view_is) ∙ length-beside ks es c.self.invariant.same in
    let key : last ≡ (nth_pair ts (length ts - 1)).key =
    sym (ap (λ (t : Triple). t.key) (beside-nth ks es (length ks - 1) (nth_entry [] 0) no_pair (omega (arith, many, c.requires)) c.self.invariant.same))
    ∙ ap (λ (us : List Triple). (nth_pair us (length ks - 1)).key) c.self.view_is
    ∙ ap (λ (m : ℕ). (nth_pair ts (m - 1)).key) (sym many) in
    ap (λ (l : List (List ℕ)). beside l c.push.new.self) c.in-Ok.ensures.ok
    ∙ ap (beside (ks ++ last ∷ [])) c.in_ok-push.ensures.ok
    ∙ beside-push ks es last e c.self.invariant.same
    ∙ ap (λ (k : List ℕ). beside ks es ++ record { key = k; value = c.args.value; name = c.args.name } ∷ []) key
    ∙ ap (λ (us : List Triple). us ++ record { key = (nth_pair ts (length ts - 1)).key; value = c.args.value; name = c.args.name } ∷ []) c.self.view_is
