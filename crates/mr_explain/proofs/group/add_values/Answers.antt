use Rattle.std.proofs.Common.{◌≡◌, ℕ, ◌+◌, ◌++◌, ◌∷◌, ◌∙◌, [], Bool, true, false, List, cond, length, not, refl, sym, subst, ap, arith, append_assoc, length-append}
use Rattle.std.specs.Borrow.{Bor}
use Rattle.std.specs.Str.{bytes_eq}
use Rattle.mr_bytes.specs.declared.Value.{Value}
use Rattle.mr_jobs.specs.Emissions.{Emission}
use Rattle.mr_explain.specs.Group.{values_with}
use Rattle.mr_explain.specs.Texts.{HasText}
use Rattle.mr_explain.specs.declared.group.KeyText.{KeyText}
use Rattle.mr_explain.proofs.TextLemmas.{pair-values}
use Rattle.mr_explain.proofs.group.add_values.Goals as goal

is_same : (t : Bool) → not t ≡ false → t ≡ true
is_same true e = refl
is_same false e = sym e

pub loop-found-preserved : goal.loop-found-preserved
loop-found-preserved c =
    let was = c.loop-found.invariant in
    let to = c.loop-found.to in
    let key : List ℕ = c.args.to.now.key.now in
    let e : Emission = (c.in-Some.found.now, c.in-Some.value) in
    let one : List Value = e.1 ∷ [] in
    let left : List Emission = c.next.new.self in
    let done : List Value = was.text.0 in
    let new : KeyText = record { key = to.key; writer = c.add.new.self; count = to.count + 1; text = c.add.new.out } in
    let same : bytes_eq e.0 key ≡ true =
    ap (λ (k : Bor (List ℕ)). bytes_eq e.0 k.now) (sym was.key) ∙ is_same (bytes_eq e.0 to.key.now) (sym c.ne.ensures ∙ c.if-ne.false) in
    record {
      key = was.key;
      few = omega (arith, was.few, ap length c.in-Some.ensures.next);
      text = (
        done ++ one,
        append_assoc done one (values_with key left)
            ∙ ap (λ (t : Bool). done ++ (cond t one [] ++ values_with key left)) (sym same)
            ∙ ap (λ (l : List Value). done ++ l) (sym (pair-values key e left))
            ∙ ap (λ (l : List Emission). done ++ values_with key l) (sym c.in-Some.ensures.next)
            ∙ was.text.1,
        λ job of values before.
            let text = was.text.2 job of values before in
            subst (λ (l : List Value). HasText job of l new) (append_assoc values done one) (record {
              writes = c.in_ok-add.ensures.ok job of (values ++ done) [] text.writes;
              count = omega (arith, text.count, length-append (values ++ done) one);
            }),
      );
    }
