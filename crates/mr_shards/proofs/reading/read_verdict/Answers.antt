use Rattle.std.proofs.Common.{◌≡◌, ℕ, eqb, Bool, true, false, List, [], ◌∷◌, length, refl, inl, inr, ap, sym, ◌∙◌, subst, arith}
use Rattle.std.proofs.lemmas.Bool.{eqb-true}
use Rattle.std.specs.Prelude.{not}
use Rattle.std.specs.Str.{bytes_eq}
use Rattle.mr_sequential.proofs.KeyLaws.{bytes_eq-is, bytes_eq-same}
use Rattle.mr_shards.specs.Reading.{Fits}
use Rattle.mr_shards.specs.Verdict.{Told, spelled}
use Rattle.mr_shards.proofs.SeenLemmas.{not-false}
use Rattle.mr_shards.proofs.reading.read_verdict.Goals.{else-old-via-then-old+else-not-is_empty, else-old-via-else-old}
use Rattle.mr_shards.proofs.reading.read_verdict.Goals as goal

pub returns-then-ne-clause-err : goal.returns-then-ne-clause-err
returns-then-ne-clause-err c = λ old v fits e.
    let is : old ≡ c.is_old-old.result = sym (c.is_old-old.ensures old v fits e) in
    let text = e ∙ ap (λ b. spelled b v) is in
    let same = c.in_ok-verdict.ensures.verdict v (subst (λ b. Fits b v) is fits) text in
    let all : c.as_slice.result.now ≡ c.args.bytes.now =
    c.as_slice.ensures.value ∙ c.in_ok-spelled.ensures ∙ ap (λ (t : Told). spelled c.is_old-old.result t) same ∙ sym text in
    let bad : true ≡ false = sym c.if-ne.true ∙ c.ne.ensures ∙ ap not (ap (λ (w : List ℕ). bytes_eq w c.args.bytes.now) all ∙ bytes_eq-same c.args.bytes.now) in
    cc bad

-- the bytes are the text that was spelled
same-text : (told text bytes : List ℕ) (ne : Bool) → told ≡ text → ne ≡ not (bytes_eq told bytes) → ne ≡ false → bytes ≡ text
same-text told text bytes ne is told_ne equal = sym (bytes_eq-is told bytes (not-false (bytes_eq told bytes) (sym told_ne ∙ equal))) ∙ is

pub returns-clause-ok : goal.returns-clause-ok
returns-clause-ok c =
    let text = same-text c.as_slice.result.now _ c.args.bytes.now c.ne.result (c.as_slice.ensures.value ∙ c.in_ok-spelled.ensures) c.ne.ensures c.if-ne.false in
    elim c.else-old.branch [
      | else-old-via-then-old+else-not-is_empty w ↦ inr (
        text ∙ ap (λ b. spelled b c.in_ok-verdict.verdict) w.if-old.true,
        ap (λ (v : Told). v.left_out) (sym c.verdict.view_is) ∙ sym w.as_slice-then-old.ensures.value
            ∙ none w.as_slice-then-old.result.now w.is_empty.result w.is_empty.ensures w.if-not-is_empty.false,
        c.in_ok-verdict.ensures.all w.if-old.true,
      )
      | else-old-via-else-old w ↦ inl (text ∙ ap (λ b. spelled b c.in_ok-verdict.verdict) w.if-old.false)
    ]
  where
    none : {X : Type 0} (xs : List X) (b : Bool) → b ≡ eqb (length xs) 0 → b ≡ true → xs ≡ []
    none [] b e t = refl
    none (x ∷ xs) b e t = (let n : length (x ∷ xs) ≡ 0 = eqb-true (length (x ∷ xs)) 0 (sym e ∙ t) in absurd (omega (arith, n)))
