-- Where the first word of a text ends.
use Rattle.std.proofs.Common.{◌≡◌, ℕ, zero, suc, ◌+◌, ◌<◌, Bool, true, false, cond, Option, Some, None, List, [], ◌∷◌, ◌++◌, length, get_or, take, drop, refl, ap, sym, ◌∙◌, ◌⊎◌, inl, inr, eqb, eq-eqb, arith}
use Rattle.std.proofs.lemmas.Bool.{ne_eqb, eqb-true, eqb-false}
use Rattle.std.proofs.lemmas.Option.{some_pair_parts}
use Rattle.mr_bytes.specs.Cut.{Lacks, cut, with_front}

pub cut-nil : cut 0x20 [] ≡ None
unfolding cut
cut-nil = refl

pub cut-cons : (b : ℕ) (bs : List ℕ) → cut 0x20 (b ∷ bs) ≡ cond (eqb b 0x20) (Some ([], bs)) (with_front b (cut 0x20 bs))
unfolding cut
cut-cons b bs = refl

cut-here : (b : ℕ) (bs : List ℕ) → b ≡ 0x20 → cut 0x20 (b ∷ bs) ≡ Some ([], bs)
cut-here b bs e = cut-cons b bs ∙ ap (λ t. cond t (Some ([], bs)) (with_front b (cut 0x20 bs))) (eq-eqb b 0x20 e)

cut-there : (b : ℕ) (bs : List ℕ) → (b ≡ 0x20 → ⊥) → cut 0x20 (b ∷ bs) ≡ with_front b (cut 0x20 bs)
cut-there b bs e = cut-cons b bs ∙ ap (λ t. cond t (Some ([], bs)) (with_front b (cut 0x20 bs))) (ne_eqb b 0x20 e)

-- a word without spaces, and a space behind it
pub cut_word : (w rest : List ℕ) → Lacks 0x20 w → cut 0x20 (w ++ 0x20 ∷ rest) ≡ Some (w, rest)
cut_word [] rest h = cut-here 0x20 rest refl
cut_word (b ∷ bs) rest h = cut-there b (bs ++ 0x20 ∷ rest) h.0 ∙ ap (with_front b) (cut_word bs rest h.1)

cases_eqb : (a b : ℕ) → (a ≡ b) ⊎ (a ≡ b → ⊥)
cases_eqb a b = by_test a b (eqb a b) refl
  where
    by_test : (a b : ℕ) (t : Bool) → eqb a b ≡ t → (a ≡ b) ⊎ (a ≡ b → ⊥)
    by_test a b true e = inl (eqb-true a b e)
    by_test a b false e = inr (eqb-false a b e)

fronted : (b : ℕ) (o : Option (List ℕ × List ℕ)) (w rest : List ℕ) → with_front b o ≡ Some (w, rest) → (v : List ℕ) × (o ≡ Some (v, rest)) × (w ≡ b ∷ v)
fronted b None w rest e = absurd (cc e)
fronted b (Some (v, r)) w rest e =
    let p = some_pair_parts (b ∷ v) w r rest e in
    (v, ap (λ (t : List ℕ). Some (v, t)) p.1, sym p.0)

fronted_is : (b : ℕ) (bs w rest : List ℕ) → ((v : List ℕ) → cut 0x20 bs ≡ Some (v, rest) → bs ≡ v ++ 0x20 ∷ rest) → ((v : List ℕ) × (cut 0x20 bs ≡ Some (v, rest)) × (w ≡ b ∷ v)) → b ∷ bs ≡ w ++ 0x20 ∷ rest
fronted_is b bs w rest more (v, c, e) = ap (λ (t : List ℕ). b ∷ t) (more v c) ∙ ap (λ (t : List ℕ). t ++ 0x20 ∷ rest) (sym e)

here_is : (b : ℕ) (bs w rest : List ℕ) → b ≡ 0x20 → ◌≡◌ {A = Option (List ℕ × List ℕ)} (Some ([], bs)) (Some (w, rest)) → b ∷ bs ≡ w ++ 0x20 ∷ rest
here_is b bs w rest s f =
    let p = some_pair_parts [] w bs rest f in
    ap (λ (x : ℕ). x ∷ bs) s ∙ ap (λ (t : List ℕ). 0x20 ∷ t) p.1 ∙ ap (λ (t : List ℕ). t ++ 0x20 ∷ rest) p.0

-- what was cut, joined again
pub cut_is : (text w rest : List ℕ) → cut 0x20 text ≡ Some (w, rest) → text ≡ w ++ 0x20 ∷ rest
cut_is [] w rest e = absurd (cc (sym cut-nil ∙ e))
cut_is (b ∷ bs) w rest e =
    elim (cases_eqb b 0x20) [
      | inl s ↦ here_is b bs w rest s (sym (cut-here b bs s) ∙ e)
      | inr d ↦ fronted_is b bs w rest (λ v c. cut_is bs v rest c) (fronted b (cut 0x20 bs) w rest (sym (cut-there b bs d) ∙ e))
    ]
