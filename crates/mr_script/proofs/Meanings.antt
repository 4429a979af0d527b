-- A line that means a directive spells it.
use Rattle.std.proofs.Common.{◌≡◌, ℕ, Bool, true, false, cond, ◌⊎◌, inl, inr, Option, Some, None, List, [], ◌∷◌, ◌++◌, refl, ap, ◌∙◌, subst, eqb}
use Rattle.std.specs.Prelude.{codes}
use Rattle.std.specs.Cmp.Lexicographic.{bytes_decides, pointwise}
use Rattle.std.proofs.lemmas.Option.{some_pair_parts, same_Some}
use Rattle.mr_script.specs.declared.script.Directive.{Directive}
use Rattle.mr_script.specs.declared.script.Directive.TheVariants.{Lose, Zombie, Bad, Flaky, Hold, Spoil, Damage}
use Rattle.mr_script.specs.declared.line.Keyword.{Keyword}
use Rattle.mr_script.specs.declared.line.Keyword.TheVariants as key
use Rattle.mr_script.specs.Lines.{Word, Fixed, Number, SpellsWords, SpellsNumber, SpellsLine}
use Rattle.mr_bytes.specs.Cut.{cut}
use Rattle.mr_script.specs.Meaning.{◌>>=◌, number_of, number_and_rest, number_and_number, number_after_number, three_numbers, keyword_of, directive_with, directive_of}
use Rattle.mr_script.proofs.Lines.{cut_is}
use Rattle.mr_script.proofs.Numbers.{number_is}

pub bind_some : {A B : Type 0} (f : A → Option B) (o : Option A) (y : B) → (o >>= f) ≡ Some y → (x : A) × (o ≡ Some x) × (f x ≡ Some y)
bind_some f None y e = absurd (cc e)
bind_some f (Some x) y e = (x, refl, e)

pub text_of : Keyword → List ℕ
text_of key.Lose = codes "lose"
text_of key.Zombie = codes "zombie"
text_of key.Bad = codes "bad"
text_of key.Flaky = codes "flaky"
text_of key.Hold = codes "hold"
text_of key.Spoil = codes "spoil"
text_of key.Damage = codes "damage"

-- a number, and the words behind it
number_before : (text rest : List ℕ) (n : ℕ) (v : Word) (ws : List Word) → number_and_rest text ≡ Some (n, rest) → SpellsWords rest (v ∷ ws) → SpellsWords text (Number n ∷ v ∷ ws)
unfolding number_and_rest
number_before text rest n v ws e h =
    let F : (List ℕ × List ℕ) → Option (ℕ × List ℕ) = λ c. number_of c.0 >>= λ m. Some (m, c.1) in
    let a = bind_some F (cut 0x20 text) (n, rest) e in
    let G : ℕ → Option (ℕ × List ℕ) = λ m. Some (m, a.0.1) in
    let b = bind_some G (number_of a.0.0) (n, rest) a.2 in
    let p = some_pair_parts b.0 n a.0.1 rest b.2 in
    let number : SpellsNumber a.0.0 n = subst (SpellsNumber a.0.0) p.0 (number_is a.0.0 b.0 b.1) in
    let joined : text ≡ a.0.0 ++ 0x20 ∷ rest = cut_is text a.0.0 a.0.1 a.1 ∙ ap (λ (r : List ℕ). a.0.0 ++ 0x20 ∷ r) p.1 in
    (a.0.0, rest, joined, number, h)

two : (text : List ℕ) (x y : ℕ) → number_and_number text ≡ Some (x, y) → SpellsWords text (Number x ∷ Number y ∷ [])
unfolding number_and_number
two text x y e =
    let F : (ℕ × List ℕ) → Option (ℕ × ℕ) = λ a. number_of a.1 >>= λ b. Some (a.0, b) in
    let a = bind_some F (number_and_rest text) (x, y) e in
    let G : ℕ → Option (ℕ × ℕ) = λ b. Some (a.0.0, b) in
    let b = bind_some G (number_of a.0.1) (x, y) a.2 in
    let p = some_pair_parts a.0.0 x b.0 y b.2 in
    let front : number_and_rest text ≡ Some (x, a.0.1) = a.1 ∙ ap (λ (n : ℕ). Some (n, a.0.1)) p.0 in
    number_before text a.0.1 x (Number y) [] front (subst (SpellsNumber a.0.1) p.1 (number_is a.0.1 b.0 b.1))

chosen : {A : Type 0} (b : Bool) (o : Option A) (y : A) → cond b o None ≡ Some y → (b ≡ true) × (o ≡ Some y)
chosen true o y e = (refl, e)
chosen false o y e = absurd (cc e)

after_between : (text : List ℕ) (x y : ℕ) → number_after_number text ≡ Some (x, y) → SpellsWords text (Number x ∷ Fixed (codes "after") ∷ Number y ∷ [])
unfolding number_after_number
after_between text x y e =
    let H : (ℕ × List ℕ) → (List ℕ × List ℕ) → Option (ℕ × ℕ) = λ a c. cond (pointwise eqb c.0 (codes "after")) (number_of c.1 >>= λ b. Some (a.0, b)) None in
    let F : (ℕ × List ℕ) → Option (ℕ × ℕ) = λ a. cut 0x20 a.1 >>= H a in
    let a = bind_some F (number_and_rest text) (x, y) e in
    let c = bind_some (H a.0) (cut 0x20 a.0.1) (x, y) a.2 in
    let t = chosen (pointwise eqb c.0.0 (codes "after")) (number_of c.0.1 >>= λ b. Some (a.0.0, b)) (x, y) c.2 in
    let G : ℕ → Option (ℕ × ℕ) = λ b. Some (a.0.0, b) in
    let b = bind_some G (number_of c.0.1) (x, y) t.1 in
    let p = some_pair_parts a.0.0 x b.0 y b.2 in
    let word : c.0.0 ≡ codes "after" = (bytes_decides c.0.0 (codes "after")).0 t.0 in
    let front : number_and_rest text ≡ Some (x, a.0.1) = a.1 ∙ ap (λ (n : ℕ). Some (n, a.0.1)) p.0 in
    number_before text a.0.1 x (Fixed (codes "after")) (Number y ∷ []) front
    (c.0.0, c.0.1, cut_is a.0.1 c.0.0 c.0.1 c.1, word, subst (SpellsNumber c.0.1) p.1 (number_is c.0.1 b.0 b.1))

three : (text : List ℕ) (x y z : ℕ) → three_numbers text ≡ Some (x, y, z) → SpellsWords text (Number x ∷ Number y ∷ Number z ∷ [])
unfolding three_numbers
three text x y z e =
    let F : (ℕ × List ℕ) → Option (ℕ × ℕ × ℕ) = λ a. number_and_number a.1 >>= λ b. Some (a.0, b.0, b.1) in
    let a = bind_some F (number_and_rest text) (x, y, z) e in
    let G : (ℕ × ℕ) → Option (ℕ × ℕ × ℕ) = λ b. Some (a.0.0, b.0, b.1) in
    let b = bind_some G (number_and_number a.0.1) (x, y, z) a.2 in
    let t : ◌≡◌ {A = ℕ × ℕ × ℕ} (a.0.0, b.0.0, b.0.1) (x, y, z) = same_Some _ _ b.2 in
    let front : number_and_rest text ≡ Some (x, a.0.1) = a.1 ∙ ap (λ (n : ℕ). Some (n, a.0.1)) (ap (λ (q : ℕ × ℕ × ℕ). q.0) t) in
    let behind : number_and_number a.0.1 ≡ Some (y, z) = b.1 ∙ ap (λ (q : ℕ × ℕ × ℕ). Some (q.1, q.2)) t in
    number_before text a.0.1 x (Number y) (Number z ∷ []) front (two a.0.1 y z behind)

first_of_two : {A : Type 0} (b : Bool) (x : A) (o : Option A) (y : A) → cond b (Some x) o ≡ Some y → ((b ≡ true) × (x ≡ y)) ⊎ (o ≡ Some y)
first_of_two true x o y e = inl (refl, same_Some x y e)
first_of_two false x o y e = inr e

is_text : (w : List ℕ) (k l : Keyword) → (pointwise eqb w (text_of k) ≡ true) × (k ≡ l) → w ≡ text_of l
is_text w k l (t, e) = (bytes_decides w (text_of k)).0 t ∙ ap text_of e

-- a keyword is its text
keyword_is : (w : List ℕ) (k : Keyword) → keyword_of w ≡ Some k → w ≡ text_of k
unfolding keyword_of text_of
keyword_is w k e =
    elim (first_of_two (pointwise eqb w (codes "lose")) key.Lose _ k e) [
      | inl h ↦ is_text w key.Lose k h
      | inr e ↦ elim (first_of_two (pointwise eqb w (codes "zombie")) key.Zombie _ k e) [
        | inl h ↦ is_text w key.Zombie k h
        | inr e ↦ elim (first_of_two (pointwise eqb w (codes "bad")) key.Bad _ k e) [
          | inl h ↦ is_text w key.Bad k h
          | inr e ↦ elim (first_of_two (pointwise eqb w (codes "flaky")) key.Flaky _ k e) [
            | inl h ↦ is_text w key.Flaky k h
            | inr e ↦ elim (first_of_two (pointwise eqb w (codes "hold")) key.Hold _ k e) [
              | inl h ↦ is_text w key.Hold k h
              | inr e ↦ elim (first_of_two (pointwise eqb w (codes "spoil")) key.Spoil _ k e) [
                | inl h ↦ is_text w key.Spoil k h
                | inr e ↦ elim (first_of_two (pointwise eqb w (codes "damage")) key.Damage None k e) [
                  | inl h ↦ is_text w key.Damage k h
                  | inr e ↦ absurd (cc e)
                ]
              ]
            ]
          ]
        ]
      ]
    ]

-- a word, the text of the keyword, and behind it what the keyword asks for
behind_keyword : (line w rest : List ℕ) (k : Keyword) (d : Directive) → line ≡ w ++ 0x20 ∷ rest → w ≡ text_of k → directive_with k rest ≡ Some d → SpellsLine line d
unfolding directive_with text_of
behind_keyword line w rest key.Lose d j t e =
    let a = bind_some (λ (a : ℕ × ℕ). Some (Lose a.0 a.1)) (number_after_number rest) d e in
    subst (SpellsLine line) (same_Some (Lose a.0.0 a.0.1) d a.2) (w, rest, j, t, after_between rest a.0.0 a.0.1 a.1)
behind_keyword line w rest key.Zombie d j t e =
    let a = bind_some (λ (a : ℕ × ℕ). Some (Zombie a.0 a.1)) (number_after_number rest) d e in
    subst (SpellsLine line) (same_Some (Zombie a.0.0 a.0.1) d a.2) (w, rest, j, t, after_between rest a.0.0 a.0.1 a.1)
behind_keyword line w rest key.Bad d j t e =
    let a = bind_some (λ (a : ℕ × ℕ). Some (Bad a.0 a.1)) (number_and_number rest) d e in
    subst (SpellsLine line) (same_Some (Bad a.0.0 a.0.1) d a.2) (w, rest, j, t, two rest a.0.0 a.0.1 a.1)
behind_keyword line w rest key.Flaky d j t e =
    let a = bind_some (λ (a : ℕ × ℕ × ℕ). Some (Flaky a.0 a.1 a.2)) (three_numbers rest) d e in
    subst (SpellsLine line) (same_Some (Flaky a.0.0 a.0.1 a.0.2) d a.2) (w, rest, j, t, three rest a.0.0 a.0.1 a.0.2 a.1)
behind_keyword line w rest key.Hold d j t e =
    let a = bind_some (λ (a : ℕ). Some (Hold a)) (number_of rest) d e in
    subst (SpellsLine line) (same_Some (Hold a.0) d a.2) (w, rest, j, t, number_is rest a.0 a.1)
behind_keyword line w rest key.Spoil d j t e =
    let a = bind_some (λ (a : ℕ × ℕ). Some (Spoil a.0 a.1)) (number_and_number rest) d e in
    subst (SpellsLine line) (same_Some (Spoil a.0.0 a.0.1) d a.2) (w, rest, j, t, two rest a.0.0 a.0.1 a.1)
behind_keyword line w rest key.Damage d j t e =
    let a = bind_some (λ (a : ℕ × ℕ × ℕ). Some (Damage a.0 a.1 a.2)) (three_numbers rest) d e in
    subst (SpellsLine line) (same_Some (Damage a.0.0 a.0.1 a.0.2) d a.2) (w, rest, j, t, three rest a.0.0 a.0.1 a.0.2 a.1)

pub meant_is_spelled : (line : List ℕ) (d : Directive) → directive_of line ≡ Some d → SpellsLine line d
unfolding directive_of
meant_is_spelled line d e =
    let F : (List ℕ × List ℕ) → Option Directive = λ c. keyword_of c.0 >>= λ k. directive_with k c.1 in
    let a = bind_some F (cut 0x20 line) d e in
    let G : Keyword → Option Directive = λ k. directive_with k a.0.1 in
    let b = bind_some G (keyword_of a.0.0) d a.2 in
    behind_keyword line a.0.0 a.0.1 b.0 d (cut_is line a.0.0 a.0.1 a.1) (keyword_is a.0.0 b.0 b.1) b.2
