-- A line that spells a directive means it.
use Rattle.std.proofs.Common.{inl, inr, length, get_or, subst, arith, ◌≡◌, ℕ, cond, Option, Some, None, List, [], ◌∷◌, ◌++◌, refl, ap, sym, ◌∙◌, eqb}
use Rattle.std.specs.Prelude.{codes}
use Rattle.std.specs.List.{AllByRecursion}
use Rattle.std.proofs.lemmas.Option.{none-some, same_Some}
use Rattle.mr_records.specs.Records.{Record, records}
use Rattle.std.specs.Cmp.Lexicographic.{pointwise}
use Rattle.mr_script.specs.declared.script.Directive.{Directive}
use Rattle.mr_script.specs.declared.script.Directive.TheVariants.{Lose, Zombie, Bad, Flaky, Hold, Spoil, Damage}
use Rattle.mr_script.specs.declared.line.Keyword.{Keyword}
use Rattle.mr_script.specs.declared.line.Keyword.TheVariants as key
use Rattle.mr_script.specs.Lines.{Fixed, Number, SpellsWords, SpellsNumber, SpellsLine, SaysNothing, Stands}
use Rattle.mr_script.specs.Scripts.{SpellsLines, SpellsScript, IsFirstBad}
use Rattle.mr_script.proofs.Walks.{all_stand}
use Rattle.mr_bytes.specs.Cut.{Lacks, cut}
use Rattle.mr_script.specs.Meaning.{◌>>=◌, number_of, number_and_rest, number_and_number, number_after_number, three_numbers, keyword_of, directive_with, directive_of}
use Rattle.mr_script.proofs.Lines.{cut_word}
use Rattle.mr_script.proofs.Numbers.{number_spelled, number_no_space}

bind_to : {A B : Type 0} (f : A → Option B) (o : Option A) (x : A) (r : Option B) → o ≡ Some x → f x ≡ r → (o >>= f) ≡ r
bind_to f o x r e h = ap (λ (p : Option _). p >>= f) e ∙ h

cut_first : (text first rest : List ℕ) → text ≡ first ++ 0x20 ∷ rest → Lacks 0x20 first → cut 0x20 text ≡ Some (first, rest)
cut_first text first rest e h = ap (cut 0x20) e ∙ cut_word first rest h

front : (text first rest : List ℕ) (n : ℕ) → text ≡ first ++ 0x20 ∷ rest → SpellsNumber first n → number_and_rest text ≡ Some (n, rest)
unfolding number_and_rest
front text first rest n e h =
    let F : (List ℕ × List ℕ) → Option (ℕ × List ℕ) = λ c. number_of c.0 >>= λ m. Some (m, c.1) in
    let G : ℕ → Option (ℕ × List ℕ) = λ m. Some (m, rest) in
    bind_to F (cut 0x20 text) (first, rest) (Some (n, rest)) (cut_first text first rest e (number_no_space first n h))
    (bind_to G (number_of first) n (Some (n, rest)) (number_spelled first n h) refl)

two : (text : List ℕ) (x y : ℕ) → SpellsWords text (Number x ∷ Number y ∷ []) → number_and_number text ≡ Some (x, y)
unfolding number_and_number
two text x y (first, rest, e, h, k) =
    let F : (ℕ × List ℕ) → Option (ℕ × ℕ) = λ a. number_of a.1 >>= λ b. Some (a.0, b) in
    let G : ℕ → Option (ℕ × ℕ) = λ b. Some (x, b) in
    bind_to F (number_and_rest text) (x, rest) (Some (x, y)) (front text first rest x e h)
    (bind_to G (number_of rest) y (Some (x, y)) (number_spelled rest y k) refl)

after_no_space : Lacks 0x20 (codes "after")
after_no_space = (λ e. cc e, (λ e. cc e, (λ e. cc e, (λ e. cc e, (λ e. cc e, tt)))))

after_between : (text : List ℕ) (x y : ℕ) → SpellsWords text (Number x ∷ Fixed (codes "after") ∷ Number y ∷ []) → number_after_number text ≡ Some (x, y)
unfolding number_after_number
after_between text x y (first, rest, e, h, (word, last, f, w, k)) =
    let H : (ℕ × List ℕ) → (List ℕ × List ℕ) → Option (ℕ × ℕ) = λ a c. cond (pointwise eqb c.0 (codes "after")) (number_of c.1 >>= λ b. Some (a.0, b)) None in
    let F : (ℕ × List ℕ) → Option (ℕ × ℕ) = λ a. cut 0x20 a.1 >>= H a in
    let G : ℕ → Option (ℕ × ℕ) = λ b. Some (x, b) in
    let there : rest ≡ codes "after" ++ 0x20 ∷ last = f ∙ ap (λ (v : List ℕ). v ++ 0x20 ∷ last) w in
    bind_to F (number_and_rest text) (x, rest) (Some (x, y)) (front text first rest x e h)
    (bind_to (H (x, rest)) (cut 0x20 rest) (codes "after", last) (Some (x, y)) (cut_first rest (codes "after") last there after_no_space)
    (bind_to G (number_of last) y (Some (x, y)) (number_spelled last y k) refl))

three : (text : List ℕ) (x y z : ℕ) → SpellsWords text (Number x ∷ Number y ∷ Number z ∷ []) → three_numbers text ≡ Some (x, y, z)
unfolding three_numbers
three text x y z (first, rest, e, h, k) =
    let F : (ℕ × List ℕ) → Option (ℕ × ℕ × ℕ) = λ a. number_and_number a.1 >>= λ b. Some (a.0, b.0, b.1) in
    let G : (ℕ × ℕ) → Option (ℕ × ℕ × ℕ) = λ b. Some (x, b.0, b.1) in
    bind_to F (number_and_rest text) (x, rest) (Some (x, y, z)) (front text first rest x e h)
    (bind_to G (number_and_number rest) (y, z) (Some (x, y, z)) (two rest y z k) refl)

-- the line begins with a keyword and a space
at_keyword : (line w text rest : List ℕ) (k : Keyword) (d : Directive) → line ≡ w ++ 0x20 ∷ rest → w ≡ text → Lacks 0x20 text → keyword_of text ≡ Some k → directive_with k rest ≡ Some d → directive_of line ≡ Some d
unfolding directive_of
at_keyword line w text rest k d e t free key with_rest =
    let F : (List ℕ × List ℕ) → Option Directive = λ c. keyword_of c.0 >>= λ k. directive_with k c.1 in
    let G : Keyword → Option Directive = λ k. directive_with k rest in
    bind_to F (cut 0x20 line) (text, rest) (Some d) (cut_first line text rest (e ∙ ap (λ (v : List ℕ). v ++ 0x20 ∷ rest) t) free)
    (bind_to G (keyword_of text) k (Some d) key with_rest)

begins : (line w rest : List ℕ) (b : ℕ) (bs : List ℕ) → line ≡ w ++ 0x20 ∷ rest → w ≡ b ∷ bs → (b ≡ 0x23 → ⊥) → SaysNothing line → ⊥
begins line w rest b bs e t other says =
    let whole : line ≡ b ∷ (bs ++ 0x20 ∷ rest) = e ∙ ap (λ (v : List ℕ). v ++ 0x20 ∷ rest) t in
    elim says [
      | inl none ↦ omega (arith, none, ap length whole)
      | inr hash ↦ other (sym (ap (λ (v : List ℕ). get_or v 0 0) whole) ∙ hash)
    ]

lose_no_space : Lacks 0x20 (codes "lose")
lose_no_space = (λ e. cc e, (λ e. cc e, (λ e. cc e, (λ e. cc e, tt))))

lose_keyword : keyword_of (codes "lose") ≡ Some key.Lose
unfolding keyword_of
lose_keyword = refl

lose_rest : (rest : List ℕ) (x y : ℕ) → number_after_number rest ≡ Some (x, y) → directive_with key.Lose rest ≡ Some (Lose x y)
unfolding directive_with
lose_rest rest x y h = bind_to (λ (a : ℕ × ℕ). Some (Lose a.0 a.1)) (number_after_number rest) (x, y) (Some (Lose x y)) h refl

lose_meant : (line : List ℕ) (x y : ℕ) → SpellsLine line (Lose x y) → directive_of line ≡ Some (Lose x y)
lose_meant line x y h = at_keyword line h.0 (codes "lose") h.1 key.Lose (Lose x y) h.2 h.3 lose_no_space lose_keyword (lose_rest h.1 x y (after_between h.1 x y h.4))

lose_speaks : (line : List ℕ) (x y : ℕ) → SaysNothing line → SpellsLine line (Lose x y) → ⊥
lose_speaks line x y says h = begins line h.0 h.1 108 (codes "ose") h.2 h.3 (λ z. cc z) says

zombie_no_space : Lacks 0x20 (codes "zombie")
zombie_no_space = (λ e. cc e, (λ e. cc e, (λ e. cc e, (λ e. cc e, (λ e. cc e, (λ e. cc e, tt))))))

zombie_keyword : keyword_of (codes "zombie") ≡ Some key.Zombie
unfolding keyword_of
zombie_keyword = refl

zombie_rest : (rest : List ℕ) (x y : ℕ) → number_after_number rest ≡ Some (x, y) → directive_with key.Zombie rest ≡ Some (Zombie x y)
unfolding directive_with
zombie_rest rest x y h = bind_to (λ (a : ℕ × ℕ). Some (Zombie a.0 a.1)) (number_after_number rest) (x, y) (Some (Zombie x y)) h refl

zombie_meant : (line : List ℕ) (x y : ℕ) → SpellsLine line (Zombie x y) → directive_of line ≡ Some (Zombie x y)
zombie_meant line x y h = at_keyword line h.0 (codes "zombie") h.1 key.Zombie (Zombie x y) h.2 h.3 zombie_no_space zombie_keyword (zombie_rest h.1 x y (after_between h.1 x y h.4))

zombie_speaks : (line : List ℕ) (x y : ℕ) → SaysNothing line → SpellsLine line (Zombie x y) → ⊥
zombie_speaks line x y says h = begins line h.0 h.1 122 (codes "ombie") h.2 h.3 (λ z. cc z) says

bad_no_space : Lacks 0x20 (codes "bad")
bad_no_space = (λ e. cc e, (λ e. cc e, (λ e. cc e, tt)))

bad_keyword : keyword_of (codes "bad") ≡ Some key.Bad
unfolding keyword_of
bad_keyword = refl

bad_rest : (rest : List ℕ) (x y : ℕ) → number_and_number rest ≡ Some (x, y) → directive_with key.Bad rest ≡ Some (Bad x y)
unfolding directive_with
bad_rest rest x y h = bind_to (λ (a : ℕ × ℕ). Some (Bad a.0 a.1)) (number_and_number rest) (x, y) (Some (Bad x y)) h refl

bad_meant : (line : List ℕ) (x y : ℕ) → SpellsLine line (Bad x y) → directive_of line ≡ Some (Bad x y)
bad_meant line x y h = at_keyword line h.0 (codes "bad") h.1 key.Bad (Bad x y) h.2 h.3 bad_no_space bad_keyword (bad_rest h.1 x y (two h.1 x y h.4))

bad_speaks : (line : List ℕ) (x y : ℕ) → SaysNothing line → SpellsLine line (Bad x y) → ⊥
bad_speaks line x y says h = begins line h.0 h.1 98 (codes "ad") h.2 h.3 (λ z. cc z) says

flaky_no_space : Lacks 0x20 (codes "flaky")
flaky_no_space = (λ e. cc e, (λ e. cc e, (λ e. cc e, (λ e. cc e, (λ e. cc e, tt)))))

flaky_keyword : keyword_of (codes "flaky") ≡ Some key.Flaky
unfolding keyword_of
flaky_keyword = refl

flaky_rest : (rest : List ℕ) (x y z : ℕ) → three_numbers rest ≡ Some (x, y, z) → directive_with key.Flaky rest ≡ Some (Flaky x y z)
unfolding directive_with
flaky_rest rest x y z h = bind_to (λ (a : ℕ × ℕ × ℕ). Some (Flaky a.0 a.1 a.2)) (three_numbers rest) (x, y, z) (Some (Flaky x y z)) h refl

flaky_meant : (line : List ℕ) (x y z : ℕ) → SpellsLine line (Flaky x y z) → directive_of line ≡ Some (Flaky x y z)
flaky_meant line x y z h = at_keyword line h.0 (codes "flaky") h.1 key.Flaky (Flaky x y z) h.2 h.3 flaky_no_space flaky_keyword (flaky_rest h.1 x y z (three h.1 x y z h.4))

flaky_speaks : (line : List ℕ) (x y z : ℕ) → SaysNothing line → SpellsLine line (Flaky x y z) → ⊥
flaky_speaks line x y z says h = begins line h.0 h.1 102 (codes "laky") h.2 h.3 (λ z. cc z) says

hold_no_space : Lacks 0x20 (codes "hold")
hold_no_space = (λ e. cc e, (λ e. cc e, (λ e. cc e, (λ e. cc e, tt))))

hold_keyword : keyword_of (codes "hold") ≡ Some key.Hold
unfolding keyword_of
hold_keyword = refl

hold_rest : (rest : List ℕ) (x : ℕ) → number_of rest ≡ Some x → directive_with key.Hold rest ≡ Some (Hold x)
unfolding directive_with
hold_rest rest x h = bind_to (λ (a : ℕ). Some (Hold a)) (number_of rest) x (Some (Hold x)) h refl

hold_meant : (line : List ℕ) (x : ℕ) → SpellsLine line (Hold x) → directive_of line ≡ Some (Hold x)
hold_meant line x h = at_keyword line h.0 (codes "hold") h.1 key.Hold (Hold x) h.2 h.3 hold_no_space hold_keyword (hold_rest h.1 x (number_spelled h.1 x h.4))

hold_speaks : (line : List ℕ) (x : ℕ) → SaysNothing line → SpellsLine line (Hold x) → ⊥
hold_speaks line x says h = begins line h.0 h.1 104 (codes "old") h.2 h.3 (λ z. cc z) says

spoil_no_space : Lacks 0x20 (codes "spoil")
spoil_no_space = (λ e. cc e, (λ e. cc e, (λ e. cc e, (λ e. cc e, (λ e. cc e, tt)))))

spoil_keyword : keyword_of (codes "spoil") ≡ Some key.Spoil
unfolding keyword_of
spoil_keyword = refl

spoil_rest : (rest : List ℕ) (x y : ℕ) → number_and_number rest ≡ Some (x, y) → directive_with key.Spoil rest ≡ Some (Spoil x y)
unfolding directive_with
spoil_rest rest x y h = bind_to (λ (a : ℕ × ℕ). Some (Spoil a.0 a.1)) (number_and_number rest) (x, y) (Some (Spoil x y)) h refl

spoil_meant : (line : List ℕ) (x y : ℕ) → SpellsLine line (Spoil x y) → directive_of line ≡ Some (Spoil x y)
spoil_meant line x y h = at_keyword line h.0 (codes "spoil") h.1 key.Spoil (Spoil x y) h.2 h.3 spoil_no_space spoil_keyword (spoil_rest h.1 x y (two h.1 x y h.4))

spoil_speaks : (line : List ℕ) (x y : ℕ) → SaysNothing line → SpellsLine line (Spoil x y) → ⊥
spoil_speaks line x y says h = begins line h.0 h.1 115 (codes "poil") h.2 h.3 (λ z. cc z) says

damage_no_space : Lacks 0x20 (codes "damage")
damage_no_space = (λ e. cc e, (λ e. cc e, (λ e. cc e, (λ e. cc e, (λ e. cc e, (λ e. cc e, tt))))))

damage_keyword : keyword_of (codes "damage") ≡ Some key.Damage
unfolding keyword_of
damage_keyword = refl

damage_rest : (rest : List ℕ) (x y z : ℕ) → three_numbers rest ≡ Some (x, y, z) → directive_with key.Damage rest ≡ Some (Damage x y z)
unfolding directive_with
damage_rest rest x y z h = bind_to (λ (a : ℕ × ℕ × ℕ). Some (Damage a.0 a.1 a.2)) (three_numbers rest) (x, y, z) (Some (Damage x y z)) h refl

damage_meant : (line : List ℕ) (x y z : ℕ) → SpellsLine line (Damage x y z) → directive_of line ≡ Some (Damage x y z)
damage_meant line x y z h = at_keyword line h.0 (codes "damage") h.1 key.Damage (Damage x y z) h.2 h.3 damage_no_space damage_keyword (damage_rest h.1 x y z (three h.1 x y z h.4))

damage_speaks : (line : List ℕ) (x y z : ℕ) → SaysNothing line → SpellsLine line (Damage x y z) → ⊥
damage_speaks line x y z says h = begins line h.0 h.1 100 (codes "amage") h.2 h.3 (λ z. cc z) says

pub spelled_is_meant : (line : List ℕ) (d : Directive) → SpellsLine line d → directive_of line ≡ Some d
spelled_is_meant line (Lose x y) h = lose_meant line x y h
spelled_is_meant line (Zombie x y) h = zombie_meant line x y h
spelled_is_meant line (Bad x y) h = bad_meant line x y h
spelled_is_meant line (Flaky x y z) h = flaky_meant line x y z h
spelled_is_meant line (Hold x) h = hold_meant line x h
spelled_is_meant line (Spoil x y) h = spoil_meant line x y h
spelled_is_meant line (Damage x y z) h = damage_meant line x y z h

pub nothing_spelled : (line : List ℕ) (d : Directive) → SaysNothing line → SpellsLine line d → ⊥
nothing_spelled line (Lose x y) says h = lose_speaks line x y says h
nothing_spelled line (Zombie x y) says h = zombie_speaks line x y says h
nothing_spelled line (Bad x y) says h = bad_speaks line x y says h
nothing_spelled line (Flaky x y z) says h = flaky_speaks line x y z says h
nothing_spelled line (Hold x) says h = hold_speaks line x says h
nothing_spelled line (Spoil x y) says h = spoil_speaks line x y says h
nothing_spelled line (Damage x y z) says h = damage_speaks line x y z says h

pub one_directive : (line : List ℕ) (d e : Directive) → SpellsLine line d → SpellsLine line e → d ≡ e
one_directive line d e h k = same_Some d e (sym (spelled_is_meant line d h) ∙ spelled_is_meant line e k)

-- a line that doesn't say nothing, and means no directive, is bad
pub bad_line : (line : List ℕ) → (SaysNothing line → ⊥) → directive_of line ≡ None → Stands line → ⊥
bad_line line some none (inl says) = some says
bad_line line some none (inr (d, s)) = none-some d (sym none ∙ spelled_is_meant line d s)

pub one_list : (ls : List Record) (ds es : List Directive) → SpellsLines ls ds → SpellsLines ls es → ds ≡ es
one_list [] ds es h k = h ∙ sym k
one_list (l ∷ ls) ds es (inl h) (inl k) = one_list ls ds es h.1 k.1
one_list (l ∷ ls) ds es (inl h) (inr (e, es2, f, s, k)) = absurd (nothing_spelled l.bytes e h.0 s)
one_list (l ∷ ls) ds es (inr (d, ds2, f, s, h)) (inl k) = absurd (nothing_spelled l.bytes d k.0 s)
one_list (l ∷ ls) ds es (inr (d, ds2, f, s, h)) (inr (e, es2, g, t, k)) =
    f ∙ ap (λ (x : Directive). x ∷ ds2) (one_directive l.bytes d e s t) ∙ ap (λ (xs : List Directive). e ∷ xs) (one_list ls ds2 es2 h k) ∙ sym g

stands_between : (before : List Record) (bad : Record) (behind : List Record) → AllByRecursion (λ l. Stands l.bytes) (before ++ bad ∷ behind) → Stands bad.bytes
stands_between [] bad behind h = h.0
stands_between (l ∷ ls) bad behind h = stands_between ls bad behind h.1

pub no_bad_line : (bytes : List ℕ) (n : ℕ) (ds : List Directive) → IsFirstBad (records bytes) n → SpellsScript bytes ds → ⊥
no_bad_line bytes n ds bad h =
    let whole : SpellsLines (bad.before ++ bad.bad ∷ bad.behind) ds = subst (λ (ls : List Record). SpellsLines ls ds) bad.lines_are h in
    bad.is_bad (stands_between bad.before bad.bad bad.behind (all_stand (bad.before ++ bad.bad ∷ bad.behind) ds whole))
