-- What lines tell, read one after another.
use Rattle.std.proofs.Common.{◌≡◌, ℕ, ◌<◌, ◌++◌, List, [], ◌∷◌, length, length-append, map, refl, ap, sym, ◌∙◌, arith, cond, Option, None, Some}
use Rattle.std.proofs.lemmas.Bool.{ne_eqb}
use Rattle.std.proofs.lemmas.List.{append_assoc, append-nil}
use Rattle.std.specs.List.{AllByRecursion}
use Rattle.mr_bytes.specs.Cut.{Lacks}
use Rattle.mr_shards.specs.Lines.{lines, longer}
use Rattle.mr_shards.specs.Reading.{Adds, Finds, told_of, told_under, with_told}

-- ---- lines

pub lines-next : (l rest : List ℕ) → Lacks 10 l → lines (l ++ 10 ∷ rest) ≡ l ∷ lines rest
unfolding lines longer
lines-next [] rest clear = refl
lines-next (b ∷ l) rest clear =
    ap (λ t. cond t ([] ∷ lines (l ++ 10 ∷ rest)) (longer b (lines (l ++ 10 ∷ rest)))) (ne_eqb b 10 clear.0) ∙ ap (longer b) (lines-next l rest clear.1)

lines-lack : (text : List ℕ) → Lacks 10 text → lines text ≡ []
unfolding lines longer
lines-lack [] clear = refl
lines-lack (b ∷ bs) clear = ap (λ t. cond t ([] ∷ lines bs) (longer b (lines bs))) (ne_eqb b 10 clear.0) ∙ ap (longer b) (lines-lack bs clear.1)

pub under-next : (word text line more : List ℕ) → text ≡ line ++ 10 ∷ more → Lacks 10 line
    → told_under word (lines text) ≡ with_told (told_of word line) (told_under word (lines more))
unfolding told_under
under-next word text line more e clear = ap (λ (t : List ℕ). told_under word (lines t)) e ∙ ap (told_under word) (lines-next line more clear)

pub under-end : (word text : List ℕ) → Lacks 10 text → told_under word (lines text) ≡ []
unfolding told_under
under-end word text clear = ap (told_under word) (lines-lack text clear)

pub less : (text line more : List ℕ) → text ≡ line ++ 10 ∷ more → length more < length text
less text line more e = omega (arith, ap length e, length-append line (10 ∷ more))

-- a line that tells nothing of the word, and one that does
pub under-other : (word text line more : List ℕ) → text ≡ line ++ 10 ∷ more → Lacks 10 line → told_of word line ≡ None
    → told_under word (lines more) ≡ told_under word (lines text)
under-other word text line more e clear none = sym (under-next word text line more e clear ∙ ap (λ o. with_told o (told_under word (lines more))) none)

pub under-some : (word text line more told : List ℕ) → text ≡ line ++ 10 ∷ more → Lacks 10 line → told_of word line ≡ Some told
    → told_under word (lines text) ≡ told ∷ told_under word (lines more)
under-some word text line more told e clear some = under-next word text line more e clear ∙ ap (λ o. with_told o (told_under word (lines more))) some

-- ---- what was found so far

-- where the lines tell these, some of them were found, and the others are told by the lines that are left
abbrev pub IsFound : {X : Type 0} → (X → List ℕ) → (X → Type 0) → List ℕ → List ℕ → List ℕ → List X → Type 0
IsFound {X} tells fits word text rest found = (xs : List X) → AllByRecursion fits xs → told_under word (lines text) ≡ map tells xs
    → (later : List X) × (xs ≡ found ++ later) × AllByRecursion fits later × (told_under word (lines rest) ≡ map tells later)

some-later : {X : Type 0} (tells : X → List ℕ) (fits : X → Type 0) (t : List ℕ) (ts : List (List ℕ)) (old new xs later : List X) → xs ≡ old ++ later → AllByRecursion fits later
    → t ∷ ts ≡ map tells later → Adds tells fits (Some t) old new → (next : List X) × (xs ≡ new ++ next) × AllByRecursion fits next × (ts ≡ map tells next)
some-later {X} tells fits t ts old new xs [] is all e a = absurd (cc e)
some-later {X} tells fits t ts old new xs (x ∷ later) is all e a =
    let told : t ≡ tells x = cc e in
    let rest : ts ≡ map tells later = cc e in
    let one : a.0 ≡ x = a.2 x all.0 told in
    let grown : new ++ later ≡ old ++ x ∷ later =
    ap (λ (l : List X). l ++ later) a.1 ∙ append_assoc old (a.0 ∷ []) later ∙ ap (λ (y : X). old ++ y ∷ later) one in
    (later, is ∙ sym grown, all.1, rest)

pub found-step : {X : Type 0} (tells : X → List ℕ) (fits : X → Type 0) (word text rest line more : List ℕ) (old new : List X) → rest ≡ line ++ 10 ∷ more → Lacks 10 line
    → Adds tells fits (told_of word line) old new → IsFound tells fits word text rest old → IsFound tells fits word text more new
found-step {X} tells fits word text rest line more old new e clear adds was xs all told =
    let w = was xs all told in by (told_of word line) refl adds w.0 w.1 w.2 w.3
  where
    by : (o : Option (List ℕ)) → told_of word line ≡ o → Adds tells fits o old new → (later : List X) → xs ≡ old ++ later → AllByRecursion fits later
        → told_under word (lines rest) ≡ map tells later → (next : List X) × (xs ≡ new ++ next) × AllByRecursion fits next × (told_under word (lines more) ≡ map tells next)
    by None is same later whole fit t = (later, whole ∙ ap (λ (l : List X). l ++ later) (sym same), fit, under-other word rest line more e clear is ∙ t)
    by (Some found) is a later whole fit t = some-later tells fits found (told_under word (lines more)) old new xs later whole fit (sym (under-some word rest line more found e clear is) ∙ t) a

no-more : {X : Type 0} (tells : X → List ℕ) (xs : List X) → [] ≡ map tells xs → xs ≡ []
no-more {X} tells [] e = refl
no-more {X} tells (x ∷ xs) e = absurd (cc e)

pub found-all : {X : Type 0} (tells : X → List ℕ) (fits : X → Type 0) (word text rest : List ℕ) (found : List X) → Lacks 10 rest → IsFound tells fits word text rest found
    → Finds tells fits (told_under word (lines text)) found
found-all {X} tells fits word text rest found clear was xs all told =
    let w = was xs all told in
    let none : w.0 ≡ [] = no-more tells w.0 (sym (under-end word rest clear) ∙ w.3) in
    sym (w.1 ∙ ap (λ (l : List X). found ++ l) none ∙ append-nil found)
