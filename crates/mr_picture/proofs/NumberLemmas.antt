-- Numbers between spaces, read one by one.
use Rattle.std.proofs.Common.{◌≡◌, ℕ, ◌^◌, ◌<◌, Some, None, List, [], ◌∷◌, ◌++◌, refl, ap, sym, ◌∙◌, append_assoc}
use Rattle.std.proofs.lemmas.List.{append-nil}
use Rattle.std.proofs.lemmas.Option.{some_pair_parts}
use Rattle.std.specs.List.{AllByRecursion}
use Rattle.mr_picture.specs.Histories.{IsSmall}
use Rattle.mr_picture.specs.Parsing.{next_number, spaced}
use Rattle.mr_picture.proofs.LineLemmas.{next-last, next-more}

-- if the text is numbers with spaces between them, those that were read are the first, and the rest is the others
abbrev pub IsReadOn : List ℕ → List ℕ → List ℕ → Type 0
IsReadOn text done rest = (ns : List ℕ) → AllByRecursion IsSmall ns → text ≡ spaced ns → (more : List ℕ) × AllByRecursion IsSmall more × (rest ≡ spaced more) × (ns ≡ done ++ more)

pub read-none : (text : List ℕ) → IsReadOn text [] text
read-none text ns small e = (ns, small, e, refl)

pub next-spaced : (n : ℕ) (ns : List ℕ) → AllByRecursion IsSmall (n ∷ ns) → next_number (spaced (n ∷ ns)) ≡ Some (n, spaced ns)
next-spaced n [] small = next-last n small.0
next-spaced n (m ∷ ms) small = next-more n (spaced (m ∷ ms)) small.0

pub read-more : (text done rest : List ℕ) (n : ℕ) (more : List ℕ) → next_number [] ≡ None → IsReadOn text done rest → next_number rest ≡ Some (n, more) → IsReadOn text (done ++ n ∷ []) more
read-more text done rest n more nothing on e ns small is =
    let k = on ns small is in by k.0 k.1 k.2 k.3
  where
    by : (left : List ℕ) → AllByRecursion IsSmall left → rest ≡ spaced left → ns ≡ done ++ left → (left' : List ℕ) × AllByRecursion IsSmall left' × (more ≡ spaced left') × (ns ≡ (done ++ n ∷ []) ++ left')
    by [] s f g = absurd (cc (sym nothing ∙ ap next_number (sym f) ∙ e))
    by (m ∷ ms) s f g =
        let p = some_pair_parts n m more (spaced ms) (sym e ∙ ap next_number f ∙ next-spaced m ms s) in
        (ms, s.1, p.1, g ∙ ap (λ (v : ℕ). done ++ v ∷ ms) (sym p.0) ∙ sym (append_assoc done (n ∷ []) ms))

pub read-all : (text done rest : List ℕ) → IsReadOn text done rest → next_number rest ≡ None → (ns : List ℕ) → AllByRecursion IsSmall ns → text ≡ spaced ns → done ≡ ns
read-all text done rest on none ns small is = let k = on ns small is in by k.0 k.1 k.2 k.3
  where
    by : (left : List ℕ) → AllByRecursion IsSmall left → rest ≡ spaced left → ns ≡ done ++ left → done ≡ ns
    by [] s f g = sym (g ∙ append-nil done)
    by (m ∷ ms) s f g = absurd (cc (sym none ∙ ap next_number f ∙ next-spaced m ms s))

pub small-more : (ns : List ℕ) (n : ℕ) → AllByRecursion IsSmall ns → n < 2 ^ 32 → AllByRecursion IsSmall (ns ++ n ∷ [])
small-more [] n all small = (small, tt)
small-more (m ∷ ms) n all small = (all.0, small-more ms n all.1 small)
