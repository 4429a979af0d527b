-- Line feeds that are counted while a file is read.
use Rattle.std.proofs.Common.{◌≡◌, ℕ, ◌+◌, ◌≤◌, ◌==◌, Option, None, Some, List, [], ◌∷◌, ◌++◌, length, take, count_by, filter, refl, sym, ap, ◌∙◌, arith, append_assoc, length-append}
use Rattle.std.proofs.lemmas.List.{take_all, take-append-le, append-nil}
use Rattle.std.proofs.lemmas.List.Sums.{count_by-le-length, length-filter}
use Rattle.std.proofs.lemmas.List.Elements.{filter-append}
use Rattle.std.proofs.Math.Seq.{take-append-add, take-append_seam}
use Rattle.std.proofs.KnownBytes.{Consumes-nil, Consumes-trans}
use Rattle.std.specs.Io.KnownBytes.{Consumes, IsAtEnd}
use Rattle.mr_files.specs.Holding.{Agrees}
use Rattle.mr_commands.specs.Explains.{GaveFeeds, HasCounted}

abbrev feeds_in : List ℕ → ℕ
feeds_in bytes = count_by (λ b. b == 0x0A) bytes

feeds_joined : (xs ys : List ℕ) → feeds_in (xs ++ ys) ≡ feeds_in xs + feeds_in ys
feeds_joined xs ys =
    let is : ℕ → _ = λ b. b == 0x0A in
    omega (arith, length-filter is (xs ++ ys), length-filter is xs, length-filter is ys, ap length (filter-append is xs ys), length-append (filter is xs) (filter is ys))

pub counted_none : (known : Option (List ℕ)) (most : ℕ) → HasCounted known known most most 0
counted_none known most = record { front = []; consumed = Consumes-nil known; count = omega arith; feeds_are = refl }

-- one piece more
pub counted_more : (known mid left : Option (List ℕ)) (most lacking less feeds more : ℕ) (piece : List ℕ)
    → HasCounted known mid most lacking feeds → Consumes mid left piece → length piece + less ≡ lacking → more ≡ feeds_in piece
    → HasCounted known left most less (feeds + more)
counted_more known mid left most lacking less feeds more piece h c is is_more = record {
  front = h.front ++ piece;
  consumed = Consumes-trans known mid left h.front piece h.consumed c;
  count = omega (arith, h.count, is, length-append h.front piece);
  feeds_are = omega (arith, h.feeds_are, is_more, feeds_joined h.front piece);
}

-- there are no more line feeds than bytes
pub counted_few : (known left : Option (List ℕ)) (most lacking feeds more : ℕ) (piece : List ℕ)
    → HasCounted known left most lacking feeds → length piece ≤ lacking → more ≡ feeds_in piece → feeds + more ≤ most
counted_few known left most lacking feeds more piece h few is =
    omega (arith, h.count, h.feeds_are, few, is, count_by-le-length (λ (b : ℕ). b == 0x0A) h.front, count_by-le-length (λ (b : ℕ). b == 0x0A) piece)

-- a reader's bytes are those that it gave, and others, if it is not at its end
gave : (known left : Option (List ℕ)) (got : List ℕ) → Consumes known left got → (rest : List ℕ) × Agrees known (got ++ rest) × (IsAtEnd left → rest ≡ [])
gave None left got c = ([], tt, (λ _. refl))
gave (Some xs) None got c = absurd c
gave (Some xs) (Some ys) got c = (ys, c, (λ e. e))

-- all that were asked for are read
pub gave_all : (known left : Option (List ℕ)) (most lacking feeds : ℕ) → HasCounted known left most lacking feeds → lacking ≡ 0 → GaveFeeds known most feeds
gave_all known left most lacking feeds h none =
    let g = gave known left h.front h.consumed in
    let all : length h.front ≡ most = omega (arith, h.count, none) in
    (h.front ++ g.0, g.1, h.feeds_are ∙ ap feeds_in (sym (ap (λ (n : ℕ). take n (h.front ++ g.0)) (sym all) ∙ take-append_seam h.front g.0)))

-- there are no more
pub gave_end : (known mid left : Option (List ℕ)) (most lacking feeds : ℕ) (got : List ℕ)
    → HasCounted known mid most lacking feeds → Consumes mid left got → length got ≡ 0 → IsAtEnd left → GaveFeeds known most feeds
gave_end known mid left most lacking feeds got h c none end =
    let g = gave known left (h.front ++ got) (Consumes-trans known mid left h.front got h.consumed c) in
    let bytes : List ℕ = (h.front ++ got) ++ g.0 in
    let nothing : g.0 ≡ [] = g.2 end in
    let same : bytes ≡ h.front = ap (λ (l : List ℕ). (h.front ++ got) ++ l) nothing ∙ append-nil (h.front ++ got) ∙ ap (λ (l : List ℕ). h.front ++ l) (nil got none) ∙ append-nil h.front in
    (bytes, g.1, h.feeds_are ∙ ap feeds_in (sym (ap (take most) same ∙ take_all most h.front (omega (arith, h.count)))))
  where
    nil : (l : List ℕ) → length l ≡ 0 → l ≡ []
    nil [] e = refl
    nil (x ∷ l) e = absurd (omega (arith, e))

-- more were read than were asked for
pub gave_more : (known mid left : Option (List ℕ)) (most lacking feeds more : ℕ) (got : List ℕ)
    → HasCounted known mid most lacking feeds → Consumes mid left got → lacking ≤ length got → more ≡ feeds_in (take lacking got) → GaveFeeds known most (feeds + more)
gave_more known mid left most lacking feeds more got h c few is =
    let g = gave known left (h.front ++ got) (Consumes-trans known mid left h.front got h.consumed c) in
    let front : take most ((h.front ++ got) ++ g.0) ≡ h.front ++ take lacking got =
    ap (λ (n : ℕ). take n ((h.front ++ got) ++ g.0)) (sym h.count) ∙ ap (take (length h.front + lacking)) (append_assoc h.front got g.0)
    ∙ take-append-add h.front (got ++ g.0) lacking ∙ ap (λ (l : List ℕ). h.front ++ l) (take-append-le lacking got g.0 few) in
    ((h.front ++ got) ++ g.0, g.1, omega (arith, h.feeds_are, is, feeds_joined h.front (take lacking got), ap feeds_in front))
