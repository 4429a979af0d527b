-- Texts kept flat: the one at a place, and one more.
use Rattle.std.proofs.Common.{◌≡◌, ℕ, ◌-◌, ◌≤◌, List, [], ◌∷◌, ◌++◌, length, take, drop, slice_range, refl, ◌∙◌, ap, arith, length-append, length-drop}
use Rattle.std.proofs.lemmas.List.{drop-append-le, take-append-le, drop_at, take_all}
use Rattle.std.specs.List.{AllByRecursion}
use Rattle.mr_bytes.specs.declared.Span.{Span}
use Rattle.mr_group.specs.Interner.{texts_at, IsWithin}

-- a part of a list that has grown behind it
range-more : {X : Type 0} (xs ys : List X) (a b : ℕ) → a ≤ b → b ≤ length xs → slice_range (xs ++ ys) a b ≡ slice_range xs a b
range-more xs ys a b order within =
    ap (take (b - a)) (drop-append-le a xs ys (omega arith))
    ∙ take-append-le (b - a) (drop a xs) ys (omega (arith, length-drop a xs))

pub range-end : {X : Type 0} (xs ys : List X) → slice_range (xs ++ ys) (length xs) (length (xs ++ ys)) ≡ ys
range-end xs ys =
    ap (take (length (xs ++ ys) - length xs)) (drop_at xs ys (length xs) refl)
    ∙ take_all (length (xs ++ ys) - length xs) ys (omega (arith, length-append xs ys))

-- the last of the places is that of the text behind the bytes that were there
pub texts-more : (bytes more : List ℕ) (spans : List Span) (s : Span) → AllByRecursion (IsWithin bytes) spans → s.start ≡ length bytes → s.end ≡ length (bytes ++ more)
    → texts_at (bytes ++ more) (spans ++ s ∷ []) ≡ texts_at bytes spans ++ more ∷ []
texts-more bytes more [] s all start end =
    ap (λ k. k ∷ [])
    (ap (λ a. slice_range (bytes ++ more) a s.end) start
    ∙ ap (λ b. slice_range (bytes ++ more) (length bytes) b) end
    ∙ range-end bytes more)
texts-more bytes more (t ∷ spans) s all start end =
    ap (λ k. k ∷ texts_at (bytes ++ more) (spans ++ s ∷ [])) (range-more bytes more t.start t.end all.0.0 all.0.1)
    ∙ ap (λ l. slice_range bytes t.start t.end ∷ l) (texts-more bytes more spans s all.1 start end)

-- the texts stay within, with one more
pub spans-more : (bytes more : List ℕ) (spans : List Span) (s : Span) → AllByRecursion (IsWithin bytes) spans → s.start ≡ length bytes → s.end ≡ length (bytes ++ more)
    → AllByRecursion (IsWithin (bytes ++ more)) (spans ++ s ∷ [])
spans-more bytes more [] s all start end = ((omega (arith, start, end, length-append bytes more), omega (arith, end)), tt)
spans-more bytes more (t ∷ spans) s all start end =
    ((all.0.0, omega (arith, all.0.1, length-append bytes more)), spans-more bytes more spans s all.1 start end)
