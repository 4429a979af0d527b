-- Claims that are tested window by window.
use Rattle.std.proofs.Common.{◌≡◌, ℕ, ◌+◌, ◌<◌, All, List, [], ◌∷◌, ◌++◌, length, take, ap, sym, ◌∙◌, subst, inl, inr, arith, length-append, refl, append_assoc}
use Rattle.std.specs.List.{flat_map}
use Rattle.std.proofs.lemmas.Bool.{cases_eq}
use Rattle.std.proofs.lemmas.List.{take_more}
use Rattle.mr_bytes.specs.Pairs.{Triple}
use Rattle.mr_index.specs.declared.window.Window.{Window}
use Rattle.mr_check.specs.Claims.{Division, Taken, IsRight, IsRightWindow, claim_of, nth_window, nth_list, no_window}
use Rattle.mr_check.specs.Joined.{joined}
use Rattle.mr_check.specs.Walk.{known}
use Rattle.mr_check.specs.Windows.{IsRightIn}
use Rattle.mr_check.specs.declared.given.Given.{Given}

-- a window whose late entries are right
pub right_list : (g : Given) (by : Division) (w : ℕ) (t : Taken) → t.windows ≡ by → All (IsRightIn g by.bits (nth_window by.list w)) (nth_list t.lists w) → IsRightWindow (known g).triples (joined (known g).outputs) t w
right_list g by w t e h =
    subst (λ (d : Division). All (λ x. IsRight (known g).triples (joined (known g).outputs) (claim_of d.bits (nth_window d.list w) x)) (nth_list t.lists w)) (sym e) h

-- one more
pub until_next : (P : ℕ → Type 0) (w : ℕ) → ((i : ℕ) → i < w → P i) → P w → (i : ℕ) → i < w + 1 → P i
until_next P w before here i less =
    elim (cases_eq i w) [
      | inl e ↦ subst P (sym e) here
      | inr other ↦ before i (omega (arith, less, other))
    ]

flat_more : (gives : Window → List Triple) (xs ys : List Window) → flat_map gives (xs ++ ys) ≡ flat_map gives xs ++ flat_map gives ys
flat_more gives [] ys = refl
flat_more gives (x ∷ xs) ys = ap (λ l. gives x ++ l) (flat_more gives xs ys) ∙ sym (append_assoc (gives x) (flat_map gives xs) (flat_map gives ys))

-- the pairs of one window more
pub pairs_next : (gives : Window → List Triple) (ws : List Window) (w : ℕ) → w < length ws
    → length (flat_map gives (take (w + 1) ws)) ≡ length (flat_map gives (take w ws)) + length (gives (nth_window ws w))
pairs_next gives ws w less =
    let one : List Window = nth_window ws w ∷ [] in
    ap (λ l. length (flat_map gives l)) (take_more ws w no_window less)
    ∙ (ap length (flat_more gives (take w ws) one)
    ∙ omega (arith, length-append (flat_map gives (take w ws)) (flat_map gives one), length-append (gives (nth_window ws w)) []))
