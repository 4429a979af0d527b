-- What was taken at its word, by windows.
use Rattle.std.proofs.Common.{◌≡◌, ℕ, zero, suc, ◌<◌, List, [], ◌∷◌, ◌++◌, length, map, refl, ap, sym, ◌∙◌, subst, arith, append_assoc, inl, inr, set}
use Rattle.std.proofs.lemmas.List.{map_push}
use Rattle.std.specs.List.{AllByRecursion, All}
use Rattle.std.proofs.lemmas.List.Elements.{recursion_from_All}
use Rattle.mr_bytes.specs.Lists.{Has}
use Rattle.mr_bytes.specs.Pairs.{Triple}
use Rattle.mr_bytes.proofs.ListLaws.{Has-append_right}
use Rattle.mr_check.specs.declared.claims.Late.{Late}
use Rattle.mr_index.specs.declared.window.Window.{Window}
use Rattle.mr_check.specs.Claims.{Claim, IsRight, AreRight, IsRightWindow, PutsOff, Taken, claim_of, claims_in, claims_of, nth_list, nth_window}

-- ---- one more among others

has_more : {X : Type 0} (xs ys : List X) (y x : X) → Has (xs ++ ys) x → Has (xs ++ y ∷ ys) x
has_more [] ys y x h = inr h
has_more (z ∷ xs) ys y x (inl e) = inl e
has_more (z ∷ xs) ys y x (inr h) = inr (has_more xs ys y x h)

has_it : {X : Type 0} (xs ys : List X) (y : X) → Has (xs ++ y ∷ ys) y
has_it [] ys y = inl refl
has_it (z ∷ xs) ys y = inr (has_it xs ys y)

has_kept : {X : Type 0} (xs ys zs : List X) (x : X) → (Has ys x → Has zs x) → Has (xs ++ ys) x → Has (xs ++ zs) x
has_kept [] ys zs x f h = f h
has_kept (z ∷ xs) ys zs x f (inl e) = inl e
has_kept (z ∷ xs) ys zs x f (inr h) = inr (has_kept xs ys zs x f h)

grown : (bits : ℕ) (w : Window) (l : List Late) (e : Late) (others : List Claim) → map (claim_of bits w) (l ++ e ∷ []) ++ others ≡ map (claim_of bits w) l ++ claim_of bits w e ∷ others
grown bits w l e others = ap (λ cs. cs ++ others) (map_push (claim_of bits w) l e) ∙ append_assoc (map (claim_of bits w) l) (claim_of bits w e ∷ []) others

-- a late entry is added to the list of its window
pub puts_off : (bits : ℕ) (ws : List Window) (ls : List (List Late)) (i : ℕ) (e : Late) → i < length ws → i < length ls
    → PutsOff (claims_in bits ws ls) (claim_of bits (nth_window ws i) e) (claims_in bits ws (set ls i (nth_list ls i ++ e ∷ [])))
puts_off bits [] ls i e h k = absurd (omega (arith, h))
puts_off bits (w ∷ ws) [] i e h k = absurd (omega (arith, k))
puts_off bits (w ∷ ws) (l ∷ ls) zero e h k =
    let cs = claims_in bits ws ls in
    record {
      kept = λ x there. subst (λ xs. Has xs x) (sym (grown bits w l e cs)) (has_more (map (claim_of bits w) l) cs (claim_of bits w e) x there);
      put = subst (λ xs. Has xs (claim_of bits w e)) (sym (grown bits w l e cs)) (has_it (map (claim_of bits w) l) cs (claim_of bits w e));
    }
puts_off bits (w ∷ ws) (l ∷ ls) (suc i) e h k =
    let later = puts_off bits ws ls i e (omega (arith, h)) (omega (arith, k)) in
    let more = claims_in bits ws (set ls i (nth_list ls i ++ e ∷ [])) in
    record {
      kept = λ x. has_kept (map (claim_of bits w) l) (claims_in bits ws ls) more x (later.kept x);
      put = Has-append_right (map (claim_of bits w) l) more (claim_of bits (nth_window ws i) e) later.put;
    }

-- ---- empty lists

pub none_at_all : (bits : ℕ) (ws : List Window) → claims_in bits ws [] ≡ []
none_at_all bits [] = refl
none_at_all bits (w ∷ ws) = refl

pub none_more : (bits : ℕ) (ws : List Window) (ls : List (List Late)) → claims_in bits ws ls ≡ [] → claims_in bits ws (ls ++ [] ∷ []) ≡ []
none_more bits [] ls none = refl
none_more bits (w ∷ ws) [] none = none_at_all bits ws
none_more bits (w ∷ ws) ([] ∷ ls) none = none_more bits ws ls none
none_more bits (w ∷ ws) ((e ∷ l) ∷ ls) none = absurd (cc none)

-- ---- all of them

all_both : {X : Type 0} (P : X → Type 0) (xs ys : List X) → AllByRecursion P xs → AllByRecursion P ys → AllByRecursion P (xs ++ ys)
all_both P [] ys a b = b
all_both P (x ∷ xs) ys a b = (a.0, all_both P xs ys a.1 b)

all_map : {X Y : Type 0} (P : Y → Type 0) (f : X → Y) (xs : List X) → AllByRecursion (λ x. P (f x)) xs → AllByRecursion P (map f xs)
all_map P f [] h = tt
all_map P f (x ∷ xs) h = (h.0, all_map P f xs h.1)

all_in : (P : Claim → Type 0) (bits : ℕ) (ws : List Window) (ls : List (List Late))
    → ((w : ℕ) → w < length ws → All (λ e. P (claim_of bits (nth_window ws w) e)) (nth_list ls w)) → AllByRecursion P (claims_in bits ws ls)
all_in P bits [] ls h = tt
all_in P bits (w ∷ ws) [] h = tt
all_in P bits (w ∷ ws) (l ∷ ls) h =
    all_both P (map (claim_of bits w) l) (claims_in bits ws ls)
    (all_map P (claim_of bits w) l (recursion_from_All (λ e. P (claim_of bits w e)) l (h 0 (omega arith))))
    (all_in P bits ws ls (λ i less. h (suc i) (omega (arith, less))))

-- where the entries of each window are right, all that was claimed is
pub claims_right : (ts : List Triple) (bytes : List ℕ) (t : Taken) → ((w : ℕ) → w < length t.windows.list → IsRightWindow ts bytes t w) → AreRight ts bytes (claims_of t)
claims_right ts bytes t h = all_in (IsRight ts bytes) t.windows.bits t.windows.list t.lists h
