-- How many entries have no output.
use Rattle.std.proofs.Common.{◌≡◌, ℕ, zero, suc, ◌<◌, ◌+◌, Option, Some, None, List, [], ◌∷◌, length, replicate, slice_get, slice_index_or, refl, ap, sym, ◌∙◌, arith, Bool, true, false, cond, not, ◌&&◌, ◌==◌, is_some, is_none}
use Rattle.std.specs.Prelude.{slice_set}
use Rattle.std.specs.List.{list_all, count_by}
use Rattle.std.proofs.lemmas.List.Sums.{sum_by-cons}
use Rattle.std.proofs.lemmas.Bool.Decides.{nat_tests}
use Rattle.mr_core.specs.declared.entries.Split.{Split}
use Rattle.mr_core.specs.Master.{update_at, is_numbered, without_output}
use Rattle.mr_core.proofs.Places.{sum-update}

-- all are so where none is counted that isn't
all_counted : {X : Type 0} (p n : X → Bool) → ((x : X) → n x ≡ not (p x)) → (xs : List X) → list_all p xs ≡ (count_by n xs == 0)
all_counted p n other [] = refl
all_counted p n other (x ∷ xs) = by (p x) refl (all_counted p n other xs)
  where
    by : (b : Bool) → p x ≡ b → list_all p xs ≡ (count_by n xs == 0) → (b && list_all p xs) ≡ (count_by n (x ∷ xs) == 0)
    by true e rest =
        let none : ◌≡◌ {A = ℕ} (cond (n x) 1 0) 0 = ap (λ b. cond b 1 0) (other x ∙ ap not e) in
        let same : count_by n xs ≡ count_by n (x ∷ xs) = omega (arith, none, sum_by-cons (λ y. cond (n y) 1 0) x xs) in
        rest ∙ ap (λ (k : ℕ). k == 0) same
    by false e rest =
        let one : ◌≡◌ {A = ℕ} (cond (n x) 1 0) 1 = ap (λ b. cond b 1 0) (other x ∙ ap not e) in
        let more : count_by n (x ∷ xs) ≡ suc (count_by n xs) = omega (arith, one, sum_by-cons (λ y. cond (n y) 1 0) x xs) in
        let no : (count_by n (x ∷ xs) == 0) ≡ false = grind (arith, nat_tests) in
        sym no

other : {Y : Type 0} (o : Option Y) → is_none o ≡ not (is_some o)
other None = refl
other (Some y) = refl

pub none_missing : (xs : List Split) → list_all (λ sp. is_some sp.output) xs ≡ (count_by (λ sp. is_none sp.output) xs == 0)
none_missing xs = all_counted (λ (sp : Split). is_some sp.output) (λ (sp : Split). is_none sp.output) (λ sp. other sp.output) xs

pub no_output_missing : (xs : List (Option ℕ)) → list_all is_some xs ≡ (count_by is_none xs == 0)
no_output_missing xs = all_counted is_some is_none other xs

pub none_yet : (n : ℕ) → (let xs : List (Option ℕ) = replicate n None in count_by is_none xs) ≡ n
none_yet zero = refl
none_yet (suc n) = omega (arith, none_yet n, sum_by-cons (λ (o : Option ℕ). cond (is_none o) 1 0) None (replicate n None))

filled : {X : Type 0} (n : X → Bool) (f : X → X) (i : ℕ) (xs : List X) (x : X) → slice_get xs i ≡ Some x → n (f x) ≡ false → count_by n (update_at f i xs) + cond (n x) 1 0 ≡ count_by n xs
filled n f i xs x e d =
    let none : ◌≡◌ {A = ℕ} (cond (n (f x)) 1 0) 0 = ap (λ b. cond b 1 0) d in
    omega (arith, none, sum-update (λ y. cond (n y) 1 0) f i xs x e)

pub split_filled : (f : Split → Split) (i : ℕ) (xs : List Split) (d : Split) → i < length xs → ((sp : Split) → is_none (f sp).output ≡ false) → count_by (λ (sp : Split). is_none sp.output) (update_at f i xs) + cond (is_none (slice_index_or xs i d).output) 1 0 ≡ count_by (λ (sp : Split). is_none sp.output) xs
split_filled f i xs d h has = filled (λ (sp : Split). is_none sp.output) f i xs (slice_index_or xs i d) (there xs i d h) (has _)
  where
    there : (xs : List Split) (i : ℕ) (d : Split) → i < length xs → slice_get xs i ≡ Some (slice_index_or xs i d)
    there [] i d h = absurd (omega arith)
    there (x ∷ xs) zero d h = refl
    there (x ∷ xs) (suc i) d h = there xs i d (omega arith)

pub split_emptied : (o i : ℕ) (xs : List Split) (d : Split) → i < length xs
    → count_by (λ (sp : Split). is_none sp.output) (update_at (without_output o) i xs) ≡ count_by (λ (sp : Split). is_none sp.output) xs + cond (is_numbered o (slice_index_or xs i d).output) 1 0
split_emptied o i [] d h = absurd (omega arith)
split_emptied o zero (x ∷ xs) d h =
    omega (arith, more x.output, sum_by-cons (λ (sp : Split). cond (is_none sp.output) 1 0) x xs, sum_by-cons (λ (sp : Split). cond (is_none sp.output) 1 0) (without_output o x) xs)
  where
    more : (y : Option (ℕ × ℕ)) → ◌≡◌ {A = ℕ} (cond (is_none (cond (is_numbered o y) None y)) 1 0) (cond (is_none y) 1 0 + cond (is_numbered o y) 1 0)
    more None = refl
    more (Some z) = by (z.0 == o)
      where
        by : (b : Bool) → ◌≡◌ {A = ℕ} (cond (is_none (cond b None (Some z))) 1 0) (0 + cond b 1 0)
        by true = refl
        by false = refl
split_emptied o (suc i) (x ∷ xs) d h =
    omega (arith, split_emptied o i xs d (omega arith), sum_by-cons (λ (sp : Split). cond (is_none sp.output) 1 0) x xs, sum_by-cons (λ (sp : Split). cond (is_none sp.output) 1 0) x (update_at (without_output o) i xs))

-- one element put in the place of another that is counted alike
pub count_set : (xs : List Split) (i : ℕ) (d y : Split) → i < length xs → y.output ≡ (slice_index_or xs i d).output → count_by (λ (sp : Split). is_none sp.output) (slice_set xs i y) ≡ count_by (λ (sp : Split). is_none sp.output) xs
count_set [] i d y h e = absurd (omega arith)
count_set (x ∷ xs) zero d y h e =
    let same : ◌≡◌ {A = ℕ} (cond (is_none y.output) 1 0) (cond (is_none x.output) 1 0) = ap (λ (o : Option (ℕ × ℕ)). cond (is_none o) 1 0) e in
    omega (arith, same, sum_by-cons (λ (sp : Split). cond (is_none sp.output) 1 0) x xs, sum_by-cons (λ (sp : Split). cond (is_none sp.output) 1 0) y xs)
count_set (x ∷ xs) (suc i) d y h e = omega (arith, sum_by-cons (λ (sp : Split). cond (is_none sp.output) 1 0) x xs, sum_by-cons (λ (sp : Split). cond (is_none sp.output) 1 0) x (slice_set xs i y), count_set xs i d y (omega arith) e)
