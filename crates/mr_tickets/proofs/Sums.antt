-- Sums over lists of views, and over numbers.
use Rattle.std.proofs.Common.{◌≡◌, ℕ, zero, suc, ◌+◌, ◌-◌, ◌<◌, ◌≤◌, List, [], ◌∷◌, ◌++◌, set, length, Bool, true, false, refl, sym, ap, ◌∙◌, arith, add-one, append-nil}
use Rattle.std.specs.Prelude.{if◌then◌else◌, nat_le, nat_lt}
use Rattle.std.proofs.lemmas.Bool.Decides.{nat_tests}
use mathlib.Core.Option.{some, some-injective, some-ne-none}
use lib.ListN.{get_elem?}
use Rattle.mr_tickets.specs.Drawn.{weigh, below, total, past, kept}

module _ {A : Type 0} (f : A → ℕ) where
  pub total_set : (l : List A) (i : ℕ) (v w : A) → get_elem? l i ≡ some v → total f (set l i w) + f v ≡ total f l + f w
  total_set [] i v w e = absurd (some-ne-none v (sym e))
  total_set (x ∷ xs) zero v w e = let is : f x ≡ f v = ap f (some-injective x v e) in omega arith
  total_set (x ∷ xs) (suc i) v w e = let r = total_set xs i v w e in omega arith

  pub total_more : (l : List A) (w : A) → total f (l ++ w ∷ []) ≡ total f l + f w
  total_more [] w = omega arith
  total_more (x ∷ xs) w = let r = total_more xs w in omega arith

  pub total_member : (l : List A) (i : ℕ) (v : A) → get_elem? l i ≡ some v → f v ≤ total f l
  total_member [] i v e = absurd (some-ne-none v (sym e))
  total_member (x ∷ xs) zero v e = let is : f x ≡ f v = ap f (some-injective x v e) in omega arith
  total_member (x ∷ xs) (suc i) v e = let r = total_member xs i v e in omega arith

  pub total_within : (g : A → ℕ) (l : List A) → ((id : ℕ) (v : A) → get_elem? l id ≡ some v → f v ≤ g v) → total f l ≤ total g l
  total_within g [] h = omega arith
  total_within g (x ∷ xs) h = let a = h 0 x refl in let r = total_within g xs (λ id v e. h (suc id) v e) in omega arith

  pub total_none : (g : A → ℕ) (l : List A) → total g l ≡ 0 → ((id : ℕ) (v : A) → get_elem? l id ≡ some v → g v ≡ 0 → f v ≡ 0) → total f l ≡ 0
  total_none g [] z h = refl
  total_none g (x ∷ xs) z h = let a = h 0 x refl (omega arith) in let r = total_none g xs (omega arith) (λ id v e. h (suc id) v e) in omega arith

-- where one has all of g, and who has nothing of g has nothing of f, it has all of f
pub total_alone : {A : Type 0} (f g : A → ℕ) (l : List A) (i : ℕ) (v : A) → get_elem? l i ≡ some v → total g l ≡ g v → ((id : ℕ) (u : A) → get_elem? l id ≡ some u → g u ≡ 0 → f u ≡ 0) → total f l ≡ f v
total_alone f g [] i v e all h = absurd (some-ne-none v (sym e))
total_alone f g (x ∷ xs) zero v e all h =
    let is : x ≡ v = some-injective x v e in
    let gx : g x ≡ g v = ap g is in
    let fx : f x ≡ f v = ap f is in
    let r = total_none f g xs (omega arith) (λ id u at. h (suc id) u at) in
    omega arith
total_alone f g (x ∷ xs) (suc i) v e all h =
    let m = total_member g xs i v e in
    let r = total_alone f g xs i v e (omega arith) (λ id u at. h (suc id) u at) in
    let a = h 0 x refl (omega arith) in
    omega arith

pub weigh_append : (h : ℕ → ℕ) (xs ys : List ℕ) → weigh h (xs ++ ys) ≡ weigh h xs + weigh h ys
weigh_append h [] ys = omega arith
weigh_append h (x ∷ xs) ys = let r = weigh_append h xs ys in omega arith

pub below_next : (h : ℕ → ℕ) (n : ℕ) → below h (n + 1) ≡ below h n + h n
below_next h n = ap (below h) (add-one n)

past_cases : (n x : ℕ) (b : Bool) → nat_le n x ≡ b → (n ≤ x → past n x ≡ 1) × (x < n → past n x ≡ 0)
past_cases n x true is = ((λ _. ap (λ (b : Bool). if b then 1 else 0) is), λ lt. absurd (grind (arith, nat_tests)))
past_cases n x false is = ((λ le. absurd (grind (arith, nat_tests))), λ _. ap (λ (b : Bool). if b then 1 else 0) is)

pub past_here : (n x : ℕ) → n ≤ x → past n x ≡ 1
past_here n x le = (past_cases n x (nat_le n x) refl).0 le

pub past_not : (n x : ℕ) → x < n → past n x ≡ 0
past_not n x lt = (past_cases n x (nat_le n x) refl).1 lt

pub past_one : (n x : ℕ) → past n x ≤ 1
past_one n x = by_test (nat_le n x)
  where
    by_test : (b : Bool) → (if b then 1 else 0) ≤ 1
    by_test true = omega arith
    by_test false = omega arith

-- as many numbers are past the limit as the word is
pub below_past : (n w : ℕ) → below (past n) w ≡ w - n
below_past n zero = omega arith
below_past n (suc w) = step (below_past n w) (nat_le n w) refl
  where
    step : below (past n) w ≡ w - n → (b : Bool) → nat_le n w ≡ b → below (past n) w + past n w ≡ suc w - n
    step r true is = let le : n ≤ w = grind (arith, nat_tests) in let p = past_here n w le in omega arith
    step r false is = let lt : w < n = grind (arith, nat_tests) in let p = past_not n w lt in omega arith

-- the weight of a number below n
abbrev pub cut : ℕ → (ℕ → ℕ) → ℕ → ℕ
cut n h x = if nat_lt x n then h x else 0

pub cut_in : (n : ℕ) (h : ℕ → ℕ) (x : ℕ) → x < n → cut n h x ≡ h x
cut_in n h x lt = let t : nat_lt x n ≡ true = grind (arith, nat_tests) in ap (λ (b : Bool). if b then h x else 0) t

pub cut_out : (n : ℕ) (h : ℕ → ℕ) (x : ℕ) → n ≤ x → cut n h x ≡ 0
cut_out n h x le = let t : nat_lt x n ≡ false = grind (arith, nat_tests) in ap (λ (b : Bool). if b then h x else 0) t

pub weigh_kept : (n : ℕ) (h : ℕ → ℕ) (xs : List ℕ) → weigh h (kept n xs) ≡ weigh (cut n h) xs
weigh_kept n h [] = refl
weigh_kept n h (x ∷ xs) = by_test (nat_lt x n) (weigh_kept n h xs)
  where
    by_test : (b : Bool) → weigh h (kept n xs) ≡ weigh (cut n h) xs → weigh h (if b then x ∷ kept n xs else kept n xs) ≡ (if b then h x else 0) + weigh (cut n h) xs
    by_test true r = ap (λ m. h x + m) r
    by_test false r = omega arith

pub kept_append : (n : ℕ) (xs ys : List ℕ) → kept n (xs ++ ys) ≡ kept n xs ++ kept n ys
kept_append n [] ys = refl
kept_append n (x ∷ xs) ys = by_test (nat_lt x n) (kept_append n xs ys)
  where
    by_test : (b : Bool) → kept n (xs ++ ys) ≡ kept n xs ++ kept n ys → (if b then x ∷ kept n (xs ++ ys) else kept n (xs ++ ys)) ≡ (if b then x ∷ kept n xs else kept n xs) ++ kept n ys
    by_test true r = ap (λ l. x ∷ l) r
    by_test false r = r

below_in : (n : ℕ) (h : ℕ → ℕ) (w : ℕ) → w ≤ n → below (cut n h) w ≡ below h w
below_in n h zero le = refl
below_in n h (suc w) le = let r = below_in n h w (omega arith) in let c = cut_in n h w (omega arith) in omega arith

-- once the word is past the limit, the weights below the limit are those of all numbers below it
pub below_cut : (n : ℕ) (h : ℕ → ℕ) (more : ℕ) → below (cut n h) (more + n) ≡ below h n
below_cut n h zero = let e : 0 + n ≡ n = omega arith in ap (below (cut n h)) e ∙ below_in n h n (omega arith)
below_cut n h (suc more) =
    let r = below_cut n h more in
    let c = cut_out n h (more + n) (omega arith) in
    let e : suc more + n ≡ suc (more + n) = omega arith in
    let f : below (cut n h) (more + n) + cut n h (more + n) ≡ below h n = omega arith in
    ap (below (cut n h)) e ∙ f

pub kept_in : (n : ℕ) (xs : List ℕ) (x : ℕ) → x < n → kept n (xs ++ x ∷ []) ≡ kept n xs ++ x ∷ []
kept_in n xs x lt =
    let t : nat_lt x n ≡ true = grind (arith, nat_tests) in
    kept_append n xs (x ∷ []) ∙ ap (λ (b : Bool). kept n xs ++ (if b then x ∷ [] else [])) t

pub kept_out : (n : ℕ) (xs : List ℕ) (x : ℕ) → n ≤ x → kept n (xs ++ x ∷ []) ≡ kept n xs
kept_out n xs x le =
    let t : nat_lt x n ≡ false = grind (arith, nat_tests) in
    kept_append n xs (x ∷ []) ∙ ap (λ (b : Bool). kept n xs ++ (if b then x ∷ [] else [])) t ∙ append-nil (kept n xs)

pub length_weigh : (xs : List ℕ) → length xs ≡ weigh (λ _. 1) xs
length_weigh [] = refl
length_weigh (x ∷ xs) = let r = length_weigh xs in omega arith

pub below_few : (n w : ℕ) → (below (cut n (λ _. 1)) w ≤ n) × (below (cut n (λ _. 1)) w ≤ w)
below_few n zero = (omega arith, omega arith)
below_few n (suc w) = step (below_few n w) (nat_lt w n) refl
  where
    step : (below (cut n (λ _. 1)) w ≤ n) × (below (cut n (λ _. 1)) w ≤ w) → (b : Bool) → nat_lt w n ≡ b → (below (cut n (λ _. 1)) w + cut n (λ _. 1) w ≤ n) × (below (cut n (λ _. 1)) w + cut n (λ _. 1) w ≤ suc w)
    step r true is = let lt : w < n = grind (arith, nat_tests) in let c = cut_in n (λ _. 1) w lt in let a = r.1 in (omega arith, omega arith)
    step r false is = let le : n ≤ w = grind (arith, nat_tests) in let c = cut_out n (λ _. 1) w le in let a = r.0 in let b = r.1 in (omega arith, omega arith)
