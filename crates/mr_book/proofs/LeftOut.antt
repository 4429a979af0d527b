-- Which records the sets of the splits leave out.
use Rattle.std.proofs.Common.{◌≡◌, ℕ, suc, ◌<◌, ◌≢◌, List, [], ◌∷◌, map, refl, ap, sym, ◌∙◌, Bool, true, false, ◌||◌, eqb, ◌==◌, arith}
use Rattle.std.proofs.lemmas.Bool.{eq-eqb, eqb-true, false_from_ne_true}
use Rattle.std.proofs.lemmas.List.Folds.{list_any-append}
use Rattle.mr_bytes.specs.declared.RecordName.{RecordName}
use Rattle.mr_splits.specs.Named.{is_left_out}
use Rattle.mr_task.specs.Values.{has_number}
use Rattle.mr_book.specs.Assembled.{in_split, records_from}

pub ne-eqb : (a b : ℕ) → a ≢ b → eqb a b ≡ false
ne-eqb a b ne = false_from_ne_true (eqb a b) (λ e. ne (eqb-true a b e))

-- the set of split i bears on the records of split i, and on no other
pub of_own : (i : ℕ) (n : RecordName) (k : List ℕ) → n.split ≡ i → is_left_out (map (in_split i) k) n ≡ has_number k n.rec
of_own i n [] e = refl
of_own i n (r ∷ k) e = let here : eqb i n.split ≡ true = eq-eqb i n.split (sym e) in rw here (ap (λ b. (r == n.rec) || b) (of_own i n k e))

pub of_other : (i : ℕ) (n : RecordName) (k : List ℕ) → i ≢ n.split → is_left_out (map (in_split i) k) n ≡ false
of_other i n [] e = refl
of_other i n (r ∷ k) e = let here : eqb i n.split ≡ false = ne-eqb i n.split e in rw here (of_other i n k e)

pub of_later : (i : ℕ) (n : RecordName) (ks : List (List ℕ)) → n.split < i → is_left_out (records_from i ks) n ≡ false
of_later i n [] l = refl
of_later i n (k ∷ ks) l = let other : i ≢ n.split = omega arith in list_any-append _ (map (in_split i) k) (records_from (suc i) ks) ∙ (λ j. of_other i n k other j || of_later (suc i) n ks (omega arith) j)

-- the first split's set decides of its records, the later ones' of the others
pub first_decides : (i : ℕ) (n : RecordName) (k : List ℕ) (ks : List (List ℕ)) → n.split ≡ i → is_left_out (records_from i (k ∷ ks)) n ≡ has_number k n.rec
first_decides i n k ks e =
    list_any-append _ (map (in_split i) k) (records_from (suc i) ks) ∙ ((λ j. of_own i n k e j || of_later (suc i) n ks (omega arith) j) ∙ plain (has_number k n.rec))
  where
    plain : (b : Bool) → (b || false) ≡ b
    plain true = refl
    plain false = refl

pub later_decide : (i : ℕ) (n : RecordName) (k : List ℕ) (ks : List (List ℕ)) → i < n.split → is_left_out (records_from i (k ∷ ks)) n ≡ is_left_out (records_from (suc i) ks) n
later_decide i n k ks l =
    let other : i ≢ n.split = omega arith in
    list_any-append _ (map (in_split i) k) (records_from (suc i) ks) ∙ ap (λ b. b || is_left_out (records_from (suc i) ks) n) (of_other i n k other)
