-- Rows of parts, one of which is read after another.
use Rattle.std.proofs.Common.{◌≡◌, ℕ, zero, suc, ◌+◌, ◌<◌, ◌≤◌, ◌⊎◌, inl, inr, List, [], ◌∷◌, ◌++◌, length, length-append, get_or, refl, ap, sym, ◌∙◌, subst, arith}
use Rattle.std.proofs.lemmas.Bool.{cases_lt}
use Rattle.std.proofs.lemmas.List.{get_or_append_left}
use Rattle.std.proofs.Math.Seq.{get_or-append_seam}
use Rattle.std.proofs.Math.ListN.{set}
use Rattle.std.specs.Prelude.{Option, Vec}
use Rattle.std.specs.Global.{Global}
use Rattle.std.specs.List.{AllByRecursion}
use Rattle.mr_files.specs.Holding.{Faulty, Stored}
use Rattle.mr_shards.specs.Verdict.{Told}
use Rattle.mr_shard_files.specs.declared.stream.Part.{Part}
use Rattle.mr_shard_files.specs.Streams.{AreOpened, AreRows}

pub all_more : {A : Type 0} (P : A → Type 0) (xs : List A) (x : A) → AllByRecursion P xs → P x → AllByRecursion P (xs ++ x ∷ [])
all_more P [] x h k = (k, tt)
all_more P (y ∷ xs) x h k = (h.0, all_more P xs x h.1 k)

set_other : {A : Type 0} (xs : List A) (i p : ℕ) (x d : A) → i < p → get_or (set xs i x) p d ≡ get_or xs p d
set_other [] i p x d less = refl
set_other (y ∷ xs) zero zero x d less = absurd (omega (arith, less))
set_other (y ∷ xs) zero (suc p) x d less = refl
set_other (y ∷ xs) (suc i) zero x d less = absurd (omega (arith, less))
set_other (y ∷ xs) (suc i) (suc p) x d less = set_other xs i p x d (omega (arith, less))

pub set_length : {A : Type 0} (xs : List A) (i : ℕ) (x : A) → length (set xs i x) ≡ length xs
set_length [] i x = refl
set_length (y ∷ xs) zero x = refl
set_length (y ∷ xs) (suc i) x = ap (λ k. suc k) (set_length xs i x)

module _ {R : Type 0} (holds : Stored) (unreadable : Faulty) (remaining : R → Option (List ℕ)) (can_fail : R → Type 0) (names : List (List ℕ)) (vs : List Told) where
  pub rows_none : (rows : List (Vec (Part R) Global)) → rows ≡ [] → AreRows holds unreadable remaining can_fail names vs 0 rows
  rows_none rows e p d from less = let none = ap length e in absurd (omega (arith, less, none))

  pub rows_more : (rows after : List (Vec (Part R) Global)) (row : Vec (Part R) Global) (n : ℕ) → length rows ≡ n → after ≡ rows ++ row ∷ [] → AreRows holds unreadable remaining can_fail names vs 0 rows
      → AreOpened holds unreadable remaining can_fail n names vs row.items → AreRows holds unreadable remaining can_fail names vs 0 after
  rows_more rows after row n count more h k p d from less = subst (λ (l : List (Vec (Part R) Global)). AreOpened holds unreadable remaining can_fail p names vs (get_or l p d).items) (sym more) (by (cases_lt p n))
    where
      by : (p < n) ⊎ (n ≤ p) → AreOpened holds unreadable remaining can_fail p names vs (get_or (rows ++ row ∷ []) p d).items
      by (inl l) = subst (λ (q : Vec (Part R) Global). AreOpened holds unreadable remaining can_fail p names vs q.items) (sym (get_or_append_left rows (row ∷ []) d p (omega (arith, l, count)))) (h p d (omega arith) (omega (arith, l, count)))
      by (inr g) =
          let whole = ap length more ∙ length-append rows (row ∷ []) in
          let same : n ≡ p = omega (arith, g, less, whole, count) in
          let at : get_or (rows ++ row ∷ []) p d ≡ row = ap (λ k. get_or (rows ++ row ∷ []) k d) (sym same ∙ sym count) ∙ get_or-append_seam rows row [] d in
          subst (λ (q : Vec (Part R) Global). AreOpened holds unreadable remaining can_fail p names vs q.items) (sym at) (subst (λ k. AreOpened holds unreadable remaining can_fail k names vs row.items) same k)

  -- the first of them was read
  pub rows_rest : (rows : List (Vec (Part R) Global)) (i : ℕ) (row : Vec (Part R) Global) → AreRows holds unreadable remaining can_fail names vs i rows → AreRows holds unreadable remaining can_fail names vs (i + 1) (set rows i row)
  rows_rest rows i row h p d from less =
      let less' = set_length rows i row in
      subst (λ (q : Vec (Part R) Global). AreOpened holds unreadable remaining can_fail p names vs q.items) (sym (set_other rows i p row d (omega (arith, from)))) (h p d (omega (arith, from)) (omega (arith, less, less')))

  -- the one that is read
  pub row_at : (rows : List (Vec (Part R) Global)) (i : ℕ) (d row : Vec (Part R) Global) (parts : List (Part R)) → i < length rows → row ≡ get_or rows i d → parts ≡ row.items
      → AreRows holds unreadable remaining can_fail names vs i rows → AreOpened holds unreadable remaining can_fail i names vs parts
  row_at rows i d row parts less is shown h =
      subst (AreOpened holds unreadable remaining can_fail i names vs) (sym (shown ∙ ap (λ (v : Vec (Part R) Global). v.items) is)) (h i d (omega arith) less)
