-- Texts that grow, one row after another.
use Rattle.std.proofs.Common.{◌≡◌, ◌≢◌, ℕ, suc, ◌+◌, ◌<◌, ◌≤◌, cond, eqb, List, [], ◌∷◌, ◌++◌, length, get_or, set, drop, refl, sym, ◌∙◌, ap, arith, Vec, Global, append_assoc, inl, inr, subst}
use Rattle.std.proofs.lemmas.Bool.{cases_eq, eq-eqb, ne_eqb}
use Rattle.std.proofs.lemmas.List.{at_drop_more, at_drop_all, map-set, get_or-map, get_or-set_same, get_or-set_other, append-nil}
use Rattle.mr_input.specs.Files.{contents, nth_file}
use Rattle.mr_group.specs.declared.rows.Row.{Row}
use Rattle.mr_group.specs.Rows.{no_row}
use Rattle.mr_sequential.specs.Rows.{row_texts}

-- one text of many gets more bytes
pub contents-set : (ts : List (Vec ℕ Global)) (i : ℕ) (was now : Vec ℕ Global) (more : List ℕ) → i < length ts
    → was ≡ get_or ts i was → now.items ≡ was.items ++ more
    → contents (set ts i now) ≡ set (contents ts) i (nth_file (contents ts) i ++ more)
contents-set ts i was now more h is grown =
    let old : nth_file (contents ts) i ≡ was.items =
    get_or-map (λ (f : Vec ℕ Global). f.items) ts i was [] h ∙ ap (λ (f : Vec ℕ Global). f.items) (sym is) in
    map-set (λ (f : Vec ℕ Global). f.items) ts i now
    ∙ ap (λ bytes. set (contents ts) i bytes) (grown ∙ ap (λ bytes. bytes ++ more) (sym old))

pub row_texts-nil : (text : ℕ → Row → List ℕ) (p r : ℕ) → row_texts text p r [] ≡ []
unfolding row_texts
row_texts-nil text p r = refl

row_texts-cons : (text : ℕ → Row → List ℕ) (p r : ℕ) (x : Row) (xs : List Row)
    → row_texts text p r (x ∷ xs) ≡ cond (eqb x.part p) (text r x ++ row_texts text p (r + 1) xs) (row_texts text p (r + 1) xs)
unfolding row_texts
row_texts-cons text p r x xs = refl

pub row_texts-same : (text : ℕ → Row → List ℕ) (p r : ℕ) (x : Row) (xs : List Row) → x.part ≡ p → row_texts text p r (x ∷ xs) ≡ text r x ++ row_texts text p (r + 1) xs
row_texts-same text p r x xs e =
    row_texts-cons text p r x xs ∙ ap (λ t. cond t (text r x ++ row_texts text p (r + 1) xs) (row_texts text p (r + 1) xs)) (eq-eqb x.part p e)

pub row_texts-other : (text : ℕ → Row → List ℕ) (p r : ℕ) (x : Row) (xs : List Row) → (x.part ≢ p) → row_texts text p r (x ∷ xs) ≡ row_texts text p (r + 1) xs
row_texts-other text p r x xs e =
    row_texts-cons text p r x xs ∙ ap (λ t. cond t (text r x ++ row_texts text p (r + 1) xs) (row_texts text p (r + 1) xs)) (ne_eqb x.part p e)

-- the text of one more row stands at the end of its partition's text
pub row_more : (text : ℕ → Row → List ℕ) (rows : List Row) (r : ℕ) (x : Row) (ts ts' : List (List ℕ)) (p : ℕ) → r < length rows → x ≡ get_or rows r x
    → x.part < length ts → ts' ≡ set ts x.part (nth_file ts x.part ++ text r x)
    → nth_file ts' p ++ row_texts text p (r + 1) (drop (r + 1) rows) ≡ nth_file ts p ++ row_texts text p r (drop r rows)
row_more text rows r x ts ts' p h is within grown =
    let rest : List ℕ = row_texts text p (r + 1) (drop (r + 1) rows) in
    let next : row_texts text p r (drop r rows) ≡ row_texts text p r (x ∷ drop (r + 1) rows) =
    at_drop_more (row_texts text p r) rows r x h ∙ ap (λ (y : Row). row_texts text p r (y ∷ drop (r + 1) rows)) (sym is) in
    elim (cases_eq x.part p) [
      | inl e ↦
          let now : nth_file ts' p ≡ nth_file ts p ++ text r x =
          ap (λ l. nth_file l p) grown ∙ ap (λ q. nth_file (set ts q (nth_file ts q ++ text r x)) p) e ∙ get_or-set_same ts p (nth_file ts p ++ text r x) [] (subst (λ q. q < length ts) e within) in
          ap (λ l. l ++ rest) now ∙ append_assoc (nth_file ts p) (text r x) rest
          ∙ ap (λ l. nth_file ts p ++ l) (sym (next ∙ row_texts-same text p r x (drop (r + 1) rows) e))
      | inr ne ↦
          let now : nth_file ts' p ≡ nth_file ts p = ap (λ l. nth_file l p) grown ∙ get_or-set_other ts x.part p (nth_file ts x.part ++ text r x) [] (λ e. ne (sym e)) in
          ap (λ l. l ++ rest) now ∙ ap (λ l. nth_file ts p ++ l) (sym (next ∙ row_texts-other text p r x (drop (r + 1) rows) ne))
    ]

pub row_end : (text : ℕ → Row → List ℕ) (rows : List Row) (r p : ℕ) (t : List ℕ) → length rows ≤ r → t ++ row_texts text p r (drop r rows) ≡ t
row_end text rows r p t h = ap (λ l. t ++ l) (at_drop_all (row_texts text p r) rows r h ∙ row_texts-nil text p r) ∙ append-nil t

-- rows of the same texts
pub row_texts-congr : (f g : ℕ → Row → List ℕ) (p r : ℕ) (rows : List Row)
    → ((j : ℕ) → j < length rows → f (r + j) (get_or rows j no_row) ≡ g (r + j) (get_or rows j no_row)) → row_texts f p r rows ≡ row_texts g p r rows
row_texts-congr f g p r [] same = row_texts-nil f p r ∙ sym (row_texts-nil g p r)
row_texts-congr f g p r (x ∷ rows) same =
    let zero_more : r + 0 ≡ r = omega arith in
    let first : f r x ≡ g r x = ap (λ n. f n x) (sym zero_more) ∙ same 0 (omega arith) ∙ ap (λ n. g n x) zero_more in
    let later : row_texts f p (r + 1) rows ≡ row_texts g p (r + 1) rows =
    row_texts-congr f g p (r + 1) rows
    (λ j h. (let more : r + suc j ≡ r + 1 + j = omega arith in
    ap (λ n. f n (get_or rows j no_row)) (sym more) ∙ same (suc j) (omega (arith, h)) ∙ ap (λ n. g n (get_or rows j no_row)) more)) in
    elim (cases_eq x.part p) [
      | inl e ↦ row_texts-same f p r x rows e ∙ ap (λ l. l ++ row_texts f p (r + 1) rows) first ∙ ap (λ l. g r x ++ l) later ∙ sym (row_texts-same g p r x rows e)
      | inr ne ↦ row_texts-other f p r x rows ne ∙ later ∙ sym (row_texts-other g p r x rows ne)
    ]
