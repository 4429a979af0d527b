-- The text of a group, written value by value, is the text of all its values.
use Rattle.std.proofs.Common.{◌≡◌, ◌⊎◌, ℕ, zero, suc, take, ◌+◌, ◌<◌, ◌≤◌, ◌^◌, ◌++◌, ◌∙◌, Bool, true, false, cond, List, [], ◌∷◌, Option, None, Some, length, arith, length-append, append_assoc, refl, ap, sym, inl, inr, decimal}
use Rattle.std.specs.Prelude.{IfSome, nat_eq}
use Rattle.std.specs.List.{flat_map}
use Rattle.std.specs.Ordering.{nat_cmp}
use Rattle.std.specs.declared.cmp.Ordering.TheVariants.{Less}
use Rattle.std.specs.Cmp.{nat_cmp_is}
use Rattle.std.proofs.lemmas.Bool.{cases_lt, eqb-true, eqb-false}
use Rattle.std.proofs.lemmas.Cmp.{nat_cmp_total}
use Rattle.std.proofs.lemmas.List.{append-nil}
use Rattle.mr_bytes.specs.declared.Value.{Value}
use Rattle.mr_bytes.specs.declared.Value.TheVariants.{One, At}
use Rattle.mr_bytes.specs.Lists.{Has, Rises}
use Rattle.mr_bytes.proofs.ListLaws.{all_from_Has}
use Rattle.mr_bytes.proofs.SortLaws.{rising_is_one, sorted-Has_from}
use Rattle.mr_jobs.specs.declared.job.GroupText.{GroupText}
use Rattle.mr_jobs.specs.declared.job.GroupText.TheVariants.{Count, Lines, Files}
use Rattle.mr_jobs.specs.JobSpec.{JobSpec, group_text_of, is_count}
use Rattle.mr_reduce.specs.Files.{NeverFalls, Tells}
use Rattle.mr_reduce.specs.Text.{comma_separated, file_in, files_of, place_line, text_for, text_of}
use Rattle.mr_reduce.specs.Writing.{IsWritable, Writer, Writes, closing, file_after, last_file, opening, value_text, values_text}
use Rattle.mr_reduce.proofs.FileLemmas.{comma, file-of, files_rise, told_has}

-- ---- one value more

pub after-last : (o : Option ℕ) (vs : List Value) (v : Value) → last_file o (vs ++ v ∷ []) ≡ file_after (last_file o vs) v
after-last o [] v = refl
after-last o (u ∷ us) v = after-last (file_after o u) us v

pub text-last : (t : GroupText) (key : List ℕ) (o : Option ℕ) (vs : List Value) (v : Value)
    → values_text t key o (vs ++ v ∷ []) ≡ values_text t key o vs ++ value_text t key (last_file o vs) v
text-last t key o [] v = append-nil (value_text t key o v)
text-last t key o (u ∷ us) v =
    ap (λ l. value_text t key o u ++ l) (text-last t key (file_after o u) us v)
    ∙ sym (append_assoc (value_text t key o u) (values_text t key (file_after o u) us) (value_text t key (last_file o (u ∷ us)) v))

pub writes-more : (job : JobSpec) (key : List ℕ) (values : List Value) (before : List ℕ) (w : Writer) (now : List ℕ) (v : Value) (next : Writer) (more : List ℕ)
    → Writes job key values before w now → next.text ≡ w.text → next.key ≡ w.key → (w.count + 1 < 2 ^ 64 → next.count ≡ w.count + 1)
    → next.last ≡ file_after w.last v → more ≡ now ++ value_text w.text w.key w.last v → Writes job key (values ++ v ∷ []) before next more
writes-more job key values before w now v next more was text_is key_is counted last_is grown = record {
  text = text_is ∙ was.text;
  key_is = key_is ∙ was.key_is;
  count = λ few.
      let longer = length-append values (v ∷ []) in
      let less : length values < 2 ^ 64 = omega (arith, longer, few) in
      let up = counted (omega (arith, longer, few, was.count less)) in
      omega (arith, longer, up, was.count less);
  last = last_is ∙ ap (λ o. file_after o v) was.last ∙ sym (after-last None values v);
  written =
      grown
      ∙ ap (λ l. l ++ value_text w.text w.key w.last v) was.written
      ∙ ap (λ u. (before ++ so_far) ++ value_text u w.key w.last v) was.text
      ∙ ap (λ k. (before ++ so_far) ++ value_text t k w.last v) was.key_is
      ∙ ap (λ o. (before ++ so_far) ++ value_text t key o v) was.last
      ∙ append_assoc before so_far new
      ∙ ap (λ l. before ++ l) (append_assoc (opening t key) (values_text t key None values) new)
      ∙ ap (λ l. before ++ (opening t key ++ l)) (sym (text-last t key None values v));
}
  where
    t : GroupText
    t = group_text_of job

    so_far : List ℕ
    so_far = opening t key ++ values_text t key None values

    new : List ℕ
    new = value_text t key (last_file None values) v

-- ---- the files, each where it is another than the last one

abbrev pub is_last : Option ℕ → ℕ → Bool
is_last None file = false
is_last (Some last) file = nat_eq last file

abbrev pub runs : Option ℕ → List Value → List ℕ
runs last [] = []
runs last (One ∷ vs) = runs last vs
runs last (At file offset ∷ vs) = cond (is_last last file) (runs (Some file) vs) (file ∷ runs (Some file) vs)

text-later : (key : List ℕ) (last : ℕ) (vs : List Value) → values_text Files key (Some last) vs ≡ flat_map comma (runs (Some last) vs)
text-later key last [] = refl
text-later key last (One ∷ vs) = text-later key last vs
text-later key last (At file offset ∷ vs) = by (nat_eq last file) (text-later key file vs)
  where
    by : (t : Bool) → values_text Files key (Some file) vs ≡ flat_map comma (runs (Some file) vs)
        → cond t [] (44 ∷ decimal file) ++ values_text Files key (Some file) vs ≡ flat_map comma (cond t (runs (Some file) vs) (file ∷ runs (Some file) vs))
    by true e = e
    by false e = ap (λ l. comma file ++ l) e

text-first : (key : List ℕ) (vs : List Value) → values_text Files key None vs ≡ comma_separated (runs None vs)
text-first key [] = refl
text-first key (One ∷ vs) = text-first key vs
text-first key (At file offset ∷ vs) = ap (λ l. decimal file ++ l) (text-later key file vs)

last-is : (last : Option ℕ) (file : ℕ) → is_last last file ≡ true → last ≡ Some file
last-is None file e = absurd (let no : false ≡ true = e in cc)
last-is (Some last) file e = ap Some (eqb-true last file e)

abbrev pub in_some : Option ℕ → ℕ
in_some None = 0
in_some (Some n) = n

runs-told : (last : Option ℕ) (vs : List Value) (f : ℕ) → Has (runs last vs) f → Has (flat_map file_in vs) f
runs-told last [] f h = absurd h
runs-told last (One ∷ vs) f h = runs-told last vs f h
runs-told last (At file offset ∷ vs) f h = by (is_last last file) h (λ k. runs-told (Some file) vs f k)
  where
    by : (t : Bool) → Has (cond t (runs (Some file) vs) (file ∷ runs (Some file) vs)) f → (Has (runs (Some file) vs) f → Has (flat_map file_in vs) f)
        → Has (flat_map file_in (At file offset ∷ vs)) f
    by true k rec_of = inr (rec_of k)
    by false (inl e) rec_of = inl e
    by false (inr k) rec_of = inr (rec_of k)

told-runs : (last : Option ℕ) (vs : List Value) (f : ℕ) → Has (flat_map file_in vs) f → Has (runs last vs) f ⊎ (last ≡ Some f)
told-runs last [] f h = absurd h
told-runs last (One ∷ vs) f h = told-runs last vs f h
told-runs last (At file offset ∷ vs) f h = by (is_last last file) refl h (λ k. told-runs (Some file) vs f k)
  where
    here : (t : Bool) → is_last last file ≡ t → file ≡ f → Has (cond t (runs (Some file) vs) (file ∷ runs (Some file) vs)) f ⊎ (last ≡ Some f)
    here true is e = inr (last-is last file is ∙ ap Some e)
    here false is e = inl (inl e)

    behind : (t : Bool) → Has (runs (Some file) vs) f → Has (cond t (runs (Some file) vs) (file ∷ runs (Some file) vs)) f
    behind true k = k
    behind false k = inr k

    later : (t : Bool) → is_last last file ≡ t → Has (runs (Some file) vs) f ⊎ (Some file ≡ Some f)
        → Has (cond t (runs (Some file) vs) (file ∷ runs (Some file) vs)) f ⊎ (last ≡ Some f)
    later t is (inl k) = inl (behind t k)
    later t is (inr e) = here t is (ap in_some e)

    by : (t : Bool) → is_last last file ≡ t → Has (flat_map file_in (At file offset ∷ vs)) f → (Has (flat_map file_in vs) f → Has (runs (Some file) vs) f ⊎ (Some file ≡ Some f))
        → Has (cond t (runs (Some file) vs) (file ∷ runs (Some file) vs)) f ⊎ (last ≡ Some f)
    by t is (inl e) rec_of = here t is e
    by t is (inr k) rec_of = later t is (rec_of k)

shifted : (v : Value) (vs : List Value) (at f : ℕ) → Tells vs at f → Tells (v ∷ vs) (suc at) f
shifted v vs at f t = ((let inside : suc at < length (v ∷ vs) = omega (arith, t.0) in inside), t.1)

falls-later : (v : Value) (vs : List Value) → NeverFalls (v ∷ vs) → NeverFalls vs
falls-later v vs rise = λ i j f g less a b. rise (suc i) (suc j) f g (omega (arith, less)) (shifted v vs i f a) (shifted v vs j g b)

is-less : (a b : ℕ) → a < b → nat_cmp a b ≡ Less
is-less a b lt = sym (nat_cmp_is a b Less lt)

strict : (l f file : ℕ) → nat_eq l file ≡ false → l ≤ file → file ≡ f → l < f
strict l f file other le e = elim (cases_lt l file) [
  | inl lt ↦ (let so : l < f = omega (arith, lt, e) in so)
  | inr back ↦ absurd (eqb-false l file other (let same : l ≡ file = omega (arith, le, back) in same))
]

-- no file of the values is below the last one
abbrev pub IsLow : Option ℕ → List Value → Type 0
IsLow last vs = (at f : ℕ) → Tells vs at f → IfSome last (λ l. l ≤ f)

-- the files rise, and are above the last one
pub record RunsRise (last : Option ℕ) (ns : List ℕ) : Type 0 where
  pub rise : Rises nat_cmp ns
  pub above : (f : ℕ) → Has ns f → IfSome last (λ l. l < f)

runs-rise : (last : Option ℕ) (vs : List Value) → NeverFalls vs → IsLow last vs → RunsRise last (runs last vs)
runs-rise last [] rise low = record { rise = record {}; above = λ f h. absurd h }
runs-rise last (One ∷ vs) rise low = runs-rise last vs (falls-later One vs rise) (λ at f t. low (suc at) f (shifted One vs at f t))
runs-rise last (At file offset ∷ vs) rise low =
    by last (low 0 file first) (runs-rise (Some file) vs (falls-later (At file offset) vs rise)
    (λ at f t. rise 0 (suc at) file f (omega arith) first (shifted (At file offset) vs at f t)))
  where
    first : Tells (At file offset ∷ vs) 0 file
    first = ((let some : 0 < length (At file offset ∷ vs) = omega arith in some), inl refl)

    all : RunsRise (Some file) (runs (Some file) vs) → Rises nat_cmp (file ∷ runs (Some file) vs)
    all later = (all_from_Has (λ y. nat_cmp file y ≡ Less) (runs (Some file) vs) (λ y h. is-less file y (later.above y h)), later.rise)

    at : (l : ℕ) (t : Bool) → nat_eq l file ≡ t → l ≤ file → RunsRise (Some file) (runs (Some file) vs)
        → RunsRise (Some l) (cond t (runs (Some file) vs) (file ∷ runs (Some file) vs))
    at l true is le later = record { rise = later.rise; above = λ f h. omega (arith, eqb-true l file is, later.above f h) }
    at l false is le later = record {
      rise = all later;
      above = λ f h. elim h [
        | inl e ↦ strict l f file is le e
        | inr k ↦ (let lt = later.above f k in let so : l < f = omega (arith, le, lt) in so)
      ];
    }

    by : (last : Option ℕ) → IfSome last (λ l. l ≤ file) → RunsRise (Some file) (runs (Some file) vs)
        → RunsRise last (cond (is_last last file) (runs (Some file) vs) (file ∷ runs (Some file) vs))
    by None le later = record { rise = all later; above = λ f h. tt }
    by (Some l) le later = at l (nat_eq l file) refl le later

runs-are : (vs : List Value) → NeverFalls vs → runs None vs ≡ files_of vs
runs-are vs rise =
    rising_is_one nat_cmp (runs None vs) (files_of vs) nat_cmp_total ((runs-rise None vs rise (λ at f t. tt)).rise) (files_rise vs)
    (λ f. (λ h. file-of vs f (told_has vs f (runs-told None vs f h)), λ h. there f (told-runs None vs f (sorted-Has_from nat_cmp (flat_map file_in vs) f h))))
  where
    there : (f : ℕ) → Has (runs None vs) f ⊎ (None ≡ Some f) → Has (runs None vs) f
    there f (inl h) = h
    there f (inr e) = absurd (let no : None ≡ Some f = e in cc)

-- where files never fall, the text of the values is that of their files
pub rising-text : (vs : List Value) → NeverFalls vs → values_text Files [] None vs ≡ comma_separated (files_of vs)
rising-text vs rise = text-first [] vs ∙ ap comma_separated (runs-are vs rise)

-- the text of the first values is no longer than that of all
pub text-up-to : (t : GroupText) (key : List ℕ) (o : Option ℕ) (vs : List Value) (n : ℕ) → length (values_text t key o (take n vs)) ≤ length (values_text t key o vs)
text-up-to t key o [] zero = omega arith
text-up-to t key o [] (suc n) = omega arith
text-up-to t key o (v ∷ vs) zero = omega arith
text-up-to t key o (v ∷ vs) (suc n) =
    omega (
      arith,
      text-up-to t key (file_after o v) vs n,
      length-append (value_text t key o v) (values_text t key (file_after o v) (take n vs)),
      length-append (value_text t key o v) (values_text t key (file_after o v) vs),
    )

-- ---- the whole text

text-none : (key : List ℕ) (o : Option ℕ) (vs : List Value) → values_text Count key o vs ≡ []
text-none key o [] = refl
text-none key o (v ∷ vs) = text-none key (file_after o v) vs

text-lines : (key : List ℕ) (o : Option ℕ) (vs : List Value) → values_text Lines key o vs ≡ flat_map (place_line key) vs
text-lines key o [] = refl
text-lines key o (v ∷ vs) = ap (λ l. place_line key v ++ l) (text-lines key (file_after o v) vs)

whole : (t : GroupText) (key : List ℕ) (values : List Value) (count : ℕ) → (t ≡ Count → count ≡ length values) → (t ≡ Files → NeverFalls values)
    → (opening t key ++ values_text t key None values) ++ closing t key count ≡ text_for t key values
whole Count key values count counted rising =
    ap (λ l. l ++ closing Count key count) (text-none key None values) ∙ ap (λ n. closing Count key n) (counted refl)
whole Lines key values count counted rising = append-nil (values_text Lines key None values) ∙ text-lines key None values
whole Files key values count counted rising =
    append_assoc (key ++ 9 ∷ []) (values_text Files key None values) (10 ∷ [])
    ∙ append_assoc key (9 ∷ []) (values_text Files key None values ++ 10 ∷ [])
    ∙ ap (λ l. key ++ 9 ∷ (l ++ 10 ∷ [])) (text-first key values ∙ ap comma_separated (runs-are values (rising refl)))

pub writes-all : (job : JobSpec) (key : List ℕ) (values : List Value) (before : List ℕ) (w : Writer) (now more : List ℕ)
    → Writes job key values before w now → IsWritable job values → more ≡ now ++ closing w.text w.key w.count → more ≡ before ++ text_of job key values
writes-all job key values before w now more was fits grown =
    grown
    ∙ ap (λ l. l ++ closing w.text w.key w.count) was.written
    ∙ ap (λ u. (before ++ so_far) ++ closing u w.key w.count) was.text
    ∙ ap (λ k. (before ++ so_far) ++ closing t k w.count) was.key_is
    ∙ append_assoc before so_far (closing t key w.count)
    ∙ ap (λ l. before ++ l) (whole t key values w.count (λ e. was.count (fits.few (ap is_count e))) fits.rising)
  where
    t : GroupText
    t = group_text_of job

    so_far : List ℕ
    so_far = opening t key ++ values_text t key None values
