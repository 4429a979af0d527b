-- A text of lines has one reading.
use Rattle.std.proofs.Common.{◌≡◌, ℕ, ◌<◌, ◌^◌, ◌++◌, List, [], ◌∷◌, length, refl, ap, sym, ◌∙◌, subst, Bool, true, false, cond, eqb, ◌||◌, map, arith, append_assoc, replicate}
use Rattle.std.specs.Prelude.{decimal}
use Rattle.std.proofs.lemmas.Bool.{eq-eqb, ne_eqb}
use Rattle.std.proofs.lemmas.List.{append-nil}
use Rattle.std.proofs.lemmas.Fmt.{decimal_is_IsNumeral}
use Rattle.std.proofs.lemmas.Str.Parse.{digit_from_value}
use Rattle.std.specs.Int.{IsInRange}
use Rattle.std.specs.List.{flat_map}
use Rattle.std.specs.Str.Parse.{AllDigits, digits_value}
use Rattle.mr_bytes.specs.declared.Value.TheVariants.{One, At}
use Rattle.mr_jobs.specs.JobSpec.{group_text_of}
use Rattle.mr_jobs.specs.declared.job.GroupText.{GroupText}
use Rattle.mr_jobs.specs.declared.job.GroupText.TheVariants.{Count, Lines, Files}
use Rattle.mr_bytes.specs.Cut.{Lacks}
use Rattle.mr_jobs.specs.Url.{before_byte}
use Rattle.mr_reduce.specs.Text.{comma_separated, file_in, files_line, files_of, total_line, place_line}
use Rattle.mr_reduce.proofs.FileLemmas.{comma, files_rise}
use Rattle.std.proofs.lemmas.Cmp.{nat_cmp_total, ranked}
use Rattle.std.specs.Ordering.{nat_cmp}
use Rattle.std.specs.declared.cmp.Ordering.TheVariants.{Equal}
use Rattle.mr_bytes.specs.Lists.{Has, Rises}
use Rattle.mr_bytes.proofs.SortLaws.{rising_is_one, sorted-Has, sorted-Has_from}
use Rattle.std.specs.List.{AllByRecursion}
use Rattle.mr_shards.specs.Index.{NumbersRead}
use Rattle.mr_shards.specs.Merged.{Group, group_text_for, texts_for}
use Rattle.mr_shards.specs.Lines.{fields, longer, lines, has_byte, before_last, after_last, after_first, places_in, values_in, group_in, groups_for, HasLine, OneReading}

pub lines-next : (l rest : List ℕ) → Lacks 10 l → lines (l ++ 10 ∷ rest) ≡ l ∷ lines rest
unfolding lines longer
lines-next [] rest clear = refl
lines-next (b ∷ l) rest clear =
    ap (λ t. cond t ([] ∷ lines (l ++ 10 ∷ rest)) (longer b (lines (l ++ 10 ∷ rest)))) (ne_eqb b 10 clear.0) ∙ ap (longer b) (lines-next l rest clear.1)

pub lines-none : lines [] ≡ []
unfolding lines
lines-none = refl

pub Lacks-append : (b : ℕ) (xs ys : List ℕ) → Lacks b xs → Lacks b ys → Lacks b (xs ++ ys)
Lacks-append b [] ys h k = k
Lacks-append b (x ∷ xs) ys h k = (h.0, Lacks-append b xs ys h.1 k)

-- a byte that is no digit
digits-lack : (b : ℕ) (ds : List ℕ) → (IsInRange 48 57 b → ⊥) → AllDigits 10 ds → Lacks b ds
digits-lack b [] other h = tt
digits-lack b (d ∷ ds) other h = (λ e. other (subst (IsInRange 48 57) e (digit_from_value d h.0)), digits-lack b ds other h.1)

pub decimal-lacks : (b n : ℕ) → (IsInRange 48 57 b → ⊥) → n < 2 ^ 64 → Lacks b (decimal n)
decimal-lacks b n other small = digits-lack b (decimal n) other (decimal_is_IsNumeral n small).0.1

lf_other : IsInRange 48 57 10 → ⊥
lf_other h = omega (arith, h.0)

tab_other : IsInRange 48 57 9 → ⊥
tab_other h = omega (arith, h.0)

colon_other : IsInRange 48 57 58 → ⊥
colon_other h = omega (arith, h.1)

or_true : (a : Bool) → (a || true) ≡ true
or_true true = refl
or_true false = refl

has-there : (b : ℕ) (xs ys : List ℕ) → has_byte b (xs ++ b ∷ ys) ≡ true
has-there b [] ys = ap (λ t. t || has_byte b ys) (eq-eqb b b refl)
has-there b (x ∷ xs) ys = ap (λ t. eqb x b || t) (has-there b xs ys) ∙ or_true (eqb x b)

pub has-none : (b : ℕ) (xs : List ℕ) → Lacks b xs → has_byte b xs ≡ false
has-none b [] h = refl
has-none b (x ∷ xs) h = ap (λ t. t || has_byte b xs) (ne_eqb x b h.0) ∙ has-none b xs h.1

pub before-last : (b : ℕ) (xs ys : List ℕ) → Lacks b ys → before_last b (xs ++ b ∷ ys) ≡ xs
unfolding before_last
before-last b [] ys h = ap (λ t. cond t (b ∷ before_last b ys) []) (has-none b ys h)
before-last b (x ∷ xs) ys h =
    ap (λ t. cond t (x ∷ before_last b (xs ++ b ∷ ys)) []) (has-there b xs ys) ∙ ap (λ l. x ∷ l) (before-last b xs ys h)

pub after-last : (b : ℕ) (xs ys : List ℕ) → Lacks b ys → after_last b (xs ++ b ∷ ys) ≡ ys
unfolding after_last
after-last b [] ys h = ap (λ t. cond t (after_last b ys) ys) (has-none b ys h)
after-last b (x ∷ xs) ys h =
    ap (λ t. cond t (after_last b (xs ++ b ∷ ys)) (xs ++ b ∷ ys)) (has-there b xs ys) ∙ after-last b xs ys h

pub before-first : (b : ℕ) (xs ys : List ℕ) → Lacks b xs → before_byte b (xs ++ b ∷ ys) ≡ xs
unfolding before_byte
before-first b [] ys h = ap (λ t. cond t [] (b ∷ before_byte b ys)) (eq-eqb b b refl)
before-first b (x ∷ xs) ys h = ap (λ t. cond t [] (x ∷ before_byte b (xs ++ b ∷ ys))) (ne_eqb x b h.0) ∙ ap (λ l. x ∷ l) (before-first b xs ys h.1)

pub after-first : (b : ℕ) (xs ys : List ℕ) → Lacks b xs → after_first b (xs ++ b ∷ ys) ≡ ys
unfolding after_first
after-first b [] ys h = ap (λ t. cond t ys (after_first b ys)) (eq-eqb b b refl)
after-first b (x ∷ xs) ys h = ap (λ t. cond t (xs ++ b ∷ ys) (after_first b (xs ++ b ∷ ys))) (ne_eqb x b h.0) ∙ after-first b xs ys h.1

-- ---- a line in front of a text

one-line : (form : GroupText) (key told rest : List ℕ) → Lacks 10 key → Lacks 10 told → Lacks 9 told
    → groups_for form ((key ++ 9 ∷ told) ++ 10 ∷ rest) ≡ record { key = key; values = values_in form told } ∷ groups_for form rest
one-line form key told rest clear clear' whole =
    let line : List ℕ = key ++ 9 ∷ told in
    let first = before-last 9 key told whole in
    let second = ap (values_in form) (after-last 9 key told whole) in
    ap (map (group_in form)) (lines-next line rest (Lacks-append 10 key (9 ∷ told) clear (λ e. omega (arith, e), clear')))
    ∙ (λ i. record { key = first i; values = second i } ∷ groups_for form rest)

-- a line of totals, followed by a text
pub total-first : (key : List ℕ) (n : ℕ) (rest : List ℕ) → total_line key n ++ rest ≡ (key ++ 9 ∷ decimal n) ++ 10 ∷ rest
total-first key n rest = append_assoc (key ++ 9 ∷ decimal n) (10 ∷ []) rest

pub place-first : (key : List ℕ) (file offset : ℕ) (rest : List ℕ)
    → place_line key (At file offset) ++ rest ≡ (key ++ 9 ∷ (decimal file ++ 58 ∷ decimal offset)) ++ 10 ∷ rest
place-first key file offset rest =
    append_assoc ((key ++ 9 ∷ decimal file) ++ 58 ∷ decimal offset) (10 ∷ []) rest
    ∙ ap (λ l. l ++ 10 ∷ rest) (append_assoc key (9 ∷ decimal file) (58 ∷ decimal offset))

-- a number that a text tells
pub value-of : (n : ℕ) → n < 2 ^ 64 → digits_value 10 (decimal n) ≡ n
value-of n small = (decimal_is_IsNumeral n small).1

pub total-read : (key : List ℕ) (n : ℕ) (rest : List ℕ) → Lacks 10 key → n < 2 ^ 64
    → groups_for Count (total_line key n ++ rest) ≡ record { key = key; values = replicate n One } ∷ groups_for Count rest
total-read key n rest clear small =
    ap (groups_for Count) (total-first key n rest)
    ∙ one-line Count key (decimal n) rest clear (decimal-lacks 10 n lf_other small) (decimal-lacks 9 n tab_other small)
    ∙ (let e = ap (λ m. replicate m One) (value-of n small) in λ i. record { key = key; values = e i } ∷ groups_for Count rest)

pub place-read : (key : List ℕ) (file offset : ℕ) (rest : List ℕ) → Lacks 10 key → file < 2 ^ 64 → offset < 2 ^ 64
    → groups_for Lines (place_line key (At file offset) ++ rest) ≡ record { key = key; values = At file offset ∷ [] } ∷ groups_for Lines rest
place-read key file offset rest clear small small' =
    let told : List ℕ = decimal file ++ 58 ∷ decimal offset in
    let first : digits_value 10 (before_byte 58 told) ≡ file =
    ap (digits_value 10) (before-first 58 (decimal file) (decimal offset) (decimal-lacks 58 file colon_other small)) ∙ value-of file small in
    let second : digits_value 10 (after_first 58 told) ≡ offset =
    ap (digits_value 10) (after-first 58 (decimal file) (decimal offset) (decimal-lacks 58 file colon_other small)) ∙ value-of offset small' in
    ap (groups_for Lines) (place-first key file offset rest)
    ∙ one-line Lines key told rest clear
    (Lacks-append 10 (decimal file) (58 ∷ decimal offset) (decimal-lacks 10 file lf_other small) (λ e. omega (arith, e), decimal-lacks 10 offset lf_other small'))
    (Lacks-append 9 (decimal file) (58 ∷ decimal offset) (decimal-lacks 9 file tab_other small) (λ e. omega (arith, e), decimal-lacks 9 offset tab_other small'))
    ∙ (λ i. record { key = key; values = At (first i) (second i) ∷ [] } ∷ groups_for Lines rest)

-- ---- numbers between commas

pub fields-next : (l rest : List ℕ) → Lacks 44 l → fields (l ++ 44 ∷ rest) ≡ l ∷ fields rest
unfolding fields longer
fields-next [] rest clear = refl
fields-next (b ∷ l) rest clear =
    ap (λ t. cond t ([] ∷ fields (l ++ 44 ∷ rest)) (longer b (fields (l ++ 44 ∷ rest)))) (ne_eqb b 44 clear.0) ∙ ap (longer b) (fields-next l rest clear.1)

pub fields-last : (l : List ℕ) → Lacks 44 l → fields l ≡ l ∷ []
unfolding fields longer
fields-last [] clear = refl
fields-last (b ∷ l) clear = ap (λ t. cond t ([] ∷ fields l) (longer b (fields l))) (ne_eqb b 44 clear.0) ∙ ap (longer b) (fields-last l clear.1)

comma_other : IsInRange 48 57 44 → ⊥
comma_other h = omega (arith, h.0)

pub fields-commas : (n : ℕ) (ns : List ℕ) → AllByRecursion (λ m. m < 2 ^ 64) (n ∷ ns) → fields (decimal n ++ flat_map comma ns) ≡ decimal n ∷ map decimal ns
fields-commas n [] small = ap fields (append-nil (decimal n)) ∙ fields-last (decimal n) (decimal-lacks 44 n comma_other small.0)
fields-commas n (m ∷ ms) small =
    fields-next (decimal n) (decimal m ++ flat_map comma ms) (decimal-lacks 44 n comma_other small.0) ∙ ap (λ l. decimal n ∷ l) (fields-commas m ms small.1)

pub values-read : (ns : List ℕ) → AllByRecursion (λ m. m < 2 ^ 64) ns → map (digits_value 10) (map decimal ns) ≡ ns
values-read [] small = refl
values-read (n ∷ ns) small = let here = value-of n small.0 in let rest = values-read ns small.1 in λ i. here i ∷ rest i

pub numbers_read : NumbersRead
numbers_read n ns small = ap (map (digits_value 10)) (fields-commas n ns small) ∙ values-read (n ∷ ns) small

-- ---- lines of an index

commas-lack : (b : ℕ) (ns : List ℕ) → (IsInRange 48 57 b → ⊥) → (44 ≡ b → ⊥) → AllByRecursion (λ n. n < 2 ^ 64) ns → Lacks b (flat_map comma ns)
commas-lack b [] other ne small = tt
commas-lack b (n ∷ ns) other ne small =
    (ne, Lacks-append b (decimal n) (flat_map comma ns) (decimal-lacks b n other small.0) (commas-lack b ns other ne small.1))

pub separated-lack : (b n : ℕ) (ns : List ℕ) → (IsInRange 48 57 b → ⊥) → (44 ≡ b → ⊥) → AllByRecursion (λ m. m < 2 ^ 64) (n ∷ ns) → Lacks b (comma_separated (n ∷ ns))
separated-lack b n ns other ne small = Lacks-append b (decimal n) (flat_map comma ns) (decimal-lacks b n other small.0) (commas-lack b ns other ne small.1)

pub line-text : (key told rest : List ℕ) → (key ++ 9 ∷ (told ++ 10 ∷ [])) ++ rest ≡ (key ++ 9 ∷ told) ++ 10 ∷ rest
line-text key told rest =
    append_assoc key (9 ∷ (told ++ 10 ∷ [])) rest ∙ ap (λ l. key ++ 9 ∷ l) (append_assoc told (10 ∷ []) rest) ∙ sym (append_assoc key (9 ∷ told) (10 ∷ rest))

pub index-line : (key : List ℕ) (n : ℕ) (ns rest : List ℕ) → Lacks 10 key → AllByRecursion (λ m. m < 2 ^ 64) (n ∷ ns)
    → groups_for Files (files_line key (n ∷ ns) ++ rest) ≡ record { key = key; values = places_in (n ∷ ns) } ∷ groups_for Files rest
index-line key n ns rest clear small =
    let told : List ℕ = comma_separated (n ∷ ns) in
    let read = ap places_in (numbers_read n ns small) in
    ap (groups_for Files) (line-text key told rest)
    ∙ one-line Files key told rest clear (separated-lack 10 n ns lf_other (λ e. omega (arith, e)) small) (separated-lack 9 n ns tab_other (λ e. omega (arith, e)) small)
    ∙ (λ i. record { key = key; values = read i } ∷ groups_for Files rest)

-- a place in each of rising files tells these files
pub files-are : (ns : List ℕ) → Rises nat_cmp ns → files_of (places_in ns) ≡ ns
files-are ns rise =
    rising_is_one nat_cmp (files_of (places_in ns)) ns nat_cmp_total (files_rise (places_in ns)) rise
    (λ f. (
      λ h. subst (λ l. Has l f) (told ns) (sorted-Has_from nat_cmp (flat_map file_in (places_in ns)) f h),
      λ h. sorted-Has nat_cmp (flat_map file_in (places_in ns)) (λ x y a b e. sym (ranked x y Equal (sym e))) f (subst (λ l. Has l f) (sym (told ns)) h),
    ))
  where
    told : (fs : List ℕ) → flat_map file_in (places_in fs) ≡ fs
    told [] = refl
    told (f ∷ fs) = ap (λ l. f ∷ l) (told fs)

pub line-read : (form : GroupText) (g : Group) (rest : List ℕ) → HasLine form g → groups_for form (group_text_for form g ++ rest) ≡ g ∷ groups_for form rest
line-read Count g rest h =
    total-read g.key (length g.values) rest h.0 h.1
    ∙ (λ i. record { key = g.key; values = sym h.2 i } ∷ groups_for Count rest)
line-read Lines g rest h =
    let w = h.1 in
    let text : group_text_for Lines g ≡ place_line g.key (At w.0 w.1) =
    ap (flat_map (place_line g.key)) w.4 ∙ append-nil (place_line g.key (At w.0 w.1)) in
    ap (λ l. groups_for Lines (l ++ rest)) text ∙ place-read g.key w.0 w.1 rest h.0 w.2 w.3
    ∙ (λ i. record { key = g.key; values = sym w.4 i } ∷ groups_for Lines rest)
line-read Files g rest h =
    let w = h.1 in
    ap (λ vs. groups_for Files (files_line g.key (files_of vs) ++ rest)) w.4
    ∙ ap (λ fs. groups_for Files (files_line g.key fs ++ rest)) (files-are (w.0 ∷ w.1) w.2)
    ∙ index-line g.key w.0 w.1 rest h.0 w.3
    ∙ (λ i. record { key = g.key; values = sym w.4 i } ∷ groups_for Files rest)

pub none-read : (form : GroupText) → groups_for form [] ≡ []
none-read form = ap (map (group_in form)) lines-none

pub groups-read : (form : GroupText) (gs : List Group) → AllByRecursion (HasLine form) gs → groups_for form (texts_for form gs) ≡ gs
groups-read form [] all = none-read form
groups-read form (g ∷ gs) all = line-read form g (texts_for form gs) all.0 ∙ ap (λ l. g ∷ l) (groups-read form gs all.1)

pub one_reading : OneReading
one_reading job gs all = groups-read (group_text_of job) gs all
