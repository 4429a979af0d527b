-- Fields between commas, and numbers that are added one by one.
use Rattle.std.proofs.Common.{◌≡◌, ℕ, ◌+◌, ◌<◌, ◌≤◌, ◌^◌, cond, eqb, Bool, true, false, List, [], ◌∷◌, ◌++◌, length, map, drop, get_or, refl, sym, ◌∙◌, ap, subst, arith, inl, inr, ◌⊎◌, Option, None, Some}
use Rattle.std.specs.Prelude.{decimal}
use Rattle.std.proofs.lemmas.Bool.{cases_eq, eq-eqb, ne_eqb}
use Rattle.std.proofs.lemmas.List.{append-nil}
use Rattle.std.proofs.lemmas.Cmp.{ranked}
use Rattle.std.proofs.lemmas.Fmt.{decimal_injective, decimal_is_IsNumeral}
use Rattle.std.specs.Borrow.{Bor}
use Rattle.std.specs.List.{AllByRecursion, flat_map}
use Rattle.std.specs.Ordering.{nat_cmp}
use Rattle.std.specs.declared.cmp.Ordering.TheVariants.{Less}
use Rattle.mr_bytes.specs.Lists.{Has, Rises}
use Rattle.mr_bytes.proofs.ListLaws.{Has-all}
use Rattle.mr_reduce.specs.Text.{comma_separated}
use Rattle.mr_jobs.specs.declared.job.GroupText.TheVariants.{Files}
use Rattle.mr_reduce.specs.Writing.{file_text, last_file, values_text}
use Rattle.mr_reduce.proofs.FileLemmas.{comma}
use Rattle.mr_reduce.proofs.WritingLemmas.{after-last, text-last}
use Rattle.mr_sequential.proofs.NameLaws.{less}
use Rattle.mr_shards.specs.Lines.{fields, longer, numbers_in, places_in}
use Rattle.mr_bytes.specs.Cut.{Lacks}
use Rattle.mr_shards.specs.Index.{BeginsList, fields_left, number_past}
use Rattle.mr_shards.specs.Numbers.{BeginsWith, EndsDigits, IsCutBehind}
use Rattle.mr_shards.specs.Views.{IsListTo}
use Rattle.mr_shards.specs.Portions.{Shift, shifted_value}
use Rattle.mr_bytes.specs.declared.Value.{Value}
use Rattle.mr_bytes.specs.declared.Value.TheVariants.{At}
use Rattle.std.specs.Prelude.{IfSome, MatchOption}
use Rattle.std.specs.Str.Parse.{digits_value}
use Rattle.std.proofs.lemmas.List.{append_assoc, length-append}
use Rattle.std.proofs.Math.Seq.{drop-append-add}
use Rattle.mr_shards.proofs.NumberLemmas.{IsReadOn, TakesDigit, known-all, known-more, known-none}
use Rattle.mr_shards.proofs.ReadingLemmas.{decimal-lacks, fields-commas, fields-last, fields-next, values-read}

-- ---- fields that were read

all-last : (P : ℕ → Type 0) (xs : List ℕ) (x : ℕ) → AllByRecursion P xs → P x → AllByRecursion P (xs ++ x ∷ [])
all-last P [] x all p = (p, tt)
all-last P (y ∷ ys) x all p = (all.0, all-last P ys x all.1 p)

all-but_last : (P : ℕ → Type 0) (xs : List ℕ) (x : ℕ) → AllByRecursion P (xs ++ x ∷ []) → P x
all-but_last P [] x all = all.0
all-but_last P (y ∷ ys) x all = all-but_last P ys x all.1

all-weaker : (P Q : ℕ → Type 0) (xs : List ℕ) → ((x : ℕ) → P x → Q x) → AllByRecursion P xs → AllByRecursion Q xs
all-weaker P Q [] f all = tt
all-weaker P Q (x ∷ xs) f all = (f x all.0, all-weaker P Q xs f all.1)

rises-last : (xs : List ℕ) (x : ℕ) → Rises nat_cmp xs → AllByRecursion (λ y. y < x) xs → Rises nat_cmp (xs ++ x ∷ [])
rises-last [] x r all = (tt, tt)
rises-last (y ∷ ys) x r all = (all-last (λ z. nat_cmp y z ≡ Less) ys x r.0 (less y x all.0), rises-last ys x r.1 all.1)

-- the fields with commas between them again
abbrev rejoined : List (List ℕ) → List ℕ
rejoined [] = []
rejoined (f ∷ fs) = f ++ flat_map (λ g. 44 ∷ g) fs

fields-some : (text : List ℕ) → (f : List ℕ) × (fs : List (List ℕ)) × (fields text ≡ f ∷ fs)
unfolding fields longer
fields-some [] = ([], [], refl)
fields-some (b ∷ bs) = by (eqb b 44) (fields-some bs)
  where
    by : (t : Bool) → ((f : List ℕ) × (fs : List (List ℕ)) × (fields bs ≡ f ∷ fs)) → (f : List ℕ) × (fs : List (List ℕ)) × (cond t ([] ∷ fields bs) (longer b (fields bs)) ≡ f ∷ fs)
    by true w = ([], fields bs, refl)
    by false w = (b ∷ w.0, w.1, ap (longer b) w.2)

rejoined-fields : (text : List ℕ) → rejoined (fields text) ≡ text
unfolding fields longer
rejoined-fields [] = refl
rejoined-fields (b ∷ bs) =
    let w = fields-some bs in
    let rest : w.0 ++ flat_map (λ g. 44 ∷ g) w.1 ≡ bs = ap rejoined (sym w.2) ∙ rejoined-fields bs in
    elim (cases_eq b 44) [
      | inl e ↦ ap (λ t. rejoined (cond t ([] ∷ fields bs) (longer b (fields bs)))) (eq-eqb b 44 e)
          ∙ ap (λ l. flat_map (λ g. 44 ∷ g) l) w.2 ∙ (let here = sym e in λ i. here i ∷ rest i)
      | inr ne ↦ ap (λ t. rejoined (cond t ([] ∷ fields bs) (longer b (fields bs)))) (ne_eqb b 44 ne)
          ∙ ap (λ l. rejoined (longer b l)) w.2 ∙ ap (λ l. b ∷ l) rest
    ]

rejoined-decimals : (ns : List ℕ) → rejoined (map decimal ns) ≡ comma_separated ns
rejoined-decimals [] = refl
rejoined-decimals (n ∷ ns) = ap (λ l. decimal n ++ l) (commas ns)
  where
    commas : (ms : List ℕ) → flat_map (λ g. 44 ∷ g) (map decimal ms) ≡ flat_map comma ms
    commas [] = refl
    commas (m ∷ ms) = ap (λ l. comma m ++ l) (commas ms)

-- ---- a number at the front

-- a comma or nothing is behind a field
pub field-begins : (text : List ℕ) (n : ℕ) (more : List (List ℕ)) → n < 2 ^ 32 → fields text ≡ decimal n ∷ more → BeginsWith text n (flat_map (λ g. 44 ∷ g) more)
field-begins text n more small e = record { is = sym (rejoined-fields text) ∙ ap rejoined e; small = omega (arith, small); ends = ends more }
  where
    ends : (fs : List (List ℕ)) → EndsDigits (flat_map (λ g. 44 ∷ g) fs)
    ends [] = tt
    ends (f ∷ fs) = λ low high. omega (arith, low)

field-one : (text : List ℕ) (n : ℕ) (rest : List ℕ) (m : ℕ) (more : List (List ℕ)) → IsCutBehind text n rest → m < 2 ^ 32 → fields text ≡ decimal m ∷ more
    → (m ≡ n) × (flat_map (λ g. 44 ∷ g) more ≡ rest)
field-one text n rest m more cut small e = cut.one m (flat_map (λ g. 44 ∷ g) more) (field-begins text m more small e)

-- it is the number that was cut off
pub field-same : (text : List ℕ) (n : ℕ) (rest : List ℕ) (m : ℕ) (more : List (List ℕ)) → IsCutBehind text n rest → m < 2 ^ 32 → fields text ≡ decimal m ∷ more → m ≡ n
field-same text n rest m more cut small e = (field-one text n rest m more cut small e).0

-- and a comma is behind it
pub field-comma : (text : List ℕ) (n : ℕ) (rest : List ℕ) (m : ℕ) (more : List (List ℕ)) → IsCutBehind text n rest → 0 < length rest → (get_or rest 0 0 ≡ 44 → ⊥) → m < 2 ^ 32
    → fields text ≡ decimal m ∷ more → ⊥
field-comma text n rest m more cut some other small e = by more (field-one text n rest m more cut small e).1
  where
    by : (fs : List (List ℕ)) → flat_map (λ g. 44 ∷ g) fs ≡ rest → ⊥
    by [] is = omega (arith, some, ap length is)
    by (f ∷ fs) is = other (ap (λ l. get_or l 0 0) (sym is))

number-lacks : (n : ℕ) → n < 2 ^ 64 → Lacks 44 (decimal n)
number-lacks n small = decimal-lacks 44 n (λ h. omega (arith, h.0)) small

pub field-last : (text : List ℕ) (n : ℕ) (rest : List ℕ) → IsCutBehind text n rest → length rest ≡ 0 → fields text ≡ decimal n ∷ []
field-last text n [] cut none = ap fields (cut.is ∙ append-nil (decimal n)) ∙ fields-last (decimal n) (number-lacks n cut.small)
field-last text n (b ∷ bs) cut none = absurd (omega (arith, none))

pub field-next : (text : List ℕ) (n : ℕ) (rest : List ℕ) → IsCutBehind text n rest → 0 < length rest → get_or rest 0 0 ≡ 44 → fields text ≡ decimal n ∷ fields (drop 1 rest)
field-next text n [] cut some comma = absurd (omega (arith, some))
field-next text n (b ∷ bs) cut some comma =
    ap fields (cut.is ∙ ap (λ c. decimal n ++ c ∷ bs) comma) ∙ fields-next (decimal n) bs (number-lacks n cut.small)

begun-rest : (more : List (List ℕ)) → 0 < length (flat_map (λ g. 44 ∷ g) more) → get_or (flat_map (λ g. 44 ∷ g) more) 0 0 ≡ 44
begun-rest [] some = absurd (omega (arith, some))
begun-rest (f ∷ fs) some = refl

-- the first number of a list, digit by digit
pub begun-more : (text : List ℕ) (b : BeginsList text) (at value : ℕ) → at < length text → (get_or text at 0 ≡ 44 → ⊥) → IsReadOn b.number at value → TakesDigit text b.number at value
begun-more text b at value low other k = known-more text b.number _ at value (field-begins text b.number b.more b.small b.is) (begun-rest b.more) low other k

pub begun-all : (text : List ℕ) (b : BeginsList text) (at value : ℕ) → IsReadOn b.number at value → (length text ≤ at) ⊎ (get_or text at 0 ≡ 44) → (value ≡ b.number) × (at ≡ length (decimal b.number))
begun-all text b at value k end = known-all text b.number _ at value (field-begins text b.number b.more b.small b.is) k end

-- it has a digit
pub begun-some : (text : List ℕ) (b : BeginsList text) → (0 < length text) × (get_or text 0 0 ≡ 44 → ⊥)
begun-some text b =
    let small : b.number < 2 ^ 64 = omega (arith, b.small) in
    let some : 0 < length (decimal b.number) = (decimal_is_IsNumeral b.number small).0.0 in
    let rest : List ℕ = flat_map (λ g. 44 ∷ g) b.more in
    let begins = field-begins text b.number b.more b.small b.is in (
      omega (arith, some, ap length begins.is, length-append (decimal b.number) rest),
      λ comma. (let all = begun-all text b 0 0 (known-none b.number small) (inr comma) in omega (arith, some, all.1)),
    )

-- the list behind its comma
pub begun-comma : (text : List ℕ) (n : ℕ) (more : List (List ℕ)) (at : ℕ) → n < 2 ^ 32 → fields text ≡ decimal n ∷ more → at ≡ length (decimal n) → at < length text
    → fields text ≡ decimal n ∷ fields (drop (at + 1) text)
begun-comma text n [] at small e end low =
    let b = field-begins text n [] small e in
    absurd (omega (arith, low, end, ap length b.is, length-append (decimal n) []))
begun-comma text n (f ∷ fs) at small e end low =
    let b = field-begins text n (f ∷ fs) small e in
    let tail : List ℕ = f ++ flat_map (λ g. 44 ∷ g) fs in
    let left : drop (at + 1) text ≡ tail = (λ i. drop (end i + 1) (b.is i)) ∙ drop-append-add (decimal n) (44 ∷ tail) 1 in
    ap fields b.is ∙ fields-next (decimal n) tail (number-lacks n b.small) ∙ ap (λ l. decimal n ∷ fields l) (sym left)

pub begun-end : (text : List ℕ) (n : ℕ) (more : List (List ℕ)) (at : ℕ) → n < 2 ^ 32 → fields text ≡ decimal n ∷ more → at ≡ length (decimal n) → length text ≤ at → fields text ≡ decimal n ∷ []
begun-end text n [] at small e end over = e
begun-end text n (f ∷ fs) at small e end over =
    let b = field-begins text n (f ∷ fs) small e in
    absurd (omega (arith, over, end, ap length b.is, length-append (decimal n) (44 ∷ (f ++ flat_map (λ g. 44 ∷ g) fs))))

pub field-shorter : (text : List ℕ) (n : ℕ) (rest : List ℕ) → IsCutBehind text n rest → length rest ≤ length text
field-shorter text n rest cut = omega (arith, ap length cut.is, length-append (decimal n) rest)

-- the numbers that were read so far, and the last of them
pub record AreReadSo (told : List ℕ) (left : Option (Bor (List ℕ))) (last : Option ℕ) (done : List ℕ) : Type 0 where
  pub fields_are : fields told ≡ map decimal done ++ fields_left left
  pub rise : Rises nat_cmp done
  pub below : AllByRecursion (λ n. n < 2 ^ 32) done
  pub past : AllByRecursion (λ n. n < number_past last) done
  pub least_is : (m : ℕ) → AllByRecursion (λ n. n < m) done → number_past last ≤ m
  pub last_is : IfSome last (λ n. Has done n)

fields-append : (xs : List (List ℕ)) (y : List ℕ) (zs : List (List ℕ)) → xs ++ y ∷ zs ≡ (xs ++ y ∷ []) ++ zs
fields-append [] y zs = refl
fields-append (x ∷ xs) y zs = ap (λ l. x ∷ l) (fields-append xs y zs)

map-last : (xs : List ℕ) (x : ℕ) → map decimal (xs ++ x ∷ []) ≡ map decimal xs ++ decimal x ∷ []
map-last [] x = refl
map-last (y ∷ ys) x = ap (λ l. decimal y ∷ l) (map-last ys x)

has-last : (xs : List ℕ) (x : ℕ) → Has (xs ++ x ∷ []) x
has-last [] x = inl refl
has-last (y ∷ ys) x = inr (has-last ys x)

pub read-more : (told : List ℕ) (text : Bor (List ℕ)) (last : Option ℕ) (done : List ℕ) (rest : Option (Bor (List ℕ))) (n : ℕ)
    → AreReadSo told (Some text) last done → fields text.now ≡ decimal n ∷ fields_left rest → number_past last ≤ n → n < 2 ^ 32
    → AreReadSo told rest (Some n) (done ++ n ∷ [])
read-more told text last done rest n was is low high =
    let all : AllByRecursion (λ m. m < n) done = all-weaker (λ m. m < number_past last) (λ m. m < n) done (λ m h. omega (arith, h, low)) was.past in
    record {
      fields_are =
          was.fields_are ∙ ap (λ l. map decimal done ++ l) is
          ∙ fields-append (map decimal done) (decimal n) (fields_left rest) ∙ ap (λ l. l ++ fields_left rest) (sym (map-last done n));
      rise = rises-last done n was.rise all;
      below = all-last (λ m. m < 2 ^ 32) done n was.below high;
      past = all-last (λ m. m < n + 1) done n (all-weaker (λ m. m < n) (λ m. m < n + 1) done (λ m h. omega (arith, h)) all) (omega arith);
      least_is = λ m h. (let last : n < m = all-but_last (λ k. k < m) done n h in omega (arith, last));
      last_is = has-last done n;
    }

-- the fields are all read
fields-all : (told : List ℕ) (left : Option (Bor (List ℕ))) (last : Option ℕ) (done : List ℕ) → left ≡ None → AreReadSo told left last done → fields told ≡ map decimal done
fields-all told left last done none was = was.fields_are ∙ ap (λ l. map decimal done ++ fields_left l) none ∙ append-nil (map decimal done)

some-read : (told ns : List ℕ) → fields told ≡ map decimal ns → 0 < length ns
some-read told [] e = (let w = fields-some told in absurd (let no : w.0 ∷ w.1 ≡ [] = sym w.2 ∙ e in cc))
some-read told (n ∷ ns) e = omega arith

read-all : (told : List ℕ) (left : Option (Bor (List ℕ))) (last : ℕ) (done : List ℕ) → left ≡ None → AreReadSo told left (Some last) done → IsListTo last told
read-all told left last done none was =
    let all = fields-all told left (Some last) done none was in (
      Has-all (λ n. n < 2 ^ 32) done last was.below was.last_is,
      (
        done,
        record {
          text = sym (rejoined-fields told) ∙ ap rejoined all ∙ rejoined-decimals done;
          some = some-read told done all;
          rise = was.rise;
          below = was.past;
        },
        was.last_is,
      ),
    )

-- a list has numbers
none-read : (told : List ℕ) (left : Option (Bor (List ℕ))) (done : List ℕ) → left ≡ None → AreReadSo told left None done → (n : ℕ) → IsListTo n told → ⊥
none-read told left done none was n given =
    let all = fields-all told left None done none was in
    let some : 0 < length done = some-read told done all in
    by done some was.past
  where
    by : (ns : List ℕ) → 0 < length ns → AllByRecursion (λ m. m < 0) ns → ⊥
    by [] some past = omega (arith, some)
    by (m ∷ ms) some past = omega (arith, past.0)

pub read-ends : (told : List ℕ) (left : Option (Bor (List ℕ))) (last : Option ℕ) (done : List ℕ) → left ≡ None → AreReadSo told left last done
    → MatchOption last ((n : ℕ) → IsListTo n told → ⊥) (λ n. IsListTo n told)
read-ends told left None done none was = none-read told left done none was
read-ends told left (Some n) done none was = read-all told left n done none was

-- a field behind those of numbers is one of the numbers that all fields tell
field-among : (done ns : List ℕ) (field : List ℕ) (more : List (List ℕ)) → AllByRecursion (λ n. n < 2 ^ 64) done → AllByRecursion (λ n. n < 2 ^ 64) ns
    → map decimal done ++ field ∷ more ≡ map decimal ns → (m : ℕ) × (rest : List ℕ) × (ns ≡ done ++ m ∷ rest) × (field ≡ decimal m)
field-among [] [] field more small small' e = absurd (let no : field ∷ more ≡ [] = e in cc)
field-among [] (n ∷ ns) field more small small' e = (n, ns, refl, (let is : field ≡ decimal n = cc e in is))
field-among (d ∷ ds) [] field more small small' e = absurd (let no : decimal d ∷ (map decimal ds ++ field ∷ more) ≡ [] = e in cc)
field-among (d ∷ ds) (n ∷ ns) field more small small' e =
    let first : decimal d ≡ decimal n = cc e in
    let rest : map decimal ds ++ field ∷ more ≡ map decimal ns = cc e in
    let same : d ≡ n = decimal_injective d n small.0 small'.0 first in
    let w = field-among ds ns field more small.1 small'.1 rest in
    (w.0, w.1, (let here = sym same in let later = w.2 in λ i. here i ∷ later i), w.3)

rises-through : (done : List ℕ) (m : ℕ) (rest : List ℕ) → Rises nat_cmp (done ++ m ∷ rest) → AllByRecursion (λ n. n < m) done
rises-through [] m rest r = tt
rises-through (d ∷ ds) m rest r = (ranked d m Less (sym (Has-all (λ y. nat_cmp d y ≡ Less) (ds ++ m ∷ rest) m r.0 (there ds))), rises-through ds m rest r.1)
  where
    there : (xs : List ℕ) → Has (xs ++ m ∷ rest) m
    there [] = inl refl
    there (x ∷ xs) = inr (there xs)

below-through : (P : ℕ → Type 0) (done : List ℕ) (m : ℕ) (rest : List ℕ) → AllByRecursion P (done ++ m ∷ rest) → P m
below-through P [] m rest all = all.0
below-through P (d ∷ ds) m rest all = below-through P ds m rest all.1

-- a number that stands there among the rising ones of so many files
number-there : (files least : ℕ) (done ns : List ℕ) (m : ℕ) (rest : List ℕ) → ns ≡ done ++ m ∷ rest → Rises nat_cmp ns → AllByRecursion (λ n. n < files) ns
    → ((k : ℕ) → AllByRecursion (λ n. n < k) done → least ≤ k) → (least ≤ m) × (m < files)
number-there files least done ns m rest e rise below least_is = (
  least_is m (rises-through done m rest (subst (Rises nat_cmp) e rise)),
  below-through (λ n. n < files) done m rest (subst (AllByRecursion (λ n. n < files)) e below),
)

fields-told : (ms : List ℕ) → 0 < length ms → AllByRecursion (λ n. n < 2 ^ 64) ms → fields (comma_separated ms) ≡ map decimal ms
fields-told [] some small = absurd (omega (arith, some))
fields-told (m ∷ ms) some small = fields-commas m ms small

-- the number that comes next in a list
pub read-next : (told : List ℕ) (text : Bor (List ℕ)) (last : Option ℕ) (done : List ℕ) (end : ℕ) → AreReadSo told (Some text) last done → IsListTo end told
    → (n : ℕ) × (more : List (List ℕ)) × (fields text.now ≡ decimal n ∷ more) × (number_past last ≤ n) × (n ≤ end)
read-next told text last done end was given =
    let here = fields-some text.now in
    let field : List ℕ = here.0 in
    let more : List (List ℕ) = here.1 in
    let is : fields text.now ≡ field ∷ more = here.2 in
    let ns : List ℕ = given.1.0 in
    let list = given.1.1 in
    let small : AllByRecursion (λ n. n < 2 ^ 64) ns = all-weaker (λ n. n < end + 1) (λ n. n < 2 ^ 64) ns (λ n h. omega (arith, h, given.0)) list.below in
    let all : fields told ≡ map decimal ns = ap fields list.text ∙ fields-told ns list.some small in
    let w = field-among done ns field more (all-weaker (λ n. n < 2 ^ 32) (λ n. n < 2 ^ 64) done (λ n h. omega (arith, h)) was.below) small
    (sym (was.fields_are ∙ ap (λ l. map decimal done ++ l) is) ∙ all) in
    let there = number-there (end + 1) (number_past last) done ns w.0 w.1 w.2 list.rise list.below was.least_is in
    (w.0, more, is ∙ ap (λ f. f ∷ more) w.3, there.0, omega (arith, there.1))

pub read-refused : (told : List ℕ) (text : Bor (List ℕ)) (last : Option ℕ) (done : List ℕ) (end : ℕ) → AreReadSo told (Some text) last done
    → ((n : ℕ) (more : List (List ℕ)) → fields text.now ≡ decimal n ∷ more → number_past last ≤ n → n < 2 ^ 32 → ⊥) → IsListTo end told → ⊥
read-refused told text last done end was none given =
    let next = read-next told text last done end was given in
    none next.0 next.1 next.2 next.3 (omega (arith, next.4, given.0))

-- ---- places of the numbers

pub placed-last : (s : Shift) (xs : List ℕ) (x : ℕ) → map (shifted_value s) (places_in (xs ++ x ∷ [])) ≡ map (shifted_value s) (places_in xs) ++ shifted_value s (At x 0) ∷ []
placed-last s [] x = refl
placed-last s (y ∷ ys) x = ap (λ l. shifted_value s (At y 0) ∷ l) (placed-last s ys x)

-- ---- files that are written

-- the text and its last file, behind so many numbers of a list
pub record IsWritten (s : Shift) (before : Option ℕ) (old : List ℕ) (done : List ℕ) (end : Option ℕ) (new : List ℕ) : Type 0 where
  pub text : new ≡ old ++ values_text Files [] before (map (shifted_value s) (places_in done))
  pub end_is : end ≡ last_file before (map (shifted_value s) (places_in done))

pub written-more : (s : Shift) (before : Option ℕ) (old mid new done : List ℕ) (end : Option ℕ) (n file : ℕ) → IsWritten s before old done end mid → file ≡ s.files + n
    → new ≡ mid ++ file_text end file → IsWritten s before old (done ++ n ∷ []) (Some file) new
written-more s before old mid new done end n file was is e =
    let vs : List Value = map (shifted_value s) (places_in done) in
    let v : Value = shifted_value s (At n 0) in
    let more : values_text Files [] before (vs ++ v ∷ []) ≡ values_text Files [] before vs ++ file_text (last_file before vs) (s.files + n) = text-last Files [] before vs v in
    record {
      text =
          e ∙ (λ i. was.text i ++ file_text (was.end_is i) (is i)) ∙ append_assoc old (values_text Files [] before vs) (file_text (last_file before vs) (s.files + n))
          ∙ ap (λ l. old ++ l) (sym more) ∙ ap (λ us. old ++ values_text Files [] before us) (sym (placed-last s done n));
      end_is = ap Some is ∙ sym (after-last before vs v) ∙ ap (last_file before) (sym (placed-last s done n));
    }

-- the number that was cut off is the one that comes next
pub same-next : (text : List ℕ) (n m : ℕ) (more rest : List (List ℕ)) → fields text ≡ decimal n ∷ more → fields text ≡ decimal m ∷ rest → n < 2 ^ 32 → m < 2 ^ 32 → n ≡ m
same-next text n m more rest e e' small small' =
    decimal_injective n m (omega (arith, small)) (omega (arith, small')) (let same : decimal n ∷ more ≡ decimal m ∷ rest = sym e ∙ e' in cc same)

-- the numbers that were read are those of the list
pub numbers-all : (told : List ℕ) (left : Option (Bor (List ℕ))) (before : Option ℕ) (done : List ℕ) → left ≡ None → AreReadSo told left before done → numbers_in told ≡ done
numbers-all told left before done none was =
    ap (map (digits_value 10)) (fields-all told left before done none was) ∙ values-read done (all-weaker (λ n. n < 2 ^ 32) (λ n. n < 2 ^ 64) done (λ n h. omega (arith, h)) was.below)
