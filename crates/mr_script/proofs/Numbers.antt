-- Words that are numbers.
use Rattle.std.proofs.Common.{◌≡◌, ℕ, ◌^◌, ◌<◌, ◌≤◌, Bool, true, false, cond, ◌&&◌, Option, Some, None, Result, Ok, Err, List, [], ◌∷◌, length, get_or, refl, ap, sym, ◌∙◌, ltb, leb, arith}
use Rattle.std.proofs.lemmas.Bool.{ltb-true, leb-true, lt-ltb, le-leb}
use Rattle.std.proofs.lemmas.Str.Parse.{IsNumeralModel, numerals_by_value, tells_all_ascii_digits, tells_by_index, digit_from_value}
use Rattle.std.specs.Prelude.{MatchOption}
use Rattle.std.proofs.lemmas.Option.{none-some}
use Rattle.std.specs.Int.{IsInRange}
use Rattle.std.specs.Result.{OkIff, result_ok}
use Rattle.std.specs.Str.{all_ascii_digits}
use Rattle.std.specs.Str.Parse.{AllDigits, digits_value}
use Rattle.mr_script.specs.Lines.{SpellsNumber}
use Rattle.mr_script.specs.Meaning.{is_number, number_of}
use Rattle.mr_bytes.specs.Cut.{Lacks}

pub by_test : IsNumeralModel (λ ds. all_ascii_digits ds ≡ true) (digits_value 10)
by_test = numerals_by_value _ tells_all_ascii_digits

pub by_index : IsNumeralModel (λ ds. (i : ℕ) → i < length ds → IsInRange 48 57 (get_or ds i 0)) (digits_value 10)
by_index = numerals_by_value _ tells_by_index

and_parts : (a b : Bool) → (a && b) ≡ true → (a ≡ true) × (b ≡ true)
and_parts true b e = (refl, e)
and_parts false b e = absurd (cc e)

and_both : (a b : Bool) → a ≡ true → b ≡ true → (a && b) ≡ true
and_both true b e f = f
and_both false b e f = absurd (cc e)

-- what makes a word a number
pub record IsNumber (word : List ℕ) : Type 0 where
  pub some : 0 < length word
  pub few : length word ≤ 10
  pub digits : AllDigits 10 word
  pub small : digits_value 10 word < 2 ^ 32

pub number_test : (word : List ℕ) → IsNumber word → is_number word ≡ true
number_test word h =
    and_both ((ltb 0 (length word) && leb (length word) 10) && all_ascii_digits word) (ltb (digits_value 10 word) (2 ^ 32))
    (and_both (ltb 0 (length word) && leb (length word) 10) (all_ascii_digits word)
    (and_both (ltb 0 (length word)) (leb (length word) 10) (lt-ltb _ _ h.some) (le-leb _ _ h.few)) (by_test.from word h.digits))
    (lt-ltb _ _ h.small)

pub number_told : (word : List ℕ) → is_number word ≡ true → IsNumber word
number_told word e =
    let a = and_parts ((ltb 0 (length word) && leb (length word) 10) && all_ascii_digits word) (ltb (digits_value 10 word) (2 ^ 32)) e in
    let b = and_parts (ltb 0 (length word) && leb (length word) 10) (all_ascii_digits word) a.0 in
    let c = and_parts (ltb 0 (length word)) (leb (length word) 10) b.0 in
    record { some = ltb-true _ _ c.0; few = leb-true _ _ c.1; digits = by_test.to word b.1; small = ltb-true _ _ a.1 }

number-cond : (word : List ℕ) → number_of word ≡ cond (is_number word) (Some (digits_value 10 word)) None
unfolding number_of
number-cond word = refl

pub number_yes : (word : List ℕ) → IsNumber word → number_of word ≡ Some (digits_value 10 word)
number_yes word h = number-cond word ∙ ap (λ t. cond t (Some (digits_value 10 word)) None) (number_test word h)

pub number_no : (word : List ℕ) → (IsNumber word → ⊥) → number_of word ≡ None
number_no word h = number-cond word ∙ by (is_number word) refl
  where
    by : (t : Bool) → is_number word ≡ t → cond (is_number word) (Some (digits_value 10 word)) None ≡ None
    by true e = absurd (h (number_told word e))
    by false e = ap (λ t. cond t (Some (digits_value 10 word)) None) e

-- a word spells the number that it is
pub number_is : (word : List ℕ) (n : ℕ) → number_of word ≡ Some n → SpellsNumber word n
number_is word n e = by (is_number word) refl
  where
    by : (t : Bool) → is_number word ≡ t → SpellsNumber word n
    by true t =
        let h = number_told word t in
        let v : digits_value 10 word ≡ n = cc (sym (number_yes word h) ∙ e) in
        record { digits = (h.some, h.digits); few = h.few; value = v; small = omega (arith, h.small, v) }
    by false t = absurd (cc (ap (λ t. cond t (Some (digits_value 10 word)) None) (sym t) ∙ sym (number-cond word) ∙ e))

pub number_spelled : (word : List ℕ) (n : ℕ) → SpellsNumber word n → number_of word ≡ Some n
number_spelled word n h =
    number_yes word (record { some = h.digits.0; few = h.few; digits = h.digits.1; small = omega (arith, h.small, h.value) }) ∙ ap (λ (m : ℕ). Some m) h.value

-- the number of a word is what it spells, and where there is none it spells none
pub number_tells : (word : List ℕ) (o : Option ℕ) → o ≡ number_of word → MatchOption o ((n : ℕ) → SpellsNumber word n → ⊥) (SpellsNumber word)
number_tells word None e = λ n h. none-some n (e ∙ number_spelled word n h)
number_tells word (Some n) e = number_is word n (sym e)

-- it has 1 to 10 digits
pub number_short : (word : List ℕ) (n : ℕ) → SpellsNumber word n → (0 < length word) × (length word ≤ 10)
number_short word n h = (h.digits.0, h.few)

digits_no_space : (ds : List ℕ) → AllDigits 10 ds → Lacks 0x20 ds
digits_no_space [] h = tt
digits_no_space (d ∷ ds) h = (λ e. let r = digit_from_value d h.0 in omega (arith, r.0, e), digits_no_space ds h.1)

pub number_no_space : (word : List ℕ) (n : ℕ) → SpellsNumber word n → Lacks 0x20 word
number_no_space word n h = digits_no_space word h.digits.1

-- a number of few digits, where it was seen whether it fits
pub number_fits : {E : Type 0} (word : List ℕ) (n : ℕ) (r : Result ℕ E) → 0 < length word → length word ≤ 10 → AllDigits 10 word → n ≡ digits_value 10 word → OkIff r (n < 2 ^ 32) n → result_ok r ≡ number_of word
number_fits word n (Ok x) some few digits e h =
    ap (λ (m : ℕ). Some m) (h.1 ∙ e) ∙ sym (number_yes word (record { some = some; few = few; digits = digits; small = omega (arith, h.0, e) }))
number_fits word n (Err x) some few digits e h = sym (number_no word (λ k. h (omega (arith, k.small, e))))
