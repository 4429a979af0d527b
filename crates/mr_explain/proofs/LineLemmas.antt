-- Lines of a part, and their keys.
use Rattle.std.proofs.Common.{◌≡◌, ℕ, zero, suc, ◌+◌, ◌-◌, ◌<◌, ◌≤◌, Bool, true, false, cond, eqb, List, [], ◌∷◌, length, get_or, take, drop, Option, None, Some, refl, ap, sym, ◌∙◌, subst, arith}
use Rattle.std.proofs.Common.{slice_range, map, inl, inr, ◌⊎◌, min}
use Rattle.std.proofs.lemmas.List.{length-take, length-drop, take_all, drop_all}
use Rattle.std.proofs.lemmas.Bool.{cases_lt}
use Rattle.mr_records.specs.Records.{IsRecordOf, Record, lengthen, records_from}
use Rattle.std.proofs.Common.{MatchOption, ◌↔◌}
use Rattle.std.proofs.Math.Seq.{drop-cons}
use Rattle.std.proofs.lemmas.Bool.{false_from_ne_true, false≢true}
use Rattle.std.specs.Str.{bytes_eq}
use Rattle.mr_records.specs.Records.{IsBehindAll, records}
use Rattle.mr_sequential.proofs.KeyLaws.{bytes_eq-is, bytes_eq-same}
use Rattle.mr_explain.specs.Compared.{Answer, Agrees, Differs, NoLine, IsNotNext, compared, comparison, lines_of, lines_with, is_key, key_behind, key_of_line, with_feed, with_key}

-- no byte from the place `from` on is a tab
abbrev NoTab : ℕ → List ℕ → Type 0
NoTab from line = (k : ℕ) → from ≤ k → k < length line → eqb (get_or line k 0) 9 ≡ true → ⊥

abbrev key_if : Bool → Option (List ℕ)
key_if t = cond t (Some []) None

no_tab_behind : (b : ℕ) (bs : List ℕ) (from : ℕ) → NoTab (suc from) (b ∷ bs) → NoTab from bs
no_tab_behind b bs from none k low less is = none (suc k) (omega (arith, low)) (omega (arith, less)) is

pub no-key : (line : List ℕ) → NoTab 0 line → key_of_line line ≡ None
no-key [] none = refl
no-key (b ∷ bs) none =
    ap (key_behind b) (no-key bs (no_tab_behind b bs 0 (λ k low less is. none k (omega arith) less is)))
    ∙ by (eqb b 9) refl
  where
    by : (t : Bool) → eqb b 9 ≡ t → key_if t ≡ None
    by true e = absurd (none 0 (omega arith) (omega arith) e)
    by false e = refl

pub last-key : (at : ℕ) (line : List ℕ) → at < length line → eqb (get_or line at 0) 9 ≡ true → NoTab (at + 1) line → key_of_line line ≡ Some (take at line)
last-key at [] inside is none = absurd (omega (arith, inside))
last-key zero (b ∷ bs) inside is none =
    ap (key_behind b) (no-key bs (λ k low less. none (suc k) (omega (arith, low)) (omega (arith, less))))
    ∙ ap key_if is
last-key (suc at) (b ∷ bs) inside is none =
    ap (key_behind b) (last-key at bs (omega (arith, inside)) is (λ k low less. none (suc k) (omega (arith, low)) (omega (arith, less))))

-- ---- lines one after another

-- where a line with its line feed ends
line-length : (text : List ℕ) (from m : ℕ) → from ≤ m → m ≤ length text → from + length (take (m - from) (drop from text)) ≡ m
line-length text from m low high = omega (arith, length-take (m - from) (drop from text), length-drop from text)

past-records : (text : List ℕ) (from : ℕ) → length text ≤ from → records_from from (drop from text) ≡ []
unfolding records_from
past-records text from past = ap (records_from from) (drop_all from text past)

take-past : (a b : ℕ) (xs : List ℕ) → (a ≡ b) ⊎ ((length xs ≤ a) × (length xs ≤ b)) → take a xs ≡ take b xs
take-past a b xs (inl e) = ap (λ k. take k xs) e
take-past a b xs (inr h) = take_all a xs h.0 ∙ sym (take_all b xs h.1)

pub same-line : (text : List ℕ) (from end m : ℕ) → from ≤ end → end ≤ length text → m ≡ min (length text) (end + 1) → length (slice_range text from end) ≡ end - from
    → slice_range text from (from + length (slice_range text from end) + 1) ≡ take (m - from) (drop from text)
same-line text from end m low high least size =
    let n : ℕ = from + length (slice_range text from end) + 1 in
    let is : n ≡ end + 1 = omega (arith, size, low) in
    ap (λ k. take (k - from) (drop from text)) is ∙ take-past (end + 1 - from) (m - from) (drop from text)
    (elim (cases_lt end (length text)) [
      | inl less ↦ inl (omega (arith, least, less))
      | inr past ↦ inr (omega (arith, least, past, high, length-drop from text), omega (arith, least, past, high, length-drop from text))
    ])

behind-end : (text : List ℕ) (end m : ℕ) → end ≤ length text → m ≡ min (length text) (end + 1) → records_from (end + 1) (drop (end + 1) text) ≡ records_from m (drop m text)
behind-end text end m high least =
    elim (cases_lt end (length text)) [
      | inl less ↦ let e : end + 1 ≡ m = omega (arith, least, less) in ap (λ n. records_from n (drop n text)) e
      | inr past ↦ past-records text (end + 1) (omega (arith, past)) ∙ sym (past-records text m (omega (arith, past, least)))
    ]

pub next-line : (text : List ℕ) (from end m : ℕ) → IsRecordOf text from end → m ≡ min (length text) (end + 1)
    → let line = take (m - from) (drop from text) in
    map (with_feed text) (records_from from (drop from text)) ≡ line ∷ map (with_feed text) (records_from (from + length line) (drop (from + length line) text))
next-line text from end m is least =
    let r : Record = record { start = from; bytes = slice_range text from end } in
    let size : length (slice_range text from end) ≡ end - from = omega (arith, length-take (end - from) (drop from text), length-drop from text, is.rises, is.within) in
    let line : with_feed text r ≡ take (m - from) (drop from text) = same-line text from end m is.rises is.within least size in
    let next : from + length (take (m - from) (drop from text)) ≡ m = line-length text from m (omega (arith, is.inside, is.rises, least)) (omega (arith, least)) in
    ap (map (with_feed text)) is.first
    ∙ ap (λ l. l ∷ map (with_feed text) (records_from (end + 1) (drop (end + 1) text))) line
    ∙ ap (λ rs. take (m - from) (drop from text) ∷ map (with_feed text) rs) (behind-end text end m is.within least ∙ ap (λ n. records_from n (drop n text)) (sym next))

some-record : (at b : ℕ) (bs : List ℕ) → (r : Record) × (rs : List Record) × (records_from at (b ∷ bs) ≡ r ∷ rs)
unfolding records_from lengthen
some-record at b bs = by (eqb b 10) (records_from (at + 1) bs)
  where
    by : (t : Bool) (later : List Record) → (r : Record) × (rs : List Record) × (cond t (record { start = at; bytes = [] } ∷ later) (lengthen at b later) ≡ r ∷ rs)
    by true later = (record { start = at; bytes = [] }, later, refl)
    by false [] = (record { start = at; bytes = b ∷ [] }, [], refl)
    by false (r ∷ rs) = (record { start = at; bytes = b ∷ r.bytes }, rs, refl)

-- ---- a line of a part against the lines that are expected

abbrev texts_from : List ℕ → ℕ → List (List ℕ)
texts_from text from = map (with_feed text) (records_from from (drop from text))

-- the part's line, as it is read
pub read-line : (part : List ℕ) (at end m : ℕ) → IsRecordOf part at end → m ≡ min (length part) (end + 1)
    → with_feed part (record { start = at; bytes = slice_range part at end }) ≡ take (m - at) (drop at part)
read-line part at end m is least =
    let size : length (slice_range part at end) ≡ end - at = omega (arith, length-take (end - at) (drop at part), length-drop at part, is.rises, is.within) in
    same-line part at end m is.rises is.within least size

-- what is known of a line, and of where the text goes on behind it
pub record IsTold (key line : List ℕ) (text : List ℕ) (from : ℕ) (result : Option ℕ) : Type 0 where
  pub other : is_key key (key_of_line line) ≡ false → result ≡ Some from
  pub same : is_key key (key_of_line line) ≡ true
      → MatchOption result (IsNotNext line (texts_from text from)) (λ next. texts_from text from ≡ line ∷ texts_from text next)

some_is : (a b : ℕ) → Some a ≡ Some b → a ≡ b
some_is a b e = cc

module _ (part key text : List ℕ) where
  abbrev Left : ℕ → ℕ → Answer
  Left at from = compared part (with_key part key (records_from at (drop at part))) (texts_from text from)

  -- the line has not the key
  other_line : (r : Record) (rs : List Record) (ts : List (List ℕ)) → is_key key (key_of_line (with_feed part r)) ≡ false
      → compared part (with_key part key (r ∷ rs)) ts ≡ compared part (with_key part key rs) ts
  other_line r rs ts e = ap (λ t. compared part (cond t (r ∷ with_key part key rs) (with_key part key rs)) ts) e

  key_line : (r : Record) (rs : List Record) (ts : List (List ℕ)) → is_key key (key_of_line (with_feed part r)) ≡ true
      → compared part (with_key part key (r ∷ rs)) ts ≡ compared part (r ∷ with_key part key rs) ts
  key_line r rs ts e = ap (λ t. compared part (cond t (r ∷ with_key part key rs) (with_key part key rs)) ts) e

  same_text : (r : Record) (rs : List Record) (t : List ℕ) (ts : List (List ℕ)) → with_feed part r ≡ t → compared part (r ∷ rs) (t ∷ ts) ≡ compared part rs ts
  same_text r rs t ts e =
      ap (λ (b : Bool). cond b (compared part rs ts) (Differs r.bytes)) (ap (λ l. bytes_eq l t) e ∙ bytes_eq-same t)

  other_text : (r : Record) (rs : List Record) (ts : List (List ℕ)) → IsNotNext (with_feed part r) ts → compared part (r ∷ rs) ts ≡ Differs r.bytes
  other_text r rs [] h = refl
  other_text r rs (t ∷ ts) h =
      ap (λ (b : Bool). cond b (compared part rs ts) (Differs r.bytes))
      (false_from_ne_true (bytes_eq (with_feed part r) t) (λ same. h (bytes_eq-is (with_feed part r) t same)))

  module _ (at end m from : ℕ) (is : IsRecordOf part at end) (least : m ≡ min (length part) (end + 1)) where
    abbrev here : Record
    here = record { start = at; bytes = slice_range part at end }

    abbrev line : List ℕ
    line = take (m - at) (drop at part)

    split_off : Left at from ≡ compared part (with_key part key (here ∷ records_from (end + 1) (drop (end + 1) part))) (texts_from text from)
    split_off = ap (λ rs. compared part (with_key part key rs) (texts_from text from)) is.first

    test_is : (t : Bool) → is_key key (key_of_line line) ≡ t → is_key key (key_of_line (with_feed part here)) ≡ t
    test_is t e = ap (λ l. is_key key (key_of_line l)) (read-line part at end m is least) ∙ e

    pub goes_on : (result : Option ℕ) (next : ℕ) → IsTold key line text from result → result ≡ Some next → Left at from ≡ Left (end + 1) next
    goes_on result next told some = split_off ∙ by (is_key key (key_of_line line)) refl
      where
        rest : List Record
        rest = records_from (end + 1) (drop (end + 1) part)

        by : (t : Bool) → is_key key (key_of_line line) ≡ t → compared part (with_key part key (here ∷ rest)) (texts_from text from) ≡ Left (end + 1) next
        by false e =
            let same : from ≡ next = some_is from next (sym (told.other e) ∙ some) in
            other_line here rest (texts_from text from) (test_is false e) ∙ ap (λ n. Left (end + 1) n) same
        by true e =
            let texts : texts_from text from ≡ line ∷ texts_from text next =
            subst (λ r. MatchOption r (IsNotNext line (texts_from text from)) (λ n. texts_from text from ≡ line ∷ texts_from text n)) some (told.same e) in
            key_line here rest (texts_from text from) (test_is true e)
            ∙ ap (λ ts. compared part (here ∷ with_key part key rest) ts) texts
            ∙ same_text here (with_key part key rest) line (texts_from text next) (read-line part at end m is least)

    pub stops : (result : Option ℕ) → IsTold key line text from result → result ≡ None → Left at from ≡ Differs (slice_range part at end)
    stops result told none = split_off ∙ by (is_key key (key_of_line line)) refl
      where
        rest : List Record
        rest = records_from (end + 1) (drop (end + 1) part)

        by : (t : Bool) → is_key key (key_of_line line) ≡ t → compared part (with_key part key (here ∷ rest)) (texts_from text from) ≡ Differs (slice_range part at end)
        by false e = absurd (let no : Some from ≡ None = sym (told.other e) ∙ none in cc)
        by true e =
            let texts : IsNotNext line (texts_from text from) =
            subst (λ r. MatchOption r (IsNotNext line (texts_from text from)) (λ n. texts_from text from ≡ line ∷ texts_from text n)) none (told.same e) in
            key_line here rest (texts_from text from) (test_is true e)
            ∙ other_text here (with_key part key rest) (texts_from text from)
            (subst (λ l. IsNotNext l (texts_from text from)) (sym (read-line part at end m is least)) texts)

  -- no line is left
  pub ends_short : (at from : ℕ) → IsBehindAll part at → from < length text → Left at from ≡ NoLine
  ends_short at from none less =
      let one = some-record from (get_or text from 0) (drop (suc from) text) in
      let is : records_from from (drop from text) ≡ one.0 ∷ one.1 = ap (records_from from) (drop-cons text from 0 less) ∙ one.2 in
      ap (λ rs. compared part (with_key part key rs) (texts_from text from)) none.none
      ∙ ap (λ rs. compared part [] (map (with_feed text) rs)) is

  pub ends_even : (at from : ℕ) → IsBehindAll part at → length text ≤ from → Left at from ≡ Agrees
  ends_even at from none past =
      ap (λ rs. compared part (with_key part key rs) (texts_from text from)) none.none
      ∙ ap (λ rs. compared part [] (map (with_feed text) rs)) (past-records text from past)

-- ---- what it is to agree

nothing-less : (part : List ℕ) (rs : List Record) (ts : List (List ℕ)) → (compared part rs ts ≡ Agrees) ↔ (map (with_feed part) rs ≡ ts)
nothing-less part [] [] = (λ e. refl, λ e. refl)
nothing-less part [] (t ∷ ts) = (λ e. absurd cc, λ e. absurd cc)
nothing-less part (r ∷ rs) [] = (λ e. absurd cc, λ e. absurd cc)
nothing-less part (r ∷ rs) (t ∷ ts) = by (bytes_eq (with_feed part r) t) refl (nothing-less part rs ts)
  where
    by : (b : Bool) → bytes_eq (with_feed part r) t ≡ b → (compared part rs ts ≡ Agrees) ↔ (map (with_feed part) rs ≡ ts)
        → (cond b (compared part rs ts) (Differs r.bytes) ≡ Agrees) ↔ (with_feed part r ∷ map (with_feed part) rs ≡ t ∷ ts)
    by true e later = (
      λ h. ap (λ l. l ∷ map (with_feed part) rs) (bytes_eq-is (with_feed part r) t e) ∙ ap (λ ls. t ∷ ls) (later.0 h),
      λ h. later.1 (let tails : map (with_feed part) rs ≡ ts = cc in tails),
    )
    by false e later = (
      λ h. absurd cc,
      λ h. let heads : with_feed part r ≡ t = cc in absurd (false≢true (sym e ∙ ap (λ l. bytes_eq l t) heads ∙ bytes_eq-same t)),
    )

pub agrees-is : (part key text : List ℕ) (answer : Answer) → answer ≡ comparison part key text → (answer ≡ Agrees) ↔ (lines_with part key ≡ lines_of text)
agrees-is part key text answer is =
    let both = nothing-less part (with_key part key (records part)) (lines_of text) in
    (λ h. both.0 (sym is ∙ h), λ h. is ∙ both.1 h)
