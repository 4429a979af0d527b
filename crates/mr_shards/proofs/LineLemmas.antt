-- Lines, as the code reads and writes them.
use Rattle.std.proofs.Common.{◌≡◌, ℕ, zero, suc, ◌+◌, ◌-◌, ◌<◌, ◌≤◌, ◌++◌, List, [], ◌∷◌, length, get_or, take, drop, refl, ap, sym, ◌∙◌, subst, arith, eq-eqb, inl, inr, eqb, eqb-true}
use Rattle.std.proofs.lemmas.Bool.{eqb-false}
use Rattle.std.proofs.lemmas.List.{take_all, length-drop}
use Rattle.memchr.specs.Find.{IsFirstByte, Nowhere, Passes, is_byte}
use Rattle.std.proofs.Common.{◌^◌, Bool, true, false, map, replicate}
use Rattle.std.specs.Prelude.{MatchOption, None, Option, Some, decimal}
use Rattle.std.proofs.lemmas.List.{length-replicate, append-nil}
use Rattle.mr_bytes.specs.declared.Value.TheVariants.{One, At}
use Rattle.mr_jobs.specs.JobSpec.{JobSpec, group_text_of, is_count, is_lines}
use Rattle.mr_jobs.specs.declared.job.GroupText.{GroupText}
use Rattle.mr_jobs.specs.declared.job.GroupText.TheVariants.{Count, Lines, Files as Listing}
use Rattle.std.specs.Ordering.{nat_cmp}
use Rattle.mr_bytes.specs.Lists.{Rises}
use Rattle.mr_reduce.specs.Text.{comma_separated, files_line, place_line, total_line}
use Rattle.std.specs.Borrow.{Bor}
use Rattle.std.specs.List.{AllByRecursion}
use Rattle.mr_bytes.proofs.ListLaws.{Has-all, Has-map, Has-map_from}
use Rattle.mr_shards.proofs.ShiftLemmas.{values-still}
use Rattle.std.specs.Int.{IsInRange}
use Rattle.std.proofs.Common.{◌≢◌}
use Rattle.mr_jobs.specs.Url.{before_byte}
use Rattle.mr_bytes.specs.Lists.{Has}
use Rattle.mr_shards.specs.Refused.{AreInFiles}
use Rattle.mr_shards.specs.Lines.{after_first, after_last, groups_for, numbers_in, places_in}
use Rattle.mr_shards.specs.Merged.{group_text_for}
use Rattle.std.proofs.Common.{not}
use Rattle.mr_sequential.proofs.KeyLaws.{bytes_eq-is}
use Rattle.std.specs.Str.{bytes_eq}
use Rattle.mr_shards.specs.Views.{BeginsWithLine, IsListTo, IsParsedFor, IsTallyFor, IsUnshifted, values_of}
use Rattle.mr_shards.specs.declared.line.Tally.{Tally}
use Rattle.mr_shards.specs.declared.line.Tally.TheVariants.{Total, Place, Files}
use Rattle.mr_shards.proofs.ReadingLemmas.{files-are, index-line, line-text, numbers_read, separated-lack, total-read, place-read, total-first, place-first, decimal-lacks, Lacks-append, before-first, after-first, after-last}
use Rattle.mr_shards.specs.Portions.{Shift, no_shift, shifted_value}
use Rattle.mr_bytes.specs.Cut.{Lacks}

pub lacks_front : (mark at : ℕ) (text : List ℕ) → at ≤ length text → Nowhere (Passes (is_byte mark) text) 0 at → Lacks mark (take at text)
lacks_front mark zero text h none = tt
lacks_front mark (suc at) [] h none = tt
lacks_front mark (suc at) (b ∷ text) h none =
    (λ e. none 0 (omega arith) (omega arith) (eq-eqb b mark e), lacks_front mark at text (omega (arith, h)) (λ k l m. none (suc k) (omega arith) (omega (arith, m))))

pub parted : (mark at : ℕ) (text : List ℕ) → at < length text → get_or text at 0 ≡ mark → text ≡ take at text ++ mark ∷ drop (at + 1) text
parted mark at [] h e = absurd (omega (arith, h))
parted mark zero (b ∷ text) h e = ap (λ x. x ∷ text) e
parted mark (suc at) (b ∷ text) h e = ap (λ l. b ∷ l) (parted mark at text (omega (arith, h)) e)
    ∙ (let n : at + 1 + 1 ≡ suc at + 1 = omega arith in ap (λ k. b ∷ (take at text ++ mark ∷ drop k (b ∷ text))) (let m : suc (at + 1) ≡ suc at + 1 = omega arith in m))

pub behind : (at : ℕ) (text : List ℕ) → take (length text - (at + 1)) (drop (at + 1) text) ≡ drop (at + 1) text
behind at text = take_all (length text - (at + 1)) (drop (at + 1) text) (omega (arith, length-drop (at + 1) text))

pub replicate-moved : (s : Shift) (n : ℕ) → replicate n One ≡ map (shifted_value s) (replicate n One)
replicate-moved s zero = refl
replicate-moved s (suc n) = ap (λ l. One ∷ l) (replicate-moved s n)

pub Lacks-front : (b : ℕ) (xs ys : List ℕ) → Lacks b (xs ++ ys) → Lacks b xs
Lacks-front b [] ys h = tt
Lacks-front b (x ∷ xs) ys h = (h.0, Lacks-front b xs ys h.1)

-- a line cut at its line feed and its last tab
pub record IsCut (text line key told rest : List ℕ) : Type 0 where
  pub first : text ≡ line ++ 10 ∷ rest
  pub clear : Lacks 10 line
  pub last : line ≡ key ++ 9 ∷ told

pub cut-clear : (text line key told rest : List ℕ) → IsCut text line key told rest → Lacks 10 key
cut-clear text line key told rest h = Lacks-front 10 key (9 ∷ told) (subst (Lacks 10) h.last h.clear)

cut-whole : (text line key told rest t : List ℕ) → IsCut text line key told rest → told ≡ t → text ≡ (key ++ 9 ∷ t) ++ 10 ∷ rest
cut-whole text line key told rest t h e = h.first ∙ ap (λ l. l ++ 10 ∷ rest) (h.last ∙ ap (λ l. key ++ 9 ∷ l) e)

-- the files that a list names, as places
numbers-small : (n : ℕ) (ns : List ℕ) → n ≤ 2 ^ 32 → AllByRecursion (λ m. m < n) ns → AllByRecursion (λ m. m < 2 ^ 64) ns
numbers-small n [] fits all = tt
numbers-small n (m ∷ ms) fits all = (omega (arith, fits, all.0), numbers-small n ms fits all.1)

pub list-numbers : (last : ℕ) (list : List ℕ) → (is : IsListTo last list) → numbers_in list ≡ is.1.0
list-numbers last list is = by is.1.0 is.1.1.some is.1.1.text (numbers-small (last + 1) is.1.0 (omega (arith, is.0)) is.1.1.below)
  where
    by : (ns : List ℕ) → 0 < length ns → list ≡ comma_separated ns → AllByRecursion (λ m. m < 2 ^ 64) ns → numbers_in list ≡ ns
    by [] some text small = absurd (omega (arith, some))
    by (n ∷ ns) some text small = ap numbers_in text ∙ numbers_read n ns small

-- at least one, rising
pub list-told : (list : Bor (List ℕ)) (last : ℕ) (moved : Shift) (told : List ℕ) → (told ≡ list.now) × (moved ≡ no_shift) × IsListTo last told
    → (n : ℕ) × (ns : List ℕ) × Rises nat_cmp (n ∷ ns) × AllByRecursion (λ m. m < 2 ^ 64) (n ∷ ns) × (told ≡ comma_separated (n ∷ ns))
    × (values_of (Files list last moved) ≡ places_in (n ∷ ns))
list-told list last moved told is = by is.2.1.0 is.2.1.1.some is.2.1.1.rise (numbers-small (last + 1) is.2.1.0 (omega (arith, is.2.0)) is.2.1.1.below) is.2.1.1.text (list-numbers last told is.2)
  where
    by : (ns : List ℕ) → 0 < length ns → Rises nat_cmp ns → AllByRecursion (λ m. m < 2 ^ 64) ns → told ≡ comma_separated ns → numbers_in told ≡ ns
        → (n : ℕ) × (ms : List ℕ) × Rises nat_cmp (n ∷ ms) × AllByRecursion (λ m. m < 2 ^ 64) (n ∷ ms) × (told ≡ comma_separated (n ∷ ms))
        × (values_of (Files list last moved) ≡ places_in (n ∷ ms))
    by [] some rise small text numbers = absurd (omega (arith, some))
    by (n ∷ ns) some rise small text numbers = (
      n,
      ns,
      rise,
      small,
      text,
      ap (λ (s : Shift). map (shifted_value s) (places_in (numbers_in list.now))) is.1 ∙ values-still (places_in (numbers_in list.now))
          ∙ ap (λ l. places_in (numbers_in l)) (sym is.0) ∙ ap places_in numbers,
    )

-- its text
pub cut-text : (form : GroupText) (t : Tally) (text line key told rest : List ℕ) → IsCut text line key told rest → IsParsedFor form t told
    → text ≡ group_text_for form (record { key = key; values = values_of t }) ++ rest
cut-text Count (Total n) text line key told rest h is =
    cut-whole text line key told rest (decimal n) h is.0 ∙ sym (total-first key n rest) ∙ ap (λ k. total_line key k ++ rest) (sym (length-replicate n One))
cut-text Lines (Place file offset) text line key told rest h is =
    cut-whole text line key told rest (decimal file ++ 58 ∷ decimal offset) h is.0 ∙ sym (place-first key file offset rest) ∙ ap (λ l. l ++ rest) (sym (append-nil (place_line key (At file offset))))
cut-text Listing (Files list last moved) text line key told rest h is =
    let w = list-told list last moved told is in
    cut-whole text line key told rest (comma_separated (w.0 ∷ w.1)) h w.4
    ∙ sym (line-text key (comma_separated (w.0 ∷ w.1)) rest)
    ∙ ap (λ fs. files_line key fs ++ rest) (sym (files-are (w.0 ∷ w.1) w.2))
    ∙ ap (λ vs. group_text_for Listing (record { key = key; values = vs }) ++ rest) (sym w.5)
cut-text form t text line key told rest h is = absurd is

-- and what it is read as
pub cut-read : (form : GroupText) (t : Tally) (text line key told rest : List ℕ) → IsCut text line key told rest → IsParsedFor form t told
    → groups_for form text ≡ record { key = key; values = values_of t } ∷ groups_for form rest
cut-read Count (Total n) text line key told rest h is =
    ap (groups_for Count) (cut-whole text line key told rest (decimal n) h is.0 ∙ sym (total-first key n rest)) ∙ total-read key n rest (cut-clear text line key told rest h) is.1
cut-read Lines (Place file offset) text line key told rest h is =
    ap (groups_for Lines) (cut-whole text line key told rest (decimal file ++ 58 ∷ decimal offset) h is.0 ∙ sym (place-first key file offset rest))
    ∙ place-read key file offset rest (cut-clear text line key told rest h) (omega (arith, is.1)) is.2
cut-read Listing (Files list last moved) text line key told rest h is =
    let w = list-told list last moved told is in
    ap (groups_for Listing) (cut-whole text line key told rest (comma_separated (w.0 ∷ w.1)) h w.4 ∙ sym (line-text key (comma_separated (w.0 ∷ w.1)) rest))
    ∙ index-line key w.0 w.1 rest (cut-clear text line key told rest h) w.3
    ∙ (λ i. record { key = key; values = sym w.5 i } ∷ groups_for Listing rest)
cut-read form t text line key told rest h is = absurd is

pub told-for : (form : GroupText) (t : Tally) (told : List ℕ) → IsParsedFor form t told → IsTallyFor form t
told-for Count (Total n) told h = tt
told-for Lines (Place file offset) told h = tt
told-for Listing (Files list last moved) told h =
    (subst (IsListTo last) h.0 h.2, (let none : moved.files ≡ 0 = ap (λ (s : Shift). s.files) h.1 in omega (arith, none, h.2.0)))
told-for form t told h = absurd h

pub told-still : (form : GroupText) (t : Tally) (told : List ℕ) → IsParsedFor form t told → IsUnshifted t
told-still form (Total n) told h = tt
told-still form (Place file offset) told h = tt
told-still Listing (Files list last moved) told h = (h.1, subst (IsListTo last) h.0 h.2)
told-still form (Files list last moved) told h = absurd h

pub same_key : (j k : List ℕ) → not (bytes_eq j k) ≡ false → j ≡ k
same_key j k e = bytes_eq-is j k (by (bytes_eq j k) e)
  where
    by : (b : Bool) → not b ≡ false → b ≡ true
    by true h = refl
    by false h = absurd (cc h)

-- no line of an index tells so
pub no-list : (form : GroupText) (told : List ℕ) → is_count form ≡ false → is_lines form ≡ false → ((n : ℕ) → IsListTo n told → ⊥) → (t : Tally) → IsParsedFor form t told → ⊥
no-list Count told c l none t h = absurd (cc c)
no-list Lines told c l none t h = absurd (cc l)
no-list Listing told c l none (Files list last moved) h = none last h.2
no-list Listing told c l none t h = h

-- a total tells no place
pub total-nowhere : (count n : ℕ) (t : Tally) → t ≡ Total n → AreInFiles count (values_of t)
total-nowhere count n t e file offset h = by n (subst (λ (u : Tally). Has (values_of u) (At file offset)) e h)
  where
    by : (k : ℕ) → Has (replicate k One) (At file offset) → file < count
    by zero a = absurd a
    by (suc k) (inl is) = absurd (cc is)
    by (suc k) (inr a) = by k a

-- a list tells places in its files, the last one too
list-values : (list : Bor (List ℕ)) (last : ℕ) (moved : Shift) → (is : IsUnshifted (Files list last moved)) → values_of (Files list last moved) ≡ places_in is.1.1.0
list-values list last moved is =
    ap (λ (s : Shift). map (shifted_value s) (places_in (numbers_in list.now))) is.0 ∙ values-still (places_in (numbers_in list.now))
    ∙ ap places_in (list-numbers last list.now is.1)

pub list-own : (count : ℕ) (list : Bor (List ℕ)) (last : ℕ) (moved : Shift) (t : Tally) → t ≡ Files list last moved → IsUnshifted t → last < count → AreInFiles count (values_of t)
list-own count list last moved t e still less f o h =
    let is : IsUnshifted (Files list last moved) = subst IsUnshifted e still in
    let there : Has (places_in is.1.1.0) (At f o) = subst (λ vs. Has vs (At f o)) (ap values_of e ∙ list-values list last moved is) h in
    let w = Has-map_from (λ file. At file 0) is.1.1.0 (At f o) there in
    let low : w.0 < last + 1 = Has-all (λ n. n < last + 1) is.1.1.0 w.0 is.1.1.1.below w.1 in
    let same : w.0 ≡ f = cc w.2 in
    omega (arith, low, same, less)

pub list-has : (list : Bor (List ℕ)) (last : ℕ) (moved : Shift) → IsUnshifted (Files list last moved) → Has (values_of (Files list last moved)) (At last 0)
list-has list last moved is =
    subst (λ vs. Has vs (At last 0)) (sym (list-values list last moved is)) (Has-map (λ file. At file 0) is.1.1.0 last is.1.1.2)

-- moved, it tells them moved
pub list-moved : (list : Bor (List ℕ)) (last : ℕ) (before moved : Shift) (t : Tally) → t ≡ Files list last moved → IsUnshifted t
    → values_of (Files list last before) ≡ map (shifted_value before) (values_of t)
list-moved list last before moved t e still =
    let is : IsUnshifted (Files list last moved) = subst IsUnshifted e still in
    ap (λ vs. map (shifted_value before) vs)
    (sym (ap values_of e ∙ ap (λ (s : Shift). map (shifted_value s) (places_in (numbers_in list.now))) is.0 ∙ values-still (places_in (numbers_in list.now))))

-- a total is where it is, however places are moved
pub total-moved : (s : Shift) (n : ℕ) (t : Tally) → t ≡ Total n → replicate n One ≡ map (shifted_value s) (values_of t)
total-moved s n t e = replicate-moved s n ∙ ap (λ u. map (shifted_value s) (values_of u)) (sym e)

pub lacks_all : (mark : ℕ) (text : List ℕ) → Nowhere (Passes (is_byte mark) text) 0 (length text) → Lacks mark text
lacks_all mark text none = subst (Lacks mark) (take_all (length text) text (omega arith)) (lacks_front mark (length text) text (omega arith) none)

pub lacks_behind : (mark at : ℕ) (text : List ℕ) → Nowhere (Passes (is_byte mark) text) at (length text) → Lacks mark (drop at text)
lacks_behind mark zero text none = lacks_all mark text none
lacks_behind mark (suc at) [] none = tt
lacks_behind mark (suc at) (b ∷ text) none = lacks_behind mark at text (λ k l m. none (suc k) (omega (arith, l)) (omega (arith, m)))

-- the parts of a place, cut at its colon
pub place-cut : (told front back : List ℕ) (file offset : ℕ) → told ≡ front ++ 58 ∷ back → Lacks 58 front → file < 2 ^ 64
    → told ≡ decimal file ++ 58 ∷ decimal offset → (front ≡ decimal file) × (back ≡ decimal offset)
place-cut told front back file offset a clear small b =
    let same : front ++ 58 ∷ back ≡ decimal file ++ 58 ∷ decimal offset = sym a ∙ b in
    let colon : Lacks 58 (decimal file) = decimal-lacks 58 file (λ h. omega (arith, h.1)) small in (
      sym (before-first 58 front back clear) ∙ ap (before_byte 58) same ∙ before-first 58 (decimal file) (decimal offset) colon,
      sym (after-first 58 front back clear) ∙ ap (after_first 58) same ∙ after-first 58 (decimal file) (decimal offset) colon,
    )

-- a line cut at its line feed and its last tab is cut so in one way
Lacks-there : (b : ℕ) (xs ys : List ℕ) → Lacks b (xs ++ b ∷ ys) → ⊥
Lacks-there b [] ys h = h.0 refl
Lacks-there b (x ∷ xs) ys h = Lacks-there b xs ys h.1

pub there : (b : ℕ) (text xs ys : List ℕ) → text ≡ xs ++ b ∷ ys → Lacks b text → ⊥
there b text xs ys e h = Lacks-there b xs ys (subst (Lacks b) e h)

told-lacks : (form : GroupText) (t : Tally) (told : List ℕ) (b : ℕ) → (IsInRange 48 57 b → ⊥) → b ≢ 58 → b ≢ 44 → IsParsedFor form t told → Lacks b told
told-lacks Count (Total n) told b digit colon comma is = subst (Lacks b) (sym is.0) (decimal-lacks b n digit is.1)
told-lacks Lines (Place file offset) told b digit colon comma is =
    subst (Lacks b) (sym is.0) (Lacks-append b (decimal file) (58 ∷ decimal offset) (decimal-lacks b file digit (omega (arith, is.1))) (λ e. colon (sym e), decimal-lacks b offset digit is.2))
told-lacks Listing (Files list last moved) told b digit colon comma is =
    let w = list-told list last moved told is in
    subst (Lacks b) (sym w.4) (separated-lack b w.0 w.1 digit (λ e. comma (sym e)) w.3)
told-lacks form t told b digit colon comma is = absurd is

begun-line : (job : JobSpec) (text : List ℕ) → (h : BeginsWithLine job text) → Lacks 10 (h.key ++ 9 ∷ h.told)
begun-line job text h =
    Lacks-append 10 h.key (9 ∷ h.told) h.clear (λ e. omega (arith, e), told-lacks (group_text_of job) h.tally h.told 10 (λ r. omega (arith, r.0)) (λ e. omega (arith, e)) (λ e. omega (arith, e)) h.tells)

pub begun-same : (job : JobSpec) (text line rest : List ℕ) (h : BeginsWithLine job text) → text ≡ line ++ 10 ∷ rest → Lacks 10 line → line ≡ h.key ++ 9 ∷ h.told
begun-same job text line rest h e clear =
    sym (before-first 10 line rest clear) ∙ ap (before_byte 10) (sym e ∙ h.text_is) ∙ before-first 10 (h.key ++ 9 ∷ h.told) h.rest (begun-line job text h)

-- of two tabs that a line is cut at the later one is known; where what stands behind the other tells something, that is the one
pub told-once : (form : GroupText) (t : Tally) (line key told front back : List ℕ) → line ≡ front ++ 9 ∷ back → Lacks 9 back → line ≡ key ++ 9 ∷ told → IsParsedFor form t told → back ≡ told
told-once form t line key told front back last whole e is =
    sym (after-last 9 front back whole) ∙ ap (after_last 9) (sym last ∙ e)
    ∙ after-last 9 key told (told-lacks form t told 9 (λ r. omega (arith, r.0)) (λ e'. omega (arith, e')) (λ e'. omega (arith, e')) is)

pub begun : (form : GroupText) (t : Tally) (key told : List ℕ) → Lacks 10 key → IsParsedFor form t told → Lacks 10 (key ++ 9 ∷ told)
begun form t key told clear is =
    Lacks-append 10 key (9 ∷ told) clear (λ e. omega (arith, e), told-lacks form t told 10 (λ r. omega (arith, r.0)) (λ e. omega (arith, e)) (λ e. omega (arith, e)) is)

-- ---- lanes that hold a mark

pub marked-there : (mark n : ℕ) (text : List ℕ) (i : ℕ) → get_or (map (λ b. eqb b mark) (take n text)) i false ≡ true → (i < length text) × (get_or text i 0 ≡ mark)
marked-there mark zero text i h = absurd (cc h)
marked-there mark (suc n) [] i h = absurd (cc h)
marked-there mark (suc n) (b ∷ bs) zero h = (omega arith, eqb-true b mark h)
marked-there mark (suc n) (b ∷ bs) (suc i) h = let w = marked-there mark n bs i h in (omega (arith, w.0), w.1)

pub unmarked-lacks : (mark n at : ℕ) (text : List ℕ) → at ≤ n → at ≤ length text → ((j : ℕ) → j < at → get_or (map (λ b. eqb b mark) (take n text)) j false ≡ false) → Lacks mark (take at text)
unmarked-lacks mark n zero text few within none = tt
unmarked-lacks mark zero (suc at) text few within none = absurd (omega (arith, few))
unmarked-lacks mark (suc n) (suc at) [] few within none = absurd (omega (arith, within))
unmarked-lacks mark (suc n) (suc at) (b ∷ bs) few within none =
    (eqb-false b mark (none 0 (omega arith)), unmarked-lacks mark n at bs (omega (arith, few)) (omega (arith, within)) (λ j h. none (suc j) (omega (arith, h))))

pub marked-near : (mark n : ℕ) (text : List ℕ) (i : ℕ) → get_or (map (λ b. eqb b mark) (take n text)) i false ≡ true → i ≤ n
marked-near mark zero text i h = absurd (cc h)
marked-near mark (suc n) [] i h = absurd (cc h)
marked-near mark (suc n) (b ∷ bs) zero h = omega arith
marked-near mark (suc n) (b ∷ bs) (suc i) h = omega (arith, marked-near mark n bs i h)

-- what a search finds
pub place-found : (mark : ℕ) (text : List ℕ) (found : Option ℕ) → IsFirstByte (is_byte mark) text found
    → MatchOption found (Lacks mark text) (λ at. (at < length text) × (get_or text at 0 ≡ mark) × Lacks mark (take at text))
place-found mark text None h = lacks_all mark text h
place-found mark text (Some at) h = (h.0.high, eqb-true _ mark h.1, lacks_front mark at text (omega (arith, h.0.high)) h.0.before)
