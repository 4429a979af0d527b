-- A record is left out of the whole just where it is left out of its portion.
use Rattle.std.proofs.Common.{◌≡◌, ℕ, ◌+◌, ◌-◌, ◌<◌, cond, eqb, List, [], ◌∷◌, ◌++◌, length, filter, map, refl, sym, ◌∙◌, ap, subst, arith, true, false, Bool, ◌&&◌, ◌||◌, inl, inr, ◌⊎◌}
use Rattle.std.proofs.lemmas.Bool.{cases_eq, eq-eqb, ne_eqb}
use Rattle.std.proofs.lemmas.List.{map-append}
use Rattle.std.proofs.lemmas.List.Folds.{list_any-append}
use Rattle.std.specs.List.{AllByRecursion}
use Rattle.mr_records.specs.Records.{records}
use Rattle.mr_shards.proofs.NamedLemmas.{eqb-moved}
use Rattle.mr_splits.specs.Cut.{left_out_flags}
use Rattle.mr_splits.specs.Named.{NamedRecord, is_left_out, named_records}
use Rattle.mr_splits.proofs.StartLemmas.{starts-file}
use Rattle.mr_shards.specs.Portions.{Portion, Shift, AreCutAtLines, last_file, shift_behind, shifted_start, whole_of, shift_of}
use Rattle.mr_shards.specs.Spots.{Spot, begins_at, left_out_of, left_out_spots, shifted_spot, spot_of, spots_of}
use Rattle.mr_shards.proofs.BareLemmas.{Bare, all_bares, bare, bare_in, bares, bares-whole, named-bare, shift, shifted_bare}
use Rattle.mr_shards.proofs.EmissionLemmas.{all_flags}
use Rattle.mr_shards.proofs.SpotLemmas.{all-append, at_spot, in-file, map-of, map-on, names-flags, spots-flags}

-- ---- what stands in front of a shift is no place that it gives

abbrev pub InFront : Shift → ℕ → ℕ → Type 0
InFront h file start = (file < h.files) ⊎ ((file ≡ h.files) × (start < h.bytes))

abbrev pub IsInFront : Shift → Bare → Type 0
IsInFront h b = InFront h b.file b.start

front-of : (h : Shift) (file start f x : ℕ) → InFront h file start → (eqb (h.files + f) file && eqb (shifted_start h f x) start) ≡ false
front-of h file start f x (inl less) = ap (λ t. t && eqb (shifted_start h f x) start) (ne_eqb (h.files + f) file (λ e. omega (arith, e, less)))
front-of h file start f x (inr more) =
    elim (cases_eq f 0) [
      | inl none ↦
          let moved : shifted_start h f x ≡ h.bytes + x = ap (λ t. cond t (h.bytes + x) x) (eq-eqb f 0 none) in
          ap (λ t. eqb (h.files + f) file && t) (ne_eqb (shifted_start h f x) start (λ e. omega (arith, e, moved, more.1))) ∙ and_none (eqb (h.files + f) file)
      | inr some ↦ ap (λ t. t && eqb (shifted_start h f x) start) (ne_eqb (h.files + f) file (λ e. some (omega (arith, e, more.0))))
    ]
  where
    and_none : (a : Bool) → (a && false) ≡ false
    and_none true = refl
    and_none false = refl

front-of_swapped : (h : Shift) (file start f x : ℕ) → InFront h file start → (eqb file (h.files + f) && eqb start (shifted_start h f x)) ≡ false
front-of_swapped h file start f x front = ap (λ t. t && eqb start (shifted_start h f x)) (swap file (h.files + f)) ∙ ap (λ t. eqb (h.files + f) file && t) (swap start (shifted_start h f x)) ∙ front-of h file start f x front
  where
    swap : (a b : ℕ) → eqb a b ≡ eqb b a
    swap a b = elim (cases_eq a b) [ inl e ↦ eq-eqb a b e ∙ sym (eq-eqb b a (sym e)) | inr ne ↦ ne_eqb a b ne ∙ sym (ne_eqb b a (λ e. ne (sym e))) ]

-- places that are moved alike are the same where they were
same-shifted : (h : Shift) (f g x y : ℕ) → (eqb (h.files + f) (h.files + g) && eqb (shifted_start h f x) (shifted_start h g y)) ≡ (eqb f g && eqb x y)
same-shifted h f g x y =
    elim (cases_eq f g) [
      | inl e ↦ subst (λ k. (eqb (h.files + f) (h.files + k) && eqb (shifted_start h f x) (shifted_start h k y)) ≡ (eqb f k && eqb x y)) e
          (ap (λ t. t && eqb (shifted_start h f x) (shifted_start h f y)) (eqb-moved h.files f f) ∙ ap (λ t. eqb f f && t) (by (eqb f 0)))
      | inr ne ↦ ap (λ t. t && eqb (shifted_start h f x) (shifted_start h g y)) (eqb-moved h.files f g ∙ ne_eqb f g ne) ∙ ap (λ t. t && eqb x y) (sym (ne_eqb f g ne))
    ]
  where
    by : (t : Bool) → eqb (cond t (h.bytes + x) x) (cond t (h.bytes + y) y) ≡ eqb x y
    by true = eqb-moved h.bytes x y
    by false = refl

spots-past : (h : Shift) (b : Bare) (spots : List Spot) → IsInFront h b → at_spot (map (shifted_spot h) spots) b ≡ false
spots-past h b [] front = refl
spots-past h b (s ∷ ss) front =
    ap (λ t. t || at_spot (map (shifted_spot h) ss) b) (front-of h b.file b.start s.file s.start front) ∙ spots-past h b ss front

spots-before : (h : Shift) (b : Bare) (q : NamedRecord → Bool) (rs : List NamedRecord) → AllByRecursion (λ r. IsInFront h (bare r)) rs
    → at_spot (map spot_of (filter q rs)) (shifted_bare h b) ≡ false
spots-before h b q [] all = refl
spots-before h b q (r ∷ rs) all = by (q r) (spots-before h b q rs all.1)
  where
    by : (t : Bool) → at_spot (map spot_of (filter q rs)) (shifted_bare h b) ≡ false → at_spot (map spot_of (cond t (r ∷ filter q rs) (filter q rs))) (shifted_bare h b) ≡ false
    by true rest = ap (λ t. t || at_spot (map spot_of (filter q rs)) (shifted_bare h b)) (front-of_swapped h r.file r.start b.file b.start all.0) ∙ rest
    by false rest = rest

spots-shifted : (h : Shift) (b : Bare) (spots : List Spot) → at_spot (map (shifted_spot h) spots) (shifted_bare h b) ≡ at_spot spots b
spots-shifted h b [] = refl
spots-shifted h b (s ∷ ss) =
    ap (λ t. t || at_spot (map (shifted_spot h) ss) (shifted_bare h b)) (same-shifted h s.file b.file s.start b.start)
    ∙ ap (λ t. (eqb s.file b.file && eqb s.start b.start) || t) (spots-shifted h b ss)

-- ---- the records of a portion stand in front of its shift

front-files : (file : ℕ) (fs : List (List ℕ)) → AllByRecursion (IsInFront (shift (file + length fs) 0)) (bares file fs)
front-files file [] = tt
front-files file (f ∷ fs) =
    let next : file + 1 + length fs ≡ file + length (f ∷ fs) = omega arith in
    let P : Bare → Type 0 = IsInFront (shift (file + length (f ∷ fs)) 0) in
    all-append P (map (bare_in file) (records f)) (bares (file + 1) fs)
    (in-file P file 0 (length f) (records f) (λ b e l. inl (omega (arith, e))) (starts-file f))
    (subst (λ n. AllByRecursion (IsInFront (shift n 0)) (bares (file + 1) fs)) next (front-files (file + 1) fs))

front-glued : (file : ℕ) (fs : List (List ℕ)) → AllByRecursion (IsInFront (shift (file + (length fs - 1)) (length (last_file fs)))) (bares file fs)
front-glued file [] = tt
front-glued file (f ∷ []) =
    let P : Bare → Type 0 = IsInFront (shift (file + (length (f ∷ []) - 1)) (length f)) in
    all-append P (map (bare_in file) (records f)) []
    (in-file P file 0 (length f) (records f) (λ b e l. inr (omega (arith, e), l)) (starts-file f)) tt
front-glued file (f ∷ g ∷ fs) =
    let next : file + 1 + (length (g ∷ fs) - 1) ≡ file + (length (f ∷ g ∷ fs) - 1) = omega arith in
    let last : ℕ = length (last_file (g ∷ fs)) in
    let P : Bare → Type 0 = IsInFront (shift (file + (length (f ∷ g ∷ fs) - 1)) last) in
    all-append P (map (bare_in file) (records f)) (bares (file + 1) (g ∷ fs))
    (in-file P file 0 (length f) (records f) (λ b e l. inl (omega (arith, e))) (starts-file f))
    (subst (λ n. AllByRecursion (IsInFront (shift n last)) (bares (file + 1) (g ∷ fs))) next (front-glued (file + 1) (g ∷ fs)))

front-all : (on : Bool) (fs : List (List ℕ)) → AllByRecursion (IsInFront (shift_behind on (length fs) (length (last_file fs)))) (bares 0 fs)
front-all true fs =
    let none : 0 + (length fs - 1) ≡ length fs - 1 = omega arith in
    subst (λ n. AllByRecursion (IsInFront (shift n (length (last_file fs)))) (bares 0 fs)) none (front-glued 0 fs)
front-all false fs =
    let none : 0 + length fs ≡ length fs = omega arith in
    subst (λ n. AllByRecursion (IsInFront (shift n 0)) (bares 0 fs)) none (front-files 0 fs)

all-of_map : {X Y : Type 0} (P : Y → Type 0) (f : X → Y) (xs : List X) → AllByRecursion P (map f xs) → AllByRecursion (λ x. P (f x)) xs
all-of_map P f [] a = tt
all-of_map P f (x ∷ xs) a = (a.0, all-of_map P f xs a.1)

-- ---- all portions

-- whether a record of the whole begins at a spot of some portion
pub spots-all : (size : ℕ) (portions : List Portion) → map (at_spot (left_out_spots size portions)) (all_bares portions) ≡ all_flags size portions
spots-all size [] = refl
spots-all size (s ∷ ss) =
    let h : Shift = shift_of s in
    let mine : List Spot = spots_of size s.files s.skips in
    let later : List Spot = left_out_spots size ss in
    let all : List Spot = mine ++ map (shifted_spot h) later in
    let rs : List NamedRecord = named_records size s.files in
    let front : AllByRecursion (IsInFront h) (bares 0 s.files) = front-all s.cut s.files in
    let named_front : AllByRecursion (λ r. IsInFront h (bare r)) rs = all-of_map (IsInFront h) bare rs (subst (AllByRecursion (IsInFront h)) (sym (named-bare size s.files)) front) in
    let first : map (at_spot all) (bares 0 s.files) ≡ left_out_flags s.skips rs =
    map-on (at_spot all) (at_spot mine) (bares 0 s.files) (own h mine later (bares 0 s.files) front)
    ∙ ap (map (at_spot mine)) (sym (named-bare size s.files)) ∙ map-of (at_spot mine) bare rs ∙ spots-flags (λ r. is_left_out s.skips r.name) size s.files in
    let second : map (at_spot all) (map (shifted_bare h) (all_bares ss)) ≡ all_flags size ss =
    map-of (at_spot all) (shifted_bare h) (all_bares ss)
    ∙ map-on (λ b. at_spot all (shifted_bare h b)) (at_spot later) (all_bares ss) (others h s rs named_front later (all_bares ss))
    ∙ spots-all size ss in
    map-append (at_spot all) (bares 0 s.files) (map (shifted_bare h) (all_bares ss))
    ∙ ap (λ l. l ++ map (at_spot all) (map (shifted_bare h) (all_bares ss))) first ∙ ap (λ l. left_out_flags s.skips rs ++ l) second
  where
    or_none : (a : Bool) → (a || false) ≡ a
    or_none true = refl
    or_none false = refl

    own : (h : Shift) (mine later : List Spot) (bs : List Bare) → AllByRecursion (IsInFront h) bs
        → AllByRecursion (λ b. at_spot (mine ++ map (shifted_spot h) later) b ≡ at_spot mine b) bs
    own h mine later [] a = tt
    own h mine later (b ∷ bs) a = (
      list_any-append (λ (s : Spot). (eqb s.file b.file) && (eqb s.start b.start)) mine (map (shifted_spot h) later)
          ∙ ap (λ t. at_spot mine b || t) (spots-past h b later a.0) ∙ or_none (at_spot mine b),
      own h mine later bs a.1,
    )

    others : (h : Shift) (s : Portion) (rs : List NamedRecord) → AllByRecursion (λ r. IsInFront h (bare r)) rs → (later : List Spot) (bs : List Bare)
        → AllByRecursion (λ b. at_spot (map spot_of (filter (λ (r : NamedRecord). is_left_out s.skips r.name) rs) ++ map (shifted_spot h) later) (shifted_bare h b) ≡ at_spot later b) bs
    others h s rs front later [] = tt
    others h s rs front later (b ∷ bs) = (
      list_any-append (λ (t : Spot). (eqb t.file (shifted_bare h b).file) && (eqb t.start (shifted_bare h b).start)) (map spot_of (filter (λ (r : NamedRecord). is_left_out s.skips r.name) rs)) (map (shifted_spot h) later)
          ∙ ap (λ t. t || at_spot (map (shifted_spot h) later) (shifted_bare h b)) (spots-before h b (λ (r : NamedRecord). is_left_out s.skips r.name) rs front)
          ∙ spots-shifted h b later,
      others h s rs front later bs,
    )

-- the records of the whole that are left out
pub begins-whole : (size : ℕ) (portions : List Portion) → AreCutAtLines portions
    → map (begins_at (left_out_spots size portions)) (named_records size (whole_of portions)) ≡ all_flags size portions
begins-whole size portions cut =
    let files : List (List ℕ) = whole_of portions in
    let spots : List Spot = left_out_spots size portions in
    sym (map-of (at_spot spots) bare (named_records size files))
    ∙ ap (map (at_spot spots)) (named-bare size files ∙ bares-whole portions cut) ∙ spots-all size portions

pub flags-whole : (size : ℕ) (portions : List Portion) → 0 < size → AreCutAtLines portions
    → left_out_flags (left_out_of size portions) (named_records size (whole_of portions)) ≡ all_flags size portions
flags-whole size portions some cut =
    names-flags (begins_at (left_out_spots size portions)) size (whole_of portions) some ∙ begins-whole size portions cut
