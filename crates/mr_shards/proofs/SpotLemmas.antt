-- Records that are left out by where they begin.
use Rattle.std.proofs.Common.{◌≡◌, ℕ, suc, ◌+◌, ◌<◌, cond, eqb, List, [], ◌∷◌, ◌++◌, length, filter, map, refl, sym, ◌∙◌, ap, subst, arith, true, false, Bool, ◌&&◌, ◌||◌, inl, inr, ◌⊎◌}
use Rattle.std.proofs.lemmas.Bool.{eq-eqb, ne_eqb, and_from}
use Rattle.std.proofs.lemmas.List.{append_assoc}
use Rattle.std.proofs.lemmas.List.Folds.{list_any-append}
use Rattle.std.specs.List.{AllByRecursion, list_any}
use Rattle.mr_bytes.proofs.ListLaws.{Has-all, all_from_Has}
use Rattle.mr_bytes.specs.declared.RecordName.{RecordName}
use Rattle.mr_records.specs.Records.{Record, records}
use Rattle.mr_splits.specs.Cut.{left_out_flags}
use Rattle.mr_splits.specs.Named.{NamedRecord, is_left_out, named_records}
use Rattle.mr_splits.proofs.RisingLemmas.{AtLeast, RisesFrom, at_least-trans, files-rise}
use Rattle.mr_splits.proofs.StartLemmas.{StartsIn, starts-file}
use Rattle.mr_shards.specs.Spots.{Spot, begins_at, spot_of}
use Rattle.mr_shards.proofs.BareLemmas.{Bare, bare, bare_in, bares, named-bare}

-- ---- those of a list that a test takes are found again among them by what tells them apart

module _ {X : Type 0} (same : X → X → Bool) where
  -- no two are the same, in either order
  abbrev pub Apart : List X → Type 0
  Apart [] = Unit {0}
  Apart (x ∷ xs) = AllByRecursion (λ y. (same x y ≡ false) × (same y x ≡ false)) xs × Apart xs

  none-taken : (q : X → Bool) (x : X) (xs : List X) → AllByRecursion (λ y. (same x y ≡ false) × (same y x ≡ false)) xs → list_any (same x) (filter q xs) ≡ false
  none-taken q x [] all = refl
  none-taken q x (y ∷ ys) all = by (q y) (none-taken q x ys all.1)
    where
      by : (b : Bool) → list_any (same x) (filter q ys) ≡ false → list_any (same x) (cond b (y ∷ filter q ys) (filter q ys)) ≡ false
      by true rest = ap (λ t. t || list_any (same x) (filter q ys)) all.0.0 ∙ rest
      by false rest = rest

  -- behind others that are the same as none of them
  found-behind : (q : X → Bool) (front xs : List X) → ((x : X) → same x x ≡ true) → Apart xs → AllByRecursion (λ x. list_any (same x) front ≡ false) xs
      → map (λ x. list_any (same x) (front ++ filter q xs)) xs ≡ map q xs
  found-behind q front [] itself apart clear = refl
  found-behind q front (x ∷ xs) itself apart clear =
      let here : list_any (same x) (front ++ cond (q x) (x ∷ filter q xs) (filter q xs)) ≡ q x =
      list_any-append (same x) front (cond (q x) (x ∷ filter q xs) (filter q xs))
      ∙ ap (λ t. t || list_any (same x) (cond (q x) (x ∷ filter q xs) (filter q xs))) clear.0 ∙ head (q x) in
      let rest : map (λ y. list_any (same y) (front ++ cond (q x) (x ∷ filter q xs) (filter q xs))) xs ≡ map q xs =
      tail (q x) (found-behind q (front ++ x ∷ []) xs itself apart.1 (longer xs apart.0 clear.1)) (found-behind q front xs itself apart.1 clear.1) in
      λ i. here i ∷ rest i
    where
      head : (b : Bool) → list_any (same x) (cond b (x ∷ filter q xs) (filter q xs)) ≡ b
      head true = ap (λ t. t || list_any (same x) (filter q xs)) (itself x)
      head false = none-taken q x xs apart.0

      longer : (ys : List X) → AllByRecursion (λ y. (same x y ≡ false) × (same y x ≡ false)) ys → AllByRecursion (λ y. list_any (same y) front ≡ false) ys
          → AllByRecursion (λ y. list_any (same y) (front ++ x ∷ []) ≡ false) ys
      longer [] a c = tt
      longer (y ∷ ys) a c =
          (list_any-append (same y) front (x ∷ []) ∙ ap (λ t. t || (same y x || false)) c.0 ∙ ap (λ t. t || false) a.0.1, longer ys a.1 c.1)

      assoc : (ys : List X) → map (λ y. list_any (same y) (front ++ x ∷ filter q xs)) ys ≡ map (λ y. list_any (same y) ((front ++ x ∷ []) ++ filter q xs)) ys
      assoc ys = ap (λ l. map (λ y. list_any (same y) l) ys) (sym (append_assoc front (x ∷ []) (filter q xs)))

      tail : (b : Bool) → map (λ y. list_any (same y) ((front ++ x ∷ []) ++ filter q xs)) xs ≡ map q xs → map (λ y. list_any (same y) (front ++ filter q xs)) xs ≡ map q xs
          → map (λ y. list_any (same y) (front ++ cond b (x ∷ filter q xs) (filter q xs))) xs ≡ map q xs
      tail true taken left = assoc xs ∙ taken
      tail false taken left = left

  none : (xs : List X) → AllByRecursion (λ x. list_any (same x) [] ≡ false) xs
  none [] = tt
  none (x ∷ xs) = (refl, none xs)

  pub found : (q : X → Bool) (xs : List X) → ((x : X) → same x x ≡ true) → Apart xs → map (λ x. list_any (same x) (filter q xs)) xs ≡ map q xs
  found q xs itself apart = found-behind q [] xs itself apart (none xs)

pub any-map : {X Y : Type 0} (p : Y → Bool) (f : X → Y) (xs : List X) → list_any p (map f xs) ≡ list_any (λ x. p (f x)) xs
any-map p f [] = refl
any-map p f (x ∷ xs) = ap (λ t. p (f x) || t) (any-map p f xs)

pub map-same : {X Y : Type 0} (f g : X → Y) (xs : List X) → ((x : X) → f x ≡ g x) → map f xs ≡ map g xs
map-same f g [] same = refl
map-same f g (x ∷ xs) same = let here = same x in let rest = map-same f g xs same in λ i. here i ∷ rest i

pub map-on : {X Y : Type 0} (f g : X → Y) (xs : List X) → AllByRecursion (λ x. f x ≡ g x) xs → map f xs ≡ map g xs
map-on f g [] same = refl
map-on f g (x ∷ xs) same = let here = same.0 in let rest = map-on f g xs same.1 in λ i. here i ∷ rest i

pub map-of : {X Y Z : Type 0} (f : Y → Z) (g : X → Y) (xs : List X) → map f (map g xs) ≡ map (λ x. f (g x)) xs
map-of f g [] = refl
map-of f g (x ∷ xs) = ap (λ l. f (g x) ∷ l) (map-of f g xs)

pub map-length : {X Y : Type 0} (f : X → Y) (xs : List X) → length (map f xs) ≡ length xs
map-length f [] = refl
map-length f (x ∷ xs) = ap suc (map-length f xs)

pub all-append : {X : Type 0} (P : X → Type 0) (xs ys : List X) → AllByRecursion P xs → AllByRecursion P ys → AllByRecursion P (xs ++ ys)
all-append P [] ys a b = b
all-append P (x ∷ xs) ys a b = (a.0, all-append P xs ys a.1 b)

-- ---- names tell records apart

abbrev pub same_name : NamedRecord → NamedRecord → Bool
same_name x y = (eqb y.name.split x.name.split) && (eqb y.name.rec x.name.rec)

and_false : (a : Bool) → (a && false) ≡ false
and_false true = refl
and_false false = refl

past-apart : (x y : NamedRecord) → AtLeast x.name.split (x.name.rec + 1) y.name → (same_name x y ≡ false) × (same_name y x ≡ false)
past-apart x y (inl less) = (
  ap (λ t. t && eqb y.name.rec x.name.rec) (ne_eqb y.name.split x.name.split (λ e. omega (arith, e, less))),
  ap (λ t. t && eqb x.name.rec y.name.rec) (ne_eqb x.name.split y.name.split (λ e. omega (arith, e, less))),
)
past-apart x y (inr more) = (
  ap (λ t. eqb y.name.split x.name.split && t) (ne_eqb y.name.rec x.name.rec (λ e. omega (arith, e, more.1))) ∙ and_false (eqb y.name.split x.name.split),
  ap (λ t. eqb x.name.split y.name.split && t) (ne_eqb x.name.rec y.name.rec (λ e. omega (arith, e, more.1))) ∙ and_false (eqb x.name.split y.name.split),
)

at_least-weaker : (s r : ℕ) (n : RecordName) → AtLeast s (r + 1) n → AtLeast s r n
at_least-weaker s r n (inl less) = inl less
at_least-weaker s r n (inr more) = inr (more.0, omega (arith, more.1))

names-past : (s r s' r' : ℕ) (xs : List NamedRecord) → ((n : RecordName) → AtLeast s' r' n → AtLeast s r n) → RisesFrom s' r' xs → AllByRecursion (λ (x : NamedRecord). AtLeast s r x.name) xs
names-past s r s' r' [] more h = tt
names-past s r s' r' (x ∷ xs) more h = (
  more x.name h.0,
  names-past s r x.name.split (x.name.rec + 1) xs
      (λ n a. more n (at_least-trans s' r' x.name n h.0 (at_least-weaker x.name.split x.name.rec n a))) h.1,
)

names-apart_from : (s r : ℕ) (xs : List NamedRecord) → RisesFrom s r xs → Apart same_name xs
names-apart_from s r [] h = tt
names-apart_from s r (x ∷ xs) h = (
  all_from_Has (λ y. (same_name x y ≡ false) × (same_name y x ≡ false)) xs
      (λ y a. past-apart x y (Has-all (λ (z : NamedRecord). AtLeast x.name.split (x.name.rec + 1) z.name) xs y
      (names-past x.name.split (x.name.rec + 1) x.name.split (x.name.rec + 1) xs (λ n b. b) h.1) a)),
  names-apart_from x.name.split (x.name.rec + 1) xs h.1,
)

pub names-apart : (size : ℕ) (files : List (List ℕ)) → 0 < size → Apart same_name (named_records size files)
names-apart size files some = names-apart_from 0 0 (named_records size files) (files-rise size 0 0 files some)

-- the names of records that a test takes leave out just those
pub names-flags : (q : NamedRecord → Bool) (size : ℕ) (files : List (List ℕ)) → 0 < size
    → left_out_flags (map (λ (r : NamedRecord). r.name) (filter q (named_records size files))) (named_records size files) ≡ map q (named_records size files)
names-flags q size files some =
    let rs : List NamedRecord = named_records size files in
    map-same (λ (x : NamedRecord). is_left_out (map (λ (r : NamedRecord). r.name) (filter q rs)) x.name) (λ x. list_any (same_name x) (filter q rs)) rs
    (λ x. any-map (λ (s : RecordName). (eqb s.split x.name.split) && (eqb s.rec x.name.rec)) (λ (r : NamedRecord). r.name) (filter q rs))
    ∙ found same_name q rs (λ x. and_from (eqb x.name.split x.name.split) (eqb x.name.rec x.name.rec) (eq-eqb x.name.split x.name.split refl) (eq-eqb x.name.rec x.name.rec refl)) (names-apart size files some)

-- ---- spots tell records apart

abbrev pub same_spot : Bare → Bare → Bool
same_spot x y = (eqb y.file x.file) && (eqb y.start x.start)

abbrev pub IsBefore : Bare → Bare → Type 0
IsBefore x y = (x.file < y.file) ⊎ ((x.file ≡ y.file) × (x.start < y.start))

before-apart : (x y : Bare) → IsBefore x y → (same_spot x y ≡ false) × (same_spot y x ≡ false)
before-apart x y (inl less) = (
  ap (λ t. t && eqb y.start x.start) (ne_eqb y.file x.file (λ e. omega (arith, e, less))),
  ap (λ t. t && eqb x.start y.start) (ne_eqb x.file y.file (λ e. omega (arith, e, less))),
)
before-apart x y (inr more) = (
  ap (λ t. eqb y.file x.file && t) (ne_eqb y.start x.start (λ e. omega (arith, e, more.1))) ∙ and_false (eqb y.file x.file),
  ap (λ t. eqb x.file y.file && t) (ne_eqb x.start y.start (λ e. omega (arith, e, more.1))) ∙ and_false (eqb x.file y.file),
)

abbrev pub AreInTurn : List Bare → Type 0
AreInTurn [] = Unit {0}
AreInTurn (x ∷ xs) = AllByRecursion (IsBefore x) xs × AreInTurn xs

in_turn-apart : (xs : List Bare) → AreInTurn xs → Apart same_spot xs
in_turn-apart [] h = tt
in_turn-apart (x ∷ xs) h =
    (all_from_Has (λ y. (same_spot x y ≡ false) × (same_spot y x ≡ false)) xs (λ y a. before-apart x y (Has-all (IsBefore x) xs y h.0 a)), in_turn-apart xs h.1)

in_turn-append : (xs ys : List Bare) → AreInTurn xs → AreInTurn ys → AllByRecursion (λ x. AllByRecursion (IsBefore x) ys) xs → AreInTurn (xs ++ ys)
in_turn-append [] ys h k all = k
in_turn-append (x ∷ xs) ys h k all = (all-append (IsBefore x) xs ys h.0 all.0, in_turn-append xs ys h.1 k all.1)

starts-past : (x : Bare) (file low high : ℕ) (rs : List Record) → x.file ≡ file → x.start < low → StartsIn low high rs → AllByRecursion (IsBefore x) (map (bare_in file) rs)
starts-past x file low high [] e l s = tt
starts-past x file low high (r ∷ rs) e l s = (inr (e, omega (arith, l, s.0)), starts-past x file (r.start + 1) high rs e (omega (arith, l, s.0)) s.2)

in_turn-file : (file low high : ℕ) (rs : List Record) → StartsIn low high rs → AreInTurn (map (bare_in file) rs)
in_turn-file file low high [] s = tt
in_turn-file file low high (r ∷ rs) s =
    (starts-past (bare_in file r) file (r.start + 1) high rs refl (omega arith) s.2, in_turn-file file (r.start + 1) high rs s.2)

pub in-file : (P : Bare → Type 0) (file low high : ℕ) (rs : List Record) → ((b : Bare) → b.file ≡ file → b.start < high → P b) → StartsIn low high rs → AllByRecursion P (map (bare_in file) rs)
in-file P file low high [] f s = tt
in-file P file low high (r ∷ rs) f s = (f (bare_in file r) refl s.1, in-file P file (r.start + 1) high rs f s.2)

later-files : (x : Bare) (file : ℕ) (fs : List (List ℕ)) → x.file < file → AllByRecursion (IsBefore x) (bares file fs)
later-files x file [] l = tt
later-files x file (f ∷ fs) l =
    all-append (IsBefore x) (map (bare_in file) (records f)) (bares (file + 1) fs)
    (in-file (IsBefore x) file 0 (length f) (records f) (λ b e h. inl (omega (arith, l, e))) (starts-file f))
    (later-files x (file + 1) fs (omega (arith, l)))

in_turn-files : (file : ℕ) (fs : List (List ℕ)) → AreInTurn (bares file fs)
in_turn-files file [] = tt
in_turn-files file (f ∷ fs) =
    in_turn-append (map (bare_in file) (records f)) (bares (file + 1) fs) (in_turn-file file 0 (length f) (records f) (starts-file f)) (in_turn-files (file + 1) fs)
    (in-file (λ x. AllByRecursion (IsBefore x) (bares (file + 1) fs)) file 0 (length f) (records f) (λ x e h. later-files x (file + 1) fs (omega (arith, e))) (starts-file f))

apart-map : {X Y : Type 0} (same : Y → Y → Bool) (f : X → Y) (xs : List X) → Apart same (map f xs) → Apart (λ x y. same (f x) (f y)) xs
apart-map same f [] h = tt
apart-map {X} {Y} same f (x ∷ xs) h = (every xs h.0, apart-map same f xs h.1)
  where
    every : (ys : List X) → AllByRecursion (λ y. (same (f x) y ≡ false) × (same y (f x) ≡ false)) (map f ys)
        → AllByRecursion (λ y. (same (f x) (f y) ≡ false) × (same (f y) (f x) ≡ false)) ys
    every [] a = tt
    every (y ∷ ys) a = (a.0, every ys a.1)

spots-apart : (size : ℕ) (files : List (List ℕ)) → Apart (λ x y. same_spot (bare x) (bare y)) (named_records size files)
spots-apart size files =
    apart-map same_spot bare (named_records size files)
    (subst (Apart same_spot) (sym (named-bare size files)) (in_turn-apart (bares 0 files) (in_turn-files 0 files)))

-- a record without its name begins at one of the spots
abbrev pub at_spot : List Spot → Bare → Bool
at_spot spots b = list_any (λ (s : Spot). (eqb s.file b.file) && (eqb s.start b.start)) spots

-- the spots of the records that a test takes are those of just these
pub spots-flags : (q : NamedRecord → Bool) (size : ℕ) (files : List (List ℕ))
    → map (begins_at (map spot_of (filter q (named_records size files)))) (named_records size files) ≡ map q (named_records size files)
spots-flags q size files =
    let rs : List NamedRecord = named_records size files in
    map-same (begins_at (map spot_of (filter q rs))) (λ x. list_any (λ y. same_spot (bare x) (bare y)) (filter q rs)) rs
    (λ x. any-map (λ (s : Spot). (eqb s.file x.file) && (eqb s.start x.start)) spot_of (filter q rs))
    ∙ found (λ x y. same_spot (bare x) (bare y)) q rs (λ x. and_from (eqb x.file x.file) (eqb x.start x.start) (eq-eqb x.file x.file refl) (eq-eqb x.start x.start refl)) (spots-apart size files)
