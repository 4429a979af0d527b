-- What a split emits without the records that are left out, record by record; and its names rise.
use Rattle.std.proofs.Common.{◌≡◌, ℕ, ◌+◌, ◌-◌, ◌<◌, ◌≤◌, Bool, true, false, not, ◌&&◌, ◌==◌, cond, List, [], ◌∷◌, ◌++◌, length, get_or, filter, take, drop, slice_range, refl, sym, ◌∙◌, ap, subst, arith, append_assoc}
use Rattle.std.proofs.lemmas.List.{append-nil, map-append, take_more, drop_more, take_all, take-append-drop, drop-append-le, drop-take, length-take-le, take-take}
use Rattle.std.proofs.lemmas.List.Elements.{filter-append}
use Rattle.std.proofs.lemmas.List.Folds.{drop_split}
use Rattle.std.specs.List.{flat_map}
use Rattle.std.specs.declared.cmp.Ordering.TheVariants.{Less}
use Rattle.mr_bytes.specs.declared.By.TheVariants.{Key}
use Rattle.mr_bytes.specs.declared.RecordName.{RecordName}
use Rattle.mr_bytes.specs.Lists.{Rises}
use Rattle.mr_bytes.specs.Order.{name_order}
use Rattle.mr_bytes.specs.Pairs.{Triple}
use Rattle.mr_bytes.proofs.ListLaws.{Rises-filter, all_from_Has, Has-all, Has-map_from}
use Rattle.mr_jobs.specs.JobSpec.{JobSpec}
use Rattle.mr_jobs.specs.Emissions.{Emission, emissions}
use Rattle.mr_splits.specs.Named.{NamedRecord, named_records, of_split}
use Rattle.mr_sequential.specs.Emitted.{emitted, placed_from, record_triples}
use Rattle.mr_sequential.proofs.NameLaws.{names_rise}
use Rattle.mr_sequential.proofs.SourceLemmas.{flat_map-append}
use Rattle.mr_spill.specs.Column.{names_of}
use Rattle.mr_spill.proofs.RegionLaws.{by_name, rises-names}
use Rattle.mr_task.specs.Laws.{PiecesAreAll, PiecesJoin}
use Rattle.mr_task.specs.Values.{emitted_between, emitted_in, has_number, is_of, record_gives}
use Rattle.mr_task.proofs.RunLemmas.{back-rises, front-rises}

-- ---- record by record

-- the pairs of a record are all of the split and kept, or none is
filter-placed : (split : ℕ) (skips : List ℕ) (name : RecordName) (place : ℕ) (es : List Emission)
    → filter (is_of split skips) (placed_from name place es)
    ≡ cond ((name.split == split) && not (has_number skips name.rec)) (placed_from name place es) []
unfolding placed_from
filter-placed split skips name place [] =
    elim ((name.split == split) && not (has_number skips name.rec)) as (λ b. ◌≡◌ {A = List Triple} [] (cond b [] [])) [ true ↦ refl | false ↦ refl ]
filter-placed split skips name place (e ∷ es) =
    let t : Triple = record { key = e.0; value = e.1; name = record { split = name.split; rec = name.rec; place = place } } in
    let rest : List Triple = placed_from name (place + 1) es in
    ap (λ (l : List Triple). cond ((name.split == split) && not (has_number skips name.rec)) (t ∷ l) l) (filter-placed split skips name (place + 1) es)
    ∙ (elim ((name.split == split) && not (has_number skips name.rec)) as (λ b. cond b (t ∷ cond b rest []) (cond b rest []) ≡ cond b (t ∷ rest) []) [ true ↦ refl | false ↦ refl ])

filter-record : (job : JobSpec) (split : ℕ) (skips : List ℕ) (r : NamedRecord)
    → filter (is_of split skips) (record_triples job [] r) ≡ cond (r.name.split == split) (record_gives job skips r) []
filter-record job split skips r =
    let ts : List Triple = placed_from r.name 0 (emissions job r.file r.start r.bytes) in
    filter-placed split skips r.name 0 (emissions job r.file r.start r.bytes) ∙ both (r.name.split == split) (has_number skips r.name.rec) ts
  where
    both : (a b : Bool) (ts : List Triple) → cond (a && not b) ts [] ≡ cond a (cond b [] ts) []
    both true true ts = refl
    both true false ts = refl
    both false b ts = refl

split-gives : (job : JobSpec) (split : ℕ) (skips : List ℕ) (rs : List NamedRecord)
    → filter (is_of split skips) (flat_map (record_triples job []) rs) ≡ flat_map (record_gives job skips) (of_split split rs)
split-gives job split skips [] = refl
split-gives job split skips (r ∷ rs) =
    let gives : List Triple = record_gives job skips r in
    let others : List NamedRecord = of_split split rs in
    filter-append (is_of split skips) (record_triples job [] r) (flat_map (record_triples job []) rs)
    ∙ ap (λ (l : List Triple). l ++ filter (is_of split skips) (flat_map (record_triples job []) rs)) (filter-record job split skips r)
    ∙ ap (λ (l : List Triple). cond (r.name.split == split) gives [] ++ l) (split-gives job split skips rs)
    ∙ (elim (r.name.split == split) as (λ b. cond b gives [] ++ flat_map (record_gives job skips) others ≡ flat_map (record_gives job skips) (cond b (r ∷ others) others)) [ true ↦ refl | false ↦ refl ])

pub emitted-gives : (job : JobSpec) (size : ℕ) (files : List (List ℕ)) (split : ℕ) (skips : List ℕ)
    → emitted_in (emitted job size files []) split skips ≡ flat_map (record_gives job skips) (of_split split (named_records size files))
emitted-gives job size files split skips = split-gives job split skips (named_records size files)

-- lists with the same numbers leave out the same
pub between-same : (job : JobSpec) (size : ℕ) (files : List (List ℕ)) (split : ℕ) (numbers skips : List ℕ) (from next : ℕ)
    → ((n : ℕ) → has_number numbers n ≡ has_number skips n)
    → emitted_between job size files split numbers from next ≡ emitted_between job size files split skips from next
between-same job size files split numbers skips from next same =
    λ i. flat_map (λ (r : NamedRecord). cond (same r.name.rec i) [] (placed_from r.name 0 (emissions job r.file r.start r.bytes)))
    (drop from (take next (of_split split (named_records size files))))

-- ---- pieces

pieces-join : {X : Type 0} (xs : List X) (from mid next : ℕ) → from ≤ mid → mid ≤ next
    → drop from (take mid xs) ++ drop mid (take next xs) ≡ drop from (take next xs)
pieces-join {X} xs from mid next g h =
    let all : List X = take next xs in
    let first : drop from (take mid xs) ≡ slice_range all from mid =
    ap (drop from) (sym (take-take mid next xs h) ∙ ap (λ n. take n all) (let e : mid ≡ from + (mid - from) = omega (arith, g) in e)) ∙ drop-take from (mid - from) all in
    ap (λ (l : List X). l ++ drop mid all) first ∙ sym (drop_split all from mid g)

between-join : {X : Type 0} (f : X → List Triple) (rs : List X) (from mid next : ℕ) → from ≤ mid → mid ≤ next
    → flat_map f (drop from (take mid rs)) ++ flat_map f (drop mid (take next rs)) ≡ flat_map f (drop from (take next rs))
between-join f rs from mid next g h =
    sym (flat_map-append f (drop from (take mid rs)) (drop mid (take next rs))) ∙ ap (flat_map f) (pieces-join rs from mid next g h)

pub pieces_join : PiecesJoin
pieces_join job size files split skips = between-join (record_gives job skips) (of_split split (named_records size files))

pub pieces_are_all : PiecesAreAll
pieces_are_all job size files split skips =
    let rs : List NamedRecord = of_split split (named_records size files) in
    ap (flat_map (record_gives job skips)) (take_all (length rs) rs (omega arith)) ∙ sym (emitted-gives job size files split skips)

-- no record gives nothing
pub nothing-between : {X : Type 0} (xs : List X) (n : ℕ) → drop n (take n xs) ≡ []
nothing-between xs n = ap (λ m. drop n (take m xs)) (let e : n ≡ n + 0 = omega arith in e) ∙ drop-take n 0 xs

-- ---- their names rise

pub emitted-rises : (job : JobSpec) (size : ℕ) (files : List (List ℕ)) → 0 < size → Rises by_name (emitted job size files [])
emitted-rises job size files some =
    rises-names (emitted job size files []) (names_rise (record { job = job; by = Key; parts = 1; split = size; skips = 0 }) files [] some)

pub names-rises : (ts : List Triple) → Rises by_name ts → Rises name_order (names_of ts)
names-rises [] r = tt
names-rises (t ∷ ts) r = (
  all_from_Has (λ n. name_order t.name n ≡ Less) (names_of ts)
      (λ n h. (let u = Has-map_from (λ (w : Triple). w.name) ts n h in subst (λ m. name_order t.name m ≡ Less) u.2 (Has-all (λ w. by_name t w ≡ Less) ts u.0 r.0 u.1))),
  names-rises ts r.1,
)

pub task-rises : (job : JobSpec) (size : ℕ) (files : List (List ℕ)) (split : ℕ) (skips : List ℕ) → 0 < size
    → Rises name_order (names_of (flat_map (record_gives job skips) (of_split split (named_records size files))))
task-rises job size files split skips some =
    subst (λ (l : List Triple). Rises name_order (names_of l)) (emitted-gives job size files split skips)
    (names-rises (emitted_in (emitted job size files []) split skips)
    (Rises-filter by_name (is_of split skips) (emitted job size files []) (emitted-rises job size files some)))

-- of pairs whose names rise, some that stand behind others and before more
middle-rises : (front middle behind : List Triple) → Rises name_order (names_of (front ++ (middle ++ behind))) → Rises name_order (names_of middle)
middle-rises front middle behind r =
    front-rises (names_of middle) (names_of behind)
    (subst (Rises name_order) (map-append (λ (t : Triple). t.name) middle behind)
    (back-rises (names_of front) (names_of (middle ++ behind)) (subst (Rises name_order) (map-append (λ (t : Triple). t.name) front (middle ++ behind)) r)))

-- ---- one record more

pub between-more : {X : Type 0} (f : X → List Triple) (rs : List X) (from i : ℕ) (d : X) → from ≤ i → i < length rs
    → flat_map f (drop from (take (i + 1) rs)) ≡ flat_map f (drop from (take i rs)) ++ f (get_or rs i d)
between-more f rs from i d g h =
    let some : from ≤ length (take i rs) = omega (arith, g, h, length-take-le i rs (omega (arith, h))) in
    let so_far = drop from (take i rs) in
    ap (flat_map f) (ap (drop from) (take_more rs i d h) ∙ drop-append-le from (take i rs) (get_or rs i d ∷ []) some)
    ∙ flat_map-append f so_far (get_or rs i d ∷ []) ∙ ap (λ (l : List Triple). flat_map f so_far ++ l) (append-nil (f (get_or rs i d)))

-- what waits, with what the next record gives, rises
pub record-rises : {X : Type 0} (f : X → List Triple) (rs : List X) (from i : ℕ) (d : X) (sealed waiting : List Triple) → from ≤ i → i < length rs
    → sealed ++ waiting ≡ flat_map f (drop from (take i rs)) → Rises name_order (names_of (flat_map f rs))
    → Rises name_order (names_of (waiting ++ f (get_or rs i d)))
record-rises f rs from i d sealed waiting g h so_far r =
    let here : List Triple = f (get_or rs i d) in
    let behind : List Triple = flat_map f (drop (i + 1) rs) in
    let before : List Triple = flat_map f (take from rs) in
    let front : flat_map f (take i rs) ≡ (before ++ sealed) ++ waiting =
    sym (between-join f rs 0 from i (omega arith) g) ∙ ap (λ (l : List Triple). before ++ l) (sym so_far) ∙ sym (append_assoc before sealed waiting) in
    let split : flat_map f rs ≡ flat_map f (take i rs) ++ (here ++ behind) =
    ap (flat_map f) (sym (take-append-drop i rs)) ∙ flat_map-append f (take i rs) (drop i rs)
    ∙ ap (λ l. flat_map f (take i rs) ++ flat_map f l) (drop_more rs i d h) in
    let all : flat_map f rs ≡ (before ++ sealed) ++ ((waiting ++ here) ++ behind) =
    split ∙ ap (λ (l : List Triple). l ++ (here ++ behind)) front ∙ append_assoc (before ++ sealed) waiting (here ++ behind)
    ∙ ap (λ (l : List Triple). (before ++ sealed) ++ l) (sym (append_assoc waiting here behind)) in
    middle-rises (before ++ sealed) (waiting ++ here) behind (subst (λ (l : List Triple). Rises name_order (names_of l)) all r)

-- what a record gives that is kept, and one that is left out
pub gives-kept : (job : JobSpec) (skips : List ℕ) (r is : NamedRecord) → r ≡ is → has_number skips is.name.rec ≡ false
    → record_gives job skips r ≡ placed_from is.name 0 (emissions job is.file is.start is.bytes)
gives-kept job skips r is e kept =
    ap (record_gives job skips) e ∙ ap (λ b. cond b [] (placed_from is.name 0 (emissions job is.file is.start is.bytes))) kept

pub gives-nothing : (job : JobSpec) (skips : List ℕ) (r is : NamedRecord) → r ≡ is → has_number skips is.name.rec ≡ true → record_gives job skips r ≡ []
gives-nothing job skips r is e out =
    ap (record_gives job skips) e ∙ ap (λ b. cond b [] (placed_from is.name 0 (emissions job is.file is.start is.bytes))) out
