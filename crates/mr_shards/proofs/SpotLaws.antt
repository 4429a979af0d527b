-- Names and spots of left-out records determine each other; behind whole files names are moved by splits.
use Rattle.std.proofs.Common.{◌≡◌, ℕ, ◌+◌, ◌<◌, cond, eqb, List, [], ◌∷◌, ◌++◌, filter, length, map, refl, sym, ◌∙◌, ap, subst, true, false, Bool, ◌&&◌, ◌||◌, inl, inr, IsTrue}
use Rattle.std.proofs.lemmas.Bool.{and_from, and_parts, eq-eqb, eqb-true}
use Rattle.std.proofs.lemmas.Cmp.{nat_cmp_total, then_total, on_total}
use Rattle.std.specs.Cmp.{IsTotalOrder}
use Rattle.std.specs.List.{AllByRecursion}
use Rattle.std.specs.declared.cmp.Ordering.TheVariants.{Less}
use Rattle.mr_bytes.specs.declared.RecordName.{RecordName}
use Rattle.mr_bytes.specs.Lists.{Has, Rises}
use Rattle.mr_bytes.specs.Order.{record_order}
use Rattle.mr_bytes.proofs.ListLaws.{Has-all, Has-filter, Has-filter_from, Has-map, Has-map_from, all_from_Has, same_rising}
use Rattle.mr_splits.specs.Cut.{has_record_name, is_record}
use Rattle.mr_splits.specs.Named.{NamedRecord, is_left_out, named_records}
use Rattle.mr_splits.proofs.RisingLemmas.{names-rise}
use Rattle.mr_shards.specs.Portions.{AreCutAtLines, Portion, Shift, put_together, shift_of, shifted_start, whole_of}
use Rattle.mr_shards.specs.Spots.{SkipsExist, Spot, begins_at, left_out_of, left_out_spots, moved_name, shifted_spot, spot_of, spots_of}
use Rattle.mr_shards.specs.PortionLaws.{NamesBack, NamesStand, SpotsBack}
use Rattle.mr_shards.proofs.BareLemmas.{Bare, all_bares, bare, bares-whole, named-bare, shifted_bare}
use Rattle.mr_shards.proofs.LeftOutLemmas.{begins-whole, flags-whole}
use Rattle.mr_shards.proofs.EmissionLemmas.{all_flags}
use Rattle.mr_shards.proofs.NamedLemmas.{moved_record, named-append}
use Rattle.mr_input.specs.Files.{split_total}
use Rattle.std.proofs.lemmas.List.{append-nil}
use Rattle.mr_shards.proofs.SpotLemmas.{spots-flags}

record_total : IsTotalOrder record_order
record_total = then_total (on_total (λ (a : RecordName). a.split) nat_cmp_total) (on_total (λ (a : RecordName). a.rec) nat_cmp_total)

abbrev name_of : NamedRecord → RecordName
name_of r = r.name

-- ---- the names that a test takes rise and exist

rises-map_filter : (q : NamedRecord → Bool) (rs : List NamedRecord) → Rises record_order (map name_of rs) → Rises record_order (map name_of (filter q rs))
rises-map_filter q [] r = tt
rises-map_filter q (x ∷ xs) r =
    by (q x)
    (all_from_Has (λ n. record_order x.name n ≡ Less) (map name_of (filter q xs))
    (λ n h. (let w = Has-map_from name_of (filter q xs) n h in
    Has-all (λ n. record_order x.name n ≡ Less) (map name_of xs) n r.0 (subst (Has (map name_of xs)) w.2 (Has-map name_of xs w.0 ((Has-filter_from q xs w.0 w.1).0))))))
    (rises-map_filter q xs r.1)
  where
    by : (b : Bool) → AllByRecursion (λ n. record_order x.name n ≡ Less) (map name_of (filter q xs)) → Rises record_order (map name_of (filter q xs))
        → Rises record_order (map name_of (cond b (x ∷ filter q xs) (filter q xs)))
    by true a s = (a, s)
    by false a s = s

or_right : (a b : Bool) → b ≡ true → (a || b) ≡ true
or_right true b h = refl
or_right false b h = h

is-record : (rs : List NamedRecord) (r : NamedRecord) → Has rs r → is_record rs r.name ≡ true
is-record [] r h = absurd h
is-record (x ∷ xs) r (inl e) =
    ap (λ t. t || is_record xs r.name)
    (and_from (eqb r.name.split x.name.split) (eqb r.name.rec x.name.rec)
    (eq-eqb r.name.split x.name.split (ap (λ (y : NamedRecord). y.name.split) (sym e))) (eq-eqb r.name.rec x.name.rec (ap (λ (y : NamedRecord). y.name.rec) (sym e))))
is-record (x ∷ xs) r (inr h) = or_right (has_record_name r.name x) (is_record xs r.name) (is-record xs r h)

-- a record that exists is one of them
record-is : (rs : List NamedRecord) (name : RecordName) → is_record rs name ≡ true → (r : NamedRecord) × Has rs r × (r.name ≡ name)
record-is [] name e = absurd cc
record-is (x ∷ xs) name e = by (has_record_name name x) refl e (record-is xs name)
  where
    by : (b : Bool) → has_record_name name x ≡ b → (b || is_record xs name) ≡ true → (is_record xs name ≡ true → (r : NamedRecord) × Has xs r × (r.name ≡ name))
        → (r : NamedRecord) × Has (x ∷ xs) r × (r.name ≡ name)
    by true is h rest =
        let p = and_parts (eqb name.split x.name.split) (eqb name.rec x.name.rec) is in
        let split : name.split ≡ x.name.split = eqb-true name.split x.name.split p.0 in
        let number : name.rec ≡ x.name.rec = eqb-true name.rec x.name.rec p.1 in
        (x, inl refl, λ i. record { split = sym split i; rec = sym number i })
    by false is h rest = let w = rest h in (w.0, inr w.1, w.2)

pub names_stand : NamesStand
names_stand size portions some =
    let rs : List NamedRecord = named_records size (whole_of portions) in
    let q : NamedRecord → Bool = begins_at (left_out_spots size portions) in (
      rises-map_filter q rs (names-rise size (whole_of portions) some),
      all_from_Has (λ n. IsTrue (is_record rs n)) (map name_of (filter q rs))
          (λ n h. (let w = Has-map_from name_of (filter q rs) n h in subst (λ (m : RecordName). is_record rs m ≡ true) w.2 (is-record rs w.0 ((Has-filter_from q rs w.0 w.1).0)))),
    )

-- ---- names that rise and exist come back

filter-same : {X : Type 0} (p q : X → Bool) (xs : List X) → map p xs ≡ map q xs → filter p xs ≡ filter q xs
filter-same p q [] same = refl
filter-same {X} p q (x ∷ xs) same =
    let here : p x ≡ q x = cc same in
    let rest : map p xs ≡ map q xs = cc same in
    ap (λ t. cond t (x ∷ filter p xs) (filter p xs)) here ∙ ap (λ l. cond (q x) (x ∷ l) l) (filter-same p q xs rest)

in-left_out : (skips : List RecordName) (name : RecordName) → Has skips name → is_left_out skips name ≡ true
in-left_out [] name h = absurd h
in-left_out (s ∷ ss) name (inl e) =
    ap (λ t. t || is_left_out ss name)
    (and_from (eqb s.split name.split) (eqb s.rec name.rec) (eq-eqb s.split name.split (ap (λ (n : RecordName). n.split) e)) (eq-eqb s.rec name.rec (ap (λ (n : RecordName). n.rec) e)))
in-left_out (s ∷ ss) name (inr h) = or_right ((eqb s.split name.split) && (eqb s.rec name.rec)) (is_left_out ss name) (in-left_out ss name h)

left_out-in : (skips : List RecordName) (name : RecordName) → is_left_out skips name ≡ true → Has skips name
left_out-in [] name e = absurd cc
left_out-in (s ∷ ss) name e = by ((eqb s.split name.split) && (eqb s.rec name.rec)) refl e (left_out-in ss name)
  where
    by : (b : Bool) → ((eqb s.split name.split) && (eqb s.rec name.rec)) ≡ b → (b || is_left_out ss name) ≡ true → (is_left_out ss name ≡ true → Has ss name) → Has (s ∷ ss) name
    by true is h rest =
        let p = and_parts (eqb s.split name.split) (eqb s.rec name.rec) is in
        let split : s.split ≡ name.split = eqb-true s.split name.split p.0 in
        let number : s.rec ≡ name.rec = eqb-true s.rec name.rec p.1 in
        inl (λ i. record { split = split i; rec = number i })
    by false is h rest = inr (rest h)

-- the records that such names leave out have just these
pub left_out-names : (size : ℕ) (files : List (List ℕ)) (skips : List RecordName) → 0 < size → Rises record_order skips → SkipsExist size files skips
    → map name_of (filter (λ (r : NamedRecord). is_left_out skips r.name) (named_records size files)) ≡ skips
left_out-names size files skips some rises exist =
    let rs : List NamedRecord = named_records size files in
    let q : NamedRecord → Bool = λ (r : NamedRecord). is_left_out skips r.name in
    same_rising record_total (map name_of (filter q rs)) skips (rises-map_filter q rs (names-rise size files some)) rises
    (λ n h. (let w = Has-map_from name_of (filter q rs) n h in subst (Has skips) w.2 (left_out-in skips (w.0).name ((Has-filter_from q rs w.0 w.1).1))))
    (λ n h. (let w = record-is rs n (Has-all (λ m. IsTrue (is_record rs m)) skips n exist h) in
    subst (Has (map name_of (filter q rs))) w.2 (Has-map name_of (filter q rs) w.0 (Has-filter q rs w.0 w.1 (in-left_out skips (w.0).name (subst (Has skips) (sym w.2) h))))))

pub names_back : NamesBack
names_back size files skips some rises exist =
    let rs : List NamedRecord = named_records size files in
    let q : NamedRecord → Bool = λ (r : NamedRecord). is_left_out skips r.name in
    ap (map name_of) (filter-same (begins_at (spots_of size files skips)) q rs (spots-flags q size files)) ∙ left_out-names size files skips some rises exist

-- ---- the spots of the whole

-- the spots of the records whose flags are set
abbrev picked : List Bool → List Bare → List Spot
picked [] bs = []
picked (t ∷ ts) [] = []
picked (t ∷ ts) (b ∷ bs) = cond t (record { file = b.file; start = b.start } ∷ picked ts bs) (picked ts bs)

filter-picked : (q : NamedRecord → Bool) (rs : List NamedRecord) → map spot_of (filter q rs) ≡ picked (map q rs) (map bare rs)
filter-picked q [] = refl
filter-picked q (r ∷ rs) = by (q r) (filter-picked q rs)
  where
    by : (b : Bool) → map spot_of (filter q rs) ≡ picked (map q rs) (map bare rs)
        → map spot_of (cond b (r ∷ filter q rs) (filter q rs)) ≡ cond b (spot_of r ∷ picked (map q rs) (map bare rs)) (picked (map q rs) (map bare rs))
    by true rest = ap (λ l. spot_of r ∷ l) rest
    by false rest = rest

picked-append : (q : NamedRecord → Bool) (rs : List NamedRecord) (ts : List Bool) (bs : List Bare)
    → picked (map q rs ++ ts) (map bare rs ++ bs) ≡ picked (map q rs) (map bare rs) ++ picked ts bs
picked-append q [] ts bs = refl
picked-append q (r ∷ rs) ts bs = by (q r) (picked-append q rs ts bs)
  where
    by : (b : Bool) → picked (map q rs ++ ts) (map bare rs ++ bs) ≡ picked (map q rs) (map bare rs) ++ picked ts bs
        → cond b (spot_of r ∷ picked (map q rs ++ ts) (map bare rs ++ bs)) (picked (map q rs ++ ts) (map bare rs ++ bs))
        ≡ cond b (spot_of r ∷ picked (map q rs) (map bare rs)) (picked (map q rs) (map bare rs)) ++ picked ts bs
    by true rest = ap (λ l. spot_of r ∷ l) rest
    by false rest = rest

picked-shifted : (h : Shift) (ts : List Bool) (bs : List Bare) → picked ts (map (shifted_bare h) bs) ≡ map (shifted_spot h) (picked ts bs)
picked-shifted h [] bs = refl
picked-shifted h (t ∷ ts) [] = refl
picked-shifted h (t ∷ ts) (b ∷ bs) = by t (picked-shifted h ts bs)
  where
    by : (t : Bool) → picked ts (map (shifted_bare h) bs) ≡ map (shifted_spot h) (picked ts bs)
        → cond t (record { file = h.files + b.file; start = shifted_start h b.file b.start } ∷ picked ts (map (shifted_bare h) bs)) (picked ts (map (shifted_bare h) bs))
        ≡ map (shifted_spot h) (cond t (record { file = b.file; start = b.start } ∷ picked ts bs) (picked ts bs))
    by true rest = ap (λ l. record { file = h.files + b.file; start = shifted_start h b.file b.start } ∷ l) rest
    by false rest = rest

picked-all : (size : ℕ) (portions : List Portion) → picked (all_flags size portions) (all_bares portions) ≡ left_out_spots size portions
picked-all size [] = refl
picked-all size (s ∷ ss) =
    let rs : List NamedRecord = named_records size s.files in
    let q : NamedRecord → Bool = λ (r : NamedRecord). is_left_out s.skips r.name in
    let h : Shift = shift_of s in
    ap (λ l. picked (map q rs ++ all_flags size ss) (l ++ map (shifted_bare h) (all_bares ss))) (sym (named-bare size s.files))
    ∙ picked-append q rs (all_flags size ss) (map (shifted_bare h) (all_bares ss))
    ∙ ap (λ l. l ++ picked (all_flags size ss) (map (shifted_bare h) (all_bares ss))) (sym (filter-picked q rs))
    ∙ ap (λ l. spots_of size s.files s.skips ++ l) (picked-shifted h (all_flags size ss) (all_bares ss) ∙ ap (map (shifted_spot h)) (picked-all size ss))

pub spots_back : SpotsBack
spots_back size portions some cut =
    let files : List (List ℕ) = whole_of portions in
    let q : NamedRecord → Bool = λ (r : NamedRecord). is_left_out (left_out_of size portions) r.name in
    filter-picked q (named_records size files)
    ∙ ap (λ l. picked l (map bare (named_records size files))) (flags-whole size portions some cut)
    ∙ ap (picked (all_flags size portions)) (named-bare size files ∙ bares-whole portions cut) ∙ picked-all size portions

-- ---- behind whole files names are moved by splits

-- the names of the records whose flags are set
abbrev named_at : List Bool → List NamedRecord → List RecordName
named_at [] rs = []
named_at (t ∷ ts) [] = []
named_at (t ∷ ts) (r ∷ rs) = cond t (r.name ∷ named_at ts rs) (named_at ts rs)

filter-named : (q : NamedRecord → Bool) (rs xs : List NamedRecord) (ts : List Bool) → named_at (map q rs ++ ts) (rs ++ xs) ≡ map name_of (filter q rs) ++ named_at ts xs
filter-named q [] xs ts = refl
filter-named q (r ∷ rs) xs ts = by (q r) (filter-named q rs xs ts)
  where
    by : (b : Bool) → named_at (map q rs ++ ts) (rs ++ xs) ≡ map name_of (filter q rs) ++ named_at ts xs
        → cond b (r.name ∷ named_at (map q rs ++ ts) (rs ++ xs)) (named_at (map q rs ++ ts) (rs ++ xs)) ≡ map name_of (cond b (r ∷ filter q rs) (filter q rs)) ++ named_at ts xs
    by true rest = ap (λ l. r.name ∷ l) rest
    by false rest = rest

named-moved : (n m : ℕ) (ts : List Bool) (rs : List NamedRecord) → named_at ts (map (moved_record n m) rs) ≡ map (moved_name m) (named_at ts rs)
named-moved n m [] rs = refl
named-moved n m (t ∷ ts) [] = refl
named-moved n m (t ∷ ts) (r ∷ rs) = by t (named-moved n m ts rs)
  where
    by : (b : Bool) → named_at ts (map (moved_record n m) rs) ≡ map (moved_name m) (named_at ts rs)
        → cond b (moved_name m r.name ∷ named_at ts (map (moved_record n m) rs)) (named_at ts (map (moved_record n m) rs)) ≡ map (moved_name m) (cond b (r.name ∷ named_at ts rs) (named_at ts rs))
    by true rest = ap (λ l. moved_name m r.name ∷ l) rest
    by false rest = rest

left_out-named : (size : ℕ) (portions : List Portion) → AreCutAtLines portions → left_out_of size portions ≡ named_at (all_flags size portions) (named_records size (whole_of portions))
left_out-named size portions cut =
    let rs : List NamedRecord = named_records size (whole_of portions) in
    let q : NamedRecord → Bool = begins_at (left_out_spots size portions) in
    sym (filter-named q rs [] [] ∙ append-nil (map name_of (filter q rs)))
    ∙ (λ i. named_at (append-nil (map q rs) i) (append-nil rs i)) ∙ ap (λ ts. named_at ts rs) (begins-whole size portions cut)

pub left_out-behind : (size : ℕ) (s : Portion) (ss : List Portion) → 0 < size → s.cut ≡ false → AreCutAtLines ss → Rises record_order s.skips → SkipsExist size s.files s.skips
    → left_out_of size (s ∷ ss) ≡ s.skips ++ map (moved_name (split_total size s.files)) (left_out_of size ss)
left_out-behind size s ss some uncut cut rises exist =
    let m : ℕ = split_total size s.files in
    let q : NamedRecord → Bool = λ (r : NamedRecord). is_left_out s.skips r.name in
    let here : List NamedRecord = named_records size s.files in
    let later : List NamedRecord = named_records size (whole_of ss) in
    let flags : List Bool = all_flags size ss in
    let whole : named_records size (whole_of (s ∷ ss)) ≡ here ++ map (moved_record (length s.files) m) later =
    ap (λ b. named_records size (put_together b s.files (whole_of ss))) uncut ∙ named-append size s.files (whole_of ss) in
    left_out-named size (s ∷ ss) ((λ e. absurd (cc (sym e ∙ uncut))), cut)
    ∙ ap (named_at (map q here ++ flags)) whole ∙ filter-named q here (map (moved_record (length s.files) m) later) flags
    ∙ (λ i. left_out-names size s.files s.skips some rises exist i ++ named-moved (length s.files) m flags later i)
    ∙ ap (λ l. s.skips ++ map (moved_name m) l) (sym (left_out-named size ss cut))
