-- Spelled pairs in front of bytes: no two spellings begin alike.
use Rattle.std.proofs.Common.{◌≡◌, ℕ, ◌<◌, ◌^◌, List, [], ◌∷◌, ◌++◌, length, refl, sym, ◌∙◌, ap, arith, append_assoc}
use Rattle.std.proofs.lemmas.Nat.{from_be_bytes-to_be_bytes_4, from_be_bytes-to_be_bytes_8}
use Rattle.std.specs.Int.{w32, w64, from_be_bytes}
use Rattle.std.specs.List.{AllByRecursion, flat_map}
use Rattle.mr_bytes.specs.declared.Name.{Name}
use Rattle.mr_bytes.specs.declared.Value.{Value}
use Rattle.mr_bytes.specs.declared.Value.TheVariants.{One, At}
use Rattle.mr_bytes.specs.Pairs.{Triple}
use Rattle.mr_spill.specs.Spelling.{PairFits, SpellsRegion, ValueFits, header, magic, name_bytes, pair_bytes, u32, u64, value_bytes}

pub front-cut : (a b xs ys : List ℕ) → length a ≡ length b → a ++ xs ≡ b ++ ys → (a ≡ b) × (xs ≡ ys)
front-cut [] [] xs ys l e = (refl, e)
front-cut [] (y ∷ b) xs ys l e = absurd (omega (arith, l))
front-cut (x ∷ a) [] xs ys l e = absurd (omega (arith, l))
front-cut (x ∷ a) (y ∷ b) xs ys l e =
    let h : x ≡ y = cc e in
    let t : a ++ xs ≡ b ++ ys = cc e in
    let r = front-cut a b xs ys (omega (arith, l)) t in
    ((λ i. h i ∷ r.0 i), r.1)

pub number-front : (m n : ℕ) (xs ys : List ℕ) → m < 2 ^ 32 → n < 2 ^ 32 → u32 m ++ xs ≡ u32 n ++ ys → (m ≡ n) × (xs ≡ ys)
number-front m n xs ys h g e =
    let c = front-cut (u32 m) (u32 n) xs ys refl e in
    (sym (from_be_bytes-to_be_bytes_4 m h) ∙ ap (from_be_bytes w32) c.0 ∙ from_be_bytes-to_be_bytes_4 n g, c.1)

long-front : (m n : ℕ) (xs ys : List ℕ) → m < 2 ^ 64 → n < 2 ^ 64 → u64 m ++ xs ≡ u64 n ++ ys → (m ≡ n) × (xs ≡ ys)
long-front m n xs ys h g e =
    let c = front-cut (u64 m) (u64 n) xs ys refl e in
    (sym (from_be_bytes-to_be_bytes_8 m h) ∙ ap (from_be_bytes w64) c.0 ∙ from_be_bytes-to_be_bytes_8 n g, c.1)

value-front : (v w : Value) (xs ys : List ℕ) → ValueFits v → ValueFits w → value_bytes v ++ xs ≡ value_bytes w ++ ys → (v ≡ w) × (xs ≡ ys)
value-front One One xs ys h g e = (refl, cc e)
value-front One (At f o) xs ys h g e = let no : ◌≡◌ {A = ℕ} 0 1 = cc e in absurd (omega (arith, no))
value-front (At f o) One xs ys h g e = let no : ◌≡◌ {A = ℕ} 1 0 = cc e in absurd (omega (arith, no))
value-front (At f o) (At i p) xs ys h g e =
    let t : u32 f ++ (u64 o ++ xs) ≡ u32 i ++ (u64 p ++ ys) = cc e in
    let a = number-front f i (u64 o ++ xs) (u64 p ++ ys) h.0 g.0 t in
    let b = long-front o p xs ys h.1 g.1 a.1 in
    ((λ k. At (a.0 k) (b.0 k)), b.1)

-- a name's bytes and a pair's, part by part
pub name-parts : (n : Name) (xs : List ℕ) → name_bytes n ++ xs ≡ u32 n.split ++ (u32 n.rec ++ (u32 n.place ++ xs))
name-parts n xs = append_assoc (u32 n.split ++ u32 n.rec) (u32 n.place) xs ∙ append_assoc (u32 n.split) (u32 n.rec) (u32 n.place ++ xs)

pub pair-parts : (t : Triple) (xs : List ℕ) → pair_bytes t ++ xs ≡ u32 (length t.key) ++ (t.key ++ (name_bytes t.name ++ (value_bytes t.value ++ xs)))
pair-parts t xs =
    append_assoc ((u32 (length t.key) ++ t.key) ++ name_bytes t.name) (value_bytes t.value) xs
    ∙ append_assoc (u32 (length t.key) ++ t.key) (name_bytes t.name) (value_bytes t.value ++ xs)
    ∙ append_assoc (u32 (length t.key)) t.key (name_bytes t.name ++ (value_bytes t.value ++ xs))

-- and a header's
pub header-parts : (split partition n : ℕ) (xs : List ℕ) → header split partition n ++ xs ≡ magic ++ (u32 split ++ (u32 partition ++ (u32 n ++ xs)))
header-parts split partition n xs =
    append_assoc ((magic ++ u32 split) ++ u32 partition) (u32 n) xs
    ∙ append_assoc (magic ++ u32 split) (u32 partition) (u32 n ++ xs)
    ∙ append_assoc magic (u32 split) (u32 partition ++ (u32 n ++ xs))

pub header-split : (bytes xs : List ℕ) (split partition n : ℕ) (rest : List ℕ) → bytes ≡ magic ++ xs → bytes ≡ header split partition n ++ rest
    → xs ≡ u32 split ++ (u32 partition ++ (u32 n ++ rest))
header-split bytes xs split partition n rest e h =
    (front-cut magic magic xs (u32 split ++ (u32 partition ++ (u32 n ++ rest))) refl (sym e ∙ h ∙ header-parts split partition n rest)).1

-- the number in front of a spelled pair is the length of its key
pub pair-count : (m : ℕ) (xs : List ℕ) (t : Triple) (rest : List ℕ) → m < 2 ^ 32 → PairFits t → u32 m ++ xs ≡ pair_bytes t ++ rest
    → (m ≡ length t.key) × (xs ≡ t.key ++ (name_bytes t.name ++ (value_bytes t.value ++ rest)))
pair-count m xs t rest h fit e = number-front m (length t.key) xs (t.key ++ (name_bytes t.name ++ (value_bytes t.value ++ rest))) h fit.key (e ∙ pair-parts t rest)

-- and then come its key and the rest
pub pair-key : (m : ℕ) (k xs : List ℕ) (t : Triple) (rest : List ℕ) → m < 2 ^ 32 → length k ≡ m → PairFits t → u32 m ++ (k ++ xs) ≡ pair_bytes t ++ rest
    → (k ≡ t.key) × (xs ≡ name_bytes t.name ++ (value_bytes t.value ++ rest))
pair-key m k xs t rest h l fit e =
    let c = pair-count m (k ++ xs) t rest h fit e in
    front-cut k t.key xs (name_bytes t.name ++ (value_bytes t.value ++ rest)) (l ∙ c.0) c.1

pub pair-front : (t u : Triple) (xs ys : List ℕ) → PairFits t → PairFits u → pair_bytes t ++ xs ≡ pair_bytes u ++ ys → (t ≡ u) × (xs ≡ ys)
pair-front t u xs ys f g e =
    let k = pair-key (length t.key) t.key (name_bytes t.name ++ (value_bytes t.value ++ xs)) u ys f.key refl g (sym (pair-parts t xs) ∙ e) in
    let s = number-front t.name.split u.name.split (u32 t.name.rec ++ (u32 t.name.place ++ (value_bytes t.value ++ xs))) (u32 u.name.rec ++ (u32 u.name.place ++ (value_bytes u.value ++ ys))) f.split g.split
    (sym (name-parts t.name (value_bytes t.value ++ xs)) ∙ k.1 ∙ name-parts u.name (value_bytes u.value ++ ys)) in
    let r = number-front t.name.rec u.name.rec (u32 t.name.place ++ (value_bytes t.value ++ xs)) (u32 u.name.place ++ (value_bytes u.value ++ ys)) f.rec g.rec s.1 in
    let p = number-front t.name.place u.name.place (value_bytes t.value ++ xs) (value_bytes u.value ++ ys) f.place g.place r.1 in
    let v = value-front t.value u.value xs ys f.value g.value p.1 in
    ((λ i. record { key = k.0 i; value = v.0 i; name = record { split = s.0 i; rec = r.0 i; place = p.0 i } }), v.1)

-- where no value stands behind a key and a name, no pair is spelled
pub no-value : (bytes xs ys zs : List ℕ) (m : ℕ) (k : List ℕ) (n : Name) (t : Triple) (rest : List ℕ) → m < 2 ^ 32 → length k ≡ m → PairFits t
    → bytes ≡ u32 m ++ xs → xs ≡ k ++ ys → ys ≡ name_bytes n ++ zs → bytes ≡ pair_bytes t ++ rest → ((v : Value) (more : List ℕ) → zs ≡ value_bytes v ++ more → ⊥) → ⊥
no-value bytes xs ys zs m k n t rest h l fit a b c e none =
    let p = pair-key m k ys t rest h l fit (sym (a ∙ ap (λ w. u32 m ++ w) b) ∙ e) in
    none t.value rest (front-cut (name_bytes n) (name_bytes t.name) zs (value_bytes t.value ++ rest) refl (sym c ∙ p.1)).1

-- ---- one spelling, one list of pairs

one-list : (ts us : List Triple) → AllByRecursion PairFits ts → AllByRecursion PairFits us → length ts ≡ length us → flat_map pair_bytes ts ≡ flat_map pair_bytes us → ts ≡ us
one-list [] [] f g l e = refl
one-list [] (u ∷ us) f g l e = absurd (omega (arith, l))
one-list (t ∷ ts) [] f g l e = absurd (omega (arith, l))
one-list (t ∷ ts) (u ∷ us) f g l e =
    let c = pair-front t u (flat_map pair_bytes ts) (flat_map pair_bytes us) f.0 g.0 e in
    let r = one-list ts us f.1 g.1 (omega (arith, l)) c.1 in
    (λ i. c.0 i ∷ r i)

pub spells-one : (bytes : List ℕ) (split p q : ℕ) (ts us : List Triple) → SpellsRegion bytes split p ts → SpellsRegion bytes split q us → us ≡ ts
spells-one bytes split p q ts us a b =
    let m : ℕ = length us in
    let n : ℕ = length ts in
    let xs : List ℕ = flat_map pair_bytes us in
    let ys : List ℕ = flat_map pair_bytes ts in
    let e = sym (header-parts split q m xs) ∙ sym b.is ∙ a.is ∙ header-parts split p n ys in
    let f = front-cut magic magic (u32 split ++ (u32 q ++ (u32 m ++ xs))) (u32 split ++ (u32 p ++ (u32 n ++ ys))) refl e in
    let g = front-cut (u32 split) (u32 split) (u32 q ++ (u32 m ++ xs)) (u32 p ++ (u32 n ++ ys)) refl f.1 in
    let h = front-cut (u32 q) (u32 p) (u32 m ++ xs) (u32 n ++ ys) refl g.1 in
    let k = number-front m n xs ys b.few a.few h.1 in
    one-list us ts b.fit a.fit k.0 k.1
