-- Groups rest on keys and values alone.
use Rattle.std.proofs.Common.{◌≡◌, ℕ, cond, List, [], ◌∷◌, ◌++◌, filter, map, refl, ◌∙◌, ap, true, false, Bool}
use Rattle.std.proofs.lemmas.List.{map-append}
use Rattle.std.specs.Str.{bytes_eq}
use Rattle.mr_bytes.specs.Pairs.{Triple}
use Rattle.mr_jobs.specs.Emissions.{Emission}
use Rattle.mr_sequential.specs.Sequential.{keys_of, values_of}
use Rattle.mr_shards.specs.Merged.{Group, group_for, groups_of, merged}
use Rattle.mr_shards.proofs.MergedLaws.{groups-append}
use Rattle.mr_shards.specs.Portions.{Shift, shifted_group, shifted_value}
use Rattle.mr_shards.specs.PortionLaws.{pairs_of, shifted_pair}

-- a pair as a triple, of no name that counts
abbrev pub unnamed : Emission → Triple
unnamed e = record { key = e.0; value = e.1; name = record { split = 0; rec = 0; place = 0 } }

abbrev pub unnamed_all : List Emission → List Triple
unnamed_all es = map unnamed es

-- the groups of pairs
abbrev pub groups_in : (List ℕ → ℕ) → List Emission → ℕ → List Group
groups_in part es p = groups_of part (unnamed_all es) p

keys-unnamed : (ts : List Triple) → map (λ (t : Triple). t.key) (unnamed_all (pairs_of ts)) ≡ map (λ (t : Triple). t.key) ts
keys-unnamed [] = refl
keys-unnamed (t ∷ ts) = ap (λ l. t.key ∷ l) (keys-unnamed ts)

values-unnamed : (ts : List Triple) (k : List ℕ) → values_of (unnamed_all (pairs_of ts)) k ≡ values_of ts k
values-unnamed [] k = refl
values-unnamed (t ∷ ts) k = by (bytes_eq t.key k) (values-unnamed ts k)
  where
    by : (b : Bool) → values_of (unnamed_all (pairs_of ts)) k ≡ values_of ts k
        → map (λ (u : Triple). u.value) (cond b (unnamed (t.key, t.value) ∷ filter (λ u. bytes_eq u.key k) (unnamed_all (pairs_of ts))) (filter (λ u. bytes_eq u.key k) (unnamed_all (pairs_of ts))))
        ≡ map (λ (u : Triple). u.value) (cond b (t ∷ filter (λ u. bytes_eq u.key k) ts) (filter (λ u. bytes_eq u.key k) ts))
    by true rest = ap (λ l. t.value ∷ l) rest
    by false rest = rest

for-unnamed : (ts : List Triple) (ks : List (List ℕ)) → map (group_for (unnamed_all (pairs_of ts))) ks ≡ map (group_for ts) ks
for-unnamed ts [] = refl
for-unnamed ts (k ∷ ks) =
    let here : values_of (unnamed_all (pairs_of ts)) k ≡ values_of ts k = values-unnamed ts k in
    let rest = for-unnamed ts ks in
    λ i. record { key = k; values = here i } ∷ rest i

pub groups-pairs : (part : List ℕ → ℕ) (ts : List Triple) (p : ℕ) → groups_in part (pairs_of ts) p ≡ groups_of part ts p
groups-pairs part ts p =
    ap (λ ks. map (group_for (unnamed_all (pairs_of ts))) (keys_of part ks p)) (keys-unnamed ts)
    ∙ for-unnamed ts (keys_of part (map (λ (t : Triple). t.key) ts) p)

pub groups-both : (part : List ℕ → ℕ) (es fs : List Emission) (p : ℕ) → groups_in part (es ++ fs) p ≡ merged (groups_in part es p) (groups_in part fs p)
groups-both part es fs p = ap (λ ts. groups_of part ts p) (map-append unnamed es fs) ∙ groups-append part p (unnamed_all es) (unnamed_all fs)

-- ---- places that are moved

keys-shifted : (s : Shift) (es : List Emission) → map (λ (t : Triple). t.key) (unnamed_all (map (shifted_pair s) es)) ≡ map (λ (t : Triple). t.key) (unnamed_all es)
keys-shifted s [] = refl
keys-shifted s (e ∷ es) = ap (λ l. e.0 ∷ l) (keys-shifted s es)

values-shifted : (s : Shift) (es : List Emission) (k : List ℕ) → values_of (unnamed_all (map (shifted_pair s) es)) k ≡ map (shifted_value s) (values_of (unnamed_all es) k)
values-shifted s [] k = refl
values-shifted s (e ∷ es) k = by (bytes_eq e.0 k) (values-shifted s es k)
  where
    by : (b : Bool) → values_of (unnamed_all (map (shifted_pair s) es)) k ≡ map (shifted_value s) (values_of (unnamed_all es) k)
        → map (λ (u : Triple). u.value) (cond b (unnamed (shifted_pair s e) ∷ filter (λ u. bytes_eq u.key k) (unnamed_all (map (shifted_pair s) es))) (filter (λ u. bytes_eq u.key k) (unnamed_all (map (shifted_pair s) es))))
        ≡ map (shifted_value s) (map (λ (u : Triple). u.value) (cond b (unnamed e ∷ filter (λ u. bytes_eq u.key k) (unnamed_all es)) (filter (λ u. bytes_eq u.key k) (unnamed_all es))))
    by true rest = ap (λ l. shifted_value s e.1 ∷ l) rest
    by false rest = rest

for-shifted : (s : Shift) (es : List Emission) (ks : List (List ℕ))
    → map (group_for (unnamed_all (map (shifted_pair s) es))) ks ≡ map (shifted_group s) (map (group_for (unnamed_all es)) ks)
for-shifted s es [] = refl
for-shifted s es (k ∷ ks) =
    let here : values_of (unnamed_all (map (shifted_pair s) es)) k ≡ map (shifted_value s) (values_of (unnamed_all es) k) = values-shifted s es k in
    let rest = for-shifted s es ks in
    λ i. record { key = k; values = here i } ∷ rest i

pub groups-shifted : (part : List ℕ → ℕ) (s : Shift) (es : List Emission) (p : ℕ)
    → groups_in part (map (shifted_pair s) es) p ≡ map (shifted_group s) (groups_in part es p)
groups-shifted part s es p =
    ap (λ ks. map (group_for (unnamed_all (map (shifted_pair s) es))) (keys_of part ks p)) (keys-shifted s es)
    ∙ for-shifted s es (keys_of part (map (λ (t : Triple). t.key) (unnamed_all es)) p)
