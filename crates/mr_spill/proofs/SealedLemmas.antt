-- Regions spelled one behind another.
use Rattle.std.proofs.Common.{◌≡◌, ℕ, ◌+◌, ◌-◌, ◌<◌, ◌≤◌, List, [], ◌∷◌, ◌++◌, length, filter, take, drop, sym, ◌∙◌, ap, arith, ◌==◌, slice_range}
use Rattle.std.proofs.lemmas.Grind.{flat_map-append}
use Rattle.std.proofs.lemmas.List.{append-nil, append_assoc, get_or-drop, length-drop, take_more}
use Rattle.std.specs.List.{AllByRecursion, flat_map}
use Rattle.mr_bytes.proofs.SortLaws.{sorted-Has_from}
use Rattle.mr_bytes.specs.Pairs.{Triple, pair_order}
use Rattle.mr_bytes.proofs.ListLaws.{Has-all, Has-filter_from, all_from_Has}
use Rattle.mr_spill.specs.Column.{no_pair, nth_pair}
use Rattle.mr_spill.specs.Groups.{Group, no_group, nth_group, pairs_of}
use Rattle.mr_spill.specs.Regions.{region}
use Rattle.mr_spill.specs.Sealed.{IsText}
use Rattle.mr_spill.specs.Spelling.{SpellsRegion, pair_bytes}
use Rattle.mr_spill.proofs.RegionLaws.{regions_rise}

pub all-append : {X : Type 0} (P : X → Type 0) (xs ys : List X) → AllByRecursion P xs → AllByRecursion P ys → AllByRecursion P (xs ++ ys)
all-append P [] ys a b = b
all-append P (x ∷ xs) ys a b = (a.0, all-append P xs ys a.1 b)

-- ---- pairs one behind another

pub bytes-more : (ts : List Triple) (t : Triple) → flat_map pair_bytes (ts ++ t ∷ []) ≡ flat_map pair_bytes ts ++ pair_bytes t
bytes-more ts t = flat_map-append pair_bytes ts (t ∷ []) ∙ ap (λ (l : List ℕ). flat_map pair_bytes ts ++ l) (append-nil (pair_bytes t))

-- one pair more of a group
pub put-more : (old ts now new : List Triple) (i : ℕ) (t : Triple) → i < length ts → t ≡ nth_pair ts i → now ≡ old ++ take i ts → new ≡ now ++ t ∷ [] → new ≡ old ++ take (i + 1) ts
put-more old ts now new i t h is was grown =
    grown ∙ ap (λ (l : List Triple). l ++ t ∷ []) was ∙ append_assoc old (take i ts) (t ∷ [])
    ∙ ap (λ (l : List Triple). old ++ l) (ap (λ (u : Triple). take i ts ++ u ∷ []) is ∙ sym (take_more ts i no_pair h))

-- ---- groups one behind another

-- no groups, and some and one more
pub groups-none : (gs : List Group) (begin : ℕ) → flat_map pairs_of (slice_range gs begin begin) ≡ []
groups-none gs begin = ap (λ n. flat_map pairs_of (take n (drop begin gs))) (let e : begin - begin ≡ 0 = omega arith in e)

pub groups-more : (gs : List Group) (begin g : ℕ) → begin ≤ g → g < length gs
    → flat_map pairs_of (slice_range gs begin (g + 1)) ≡ flat_map pairs_of (slice_range gs begin g) ++ (nth_group gs g).pairs
groups-more gs begin g order h =
    ap (flat_map pairs_of) more ∙ flat_map-append pairs_of (slice_range gs begin g) (nth_group gs g ∷ []) ∙ ap (λ (l : List Triple). flat_map pairs_of (slice_range gs begin g) ++ l) (append-nil (nth_group gs g).pairs)
  where
    more : slice_range gs begin (g + 1) ≡ slice_range gs begin g ++ nth_group gs g ∷ []
    more =
        ap (λ n. take n (drop begin gs)) (let e : g + 1 - begin ≡ (g - begin) + 1 = omega (arith, order) in e)
        ∙ take_more (drop begin gs) (g - begin) no_group (omega (arith, order, h, length-drop begin gs))
        ∙ ap (λ (x : Group). slice_range gs begin g ++ x ∷ []) (get_or-drop begin gs (g - begin) no_group ∙ ap (λ n. nth_group gs n) (let e : begin + (g - begin) ≡ g = omega (arith, order) in e))

-- ---- the text of a region

pub region-spells : (part : List ℕ → ℕ) (ts : List Triple) (split p : ℕ) (text : List ℕ) → AllByRecursion (λ (t : Triple). t.name.split ≡ split) ts
    → IsText split p (region part ts p) text → SpellsRegion text split p (region part ts p)
region-spells part ts split p text own is = record {
  is = is.is;
  rise = regions_rise part ts p;
  own = all_from_Has (λ (t : Triple). t.name.split ≡ split) (region part ts p)
      (λ t h. Has-all (λ (u : Triple). u.name.split ≡ split) ts t own
      (Has-filter_from (λ (u : Triple). part u.key == p) ts t (sorted-Has_from pair_order (filter (λ (u : Triple). part u.key == p) ts) t h)).0);
  fit = is.fit;
  few = is.few;
}
