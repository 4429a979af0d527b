-- What a reduce task gives: texts, counts and names of groups.
use Rattle.std.proofs.Common.{◌≡◌, ℕ, zero, suc, ◌+◌, ◌<◌, ◌≤◌, Bool, All, List, [], ◌∷◌, ◌++◌, length, get_or, take, drop, map, refl, sym, ap, ◌∙◌, arith, length-append}
use Rattle.std.proofs.lemmas.List.{append-nil, length-map, take_more}
use Rattle.std.proofs.lemmas.List.Elements.{All-map}
use Rattle.std.proofs.lemmas.List.Sums.{count_by-le-length, length-filter}
use Rattle.std.proofs.Math.Seq.{drop-append_seam, take-append_seam}
use Rattle.std.specs.Ordering.{match_ordering}
use Rattle.std.specs.Str.{bytes_eq}
use Rattle.std.specs.declared.cmp.Ordering.{Ordering}
use Rattle.std.specs.declared.cmp.Ordering.TheVariants.{Less, Equal, Greater}
use Rattle.mr_bytes.specs.Lists.{placed, sorted}
use Rattle.mr_bytes.specs.Order.{key_order}
use Rattle.mr_bytes.specs.Pairs.{Triple, pair_order}
use Rattle.std.specs.List.{flat_map}
use Rattle.mr_bytes.specs.declared.Name.{Name}
use Rattle.mr_bytes.specs.declared.Value.{Value}
use Rattle.mr_certform.specs.Flat.{chunks, total}
use Rattle.mr_merge.specs.Reduction.{Collected, IsOfRegions}
use Rattle.mr_merge.proofs.TakingLemmas.{spelled-one}
use Rattle.mr_merge.specs.Merged.{Group, group_of, joined, merged}
use Rattle.mr_spill.specs.Groups.{no_group, nth_group}
use Rattle.mr_sequential.specs.Rules.{Key, Text}
use Rattle.mr_sequential.proofs.SourceLemmas.{flat_map-append}
use Rattle.mr_spill.specs.Column.{names_of}
use Rattle.mr_spill.specs.Lent.{RegionText}
use Rattle.std.specs.Prelude.{slice_index_or, slice_set}
use Rattle.mr_task.specs.Outputs.{flipped, with_other_bit}
use Rattle.mr_task.specs.Values.{CanMerge, group_text}

-- ---- counts with names

-- the names of all groups, cut by how many pairs each has, are those of each
pub chunks-counted : (gs : List Group)
    → chunks (map (λ (g : Group). length g.pairs) gs) (flat_map (λ (g : Group). names_of g.pairs) gs) ≡ map (λ (g : Group). names_of g.pairs) gs
chunks-counted [] = refl
chunks-counted (g ∷ gs) =
    let rest : List Name = flat_map (λ (x : Group). names_of x.pairs) gs in
    let names : List Name = names_of g.pairs in
    let long : length g.pairs ≡ length names = sym (length-map g.pairs (λ (t : Triple). t.name)) in
    ap (λ (n : ℕ). take n (names ++ rest) ∷ chunks (map (λ (x : Group). length x.pairs) gs) (drop n (names ++ rest))) long
    ∙ ap (λ (l : List Name). l ∷ chunks (map (λ (x : Group). length x.pairs) gs) (drop (length names) (names ++ rest))) (take-append_seam names rest)
    ∙ ap (λ (l : List Name). names ∷ chunks (map (λ (x : Group). length x.pairs) gs) l) (drop-append_seam names rest)
    ∙ ap (λ (l : List (List Name)). names ∷ l) (chunks-counted gs)

pub total-counted : (gs : List Group) → total (map (λ (g : Group). length g.pairs) gs) ≡ length (flat_map (λ (g : Group). names_of g.pairs) gs)
total-counted [] = refl
total-counted (g ∷ gs) = omega (
  arith,
  total-counted gs,
  length-append (names_of g.pairs) (flat_map (λ (x : Group). names_of x.pairs) gs),
  length-map g.pairs (λ (t : Triple). t.name),
)

-- ---- one group more

pub texts-more : (text : Key → List Value → Text) (gs : List Group) (g : ℕ) → g < length gs
    → flat_map (group_text text) (take (g + 1) gs) ≡ flat_map (group_text text) (take g gs) ++ group_text text (nth_group gs g)
texts-more text gs g h =
    let one : Group = nth_group gs g in
    ap (flat_map (group_text text)) (take_more gs g no_group h)
    ∙ flat_map-append (group_text text) (take g gs) (one ∷ [])
    ∙ ap (λ (l : Text). flat_map (group_text text) (take g gs) ++ l) (append-nil (group_text text one))

-- ---- how many pairs a group has

placed-length : {X : Type 0} (cmp : X → X → Ordering) (x : X) (ys : List X) → length (placed cmp x ys) ≤ length ys + 1
placed-length cmp x [] = omega arith
placed-length cmp x (y ∷ ys) = by (cmp x y) (placed-length cmp x ys)
  where
    by : (o : Ordering) → length (placed cmp x ys) ≤ length ys + 1 → length (match_ordering o (x ∷ y ∷ ys) (y ∷ ys) (y ∷ placed cmp x ys)) ≤ length (y ∷ ys) + 1
    by Less h = omega arith
    by Equal h = omega arith
    by Greater h = omega (arith, h)

sorted-length : {X : Type 0} (cmp : X → X → Ordering) (xs : List X) → length (sorted cmp xs) ≤ length xs
sorted-length cmp [] = omega arith
sorted-length cmp (x ∷ xs) = omega (arith, placed-length cmp x (sorted cmp xs), sorted-length cmp xs)

-- no group has more pairs than there are
pub groups-few : (pairs : List Triple) (n : ℕ) → length pairs < n → All (λ (g : Group). length g.pairs < n) (merged pairs)
groups-few pairs n h =
    let ts : List Triple = sorted pair_order pairs in
    All-map (λ (g : Group). length g.pairs < n) (group_of ts) (sorted key_order (map (λ (t : Triple). t.key) pairs))
    (λ i d k.
    let own : Triple → Bool = λ t. bytes_eq t.key (get_or (sorted key_order (map (λ (u : Triple). u.key) pairs)) i d) in
    omega (arith, length-filter own ts, count_by-le-length own ts, sorted-length pair_order pairs, h))

-- ---- how many groups there are

-- no more than pairs
pub groups-count : (ps : List Triple) → length (merged ps) ≤ length ps
groups-count ps =
    let keys : List Key = map (λ (t : Triple). t.key) ps in
    omega (arith, length-map (sorted key_order keys) (group_of (sorted pair_order ps)), sorted-length key_order keys, length-map ps (λ (t : Triple). t.key))

-- ---- a bit of a byte

pub flipped-set : (place : ℕ) (bs : List ℕ) (d : ℕ) → place < length bs → slice_set bs place (with_other_bit (slice_index_or bs place d)) ≡ flipped place bs
flipped-set place [] d l = absurd (omega arith)
flipped-set zero (b ∷ bs) d l = refl
flipped-set (suc place) (b ∷ bs) d l = ap (λ (xs : List ℕ). b ∷ xs) (flipped-set place bs d (omega arith))

pub flipped-past : (place : ℕ) (bs : List ℕ) → length bs ≤ place → flipped place bs ≡ bs
flipped-past place [] l = refl
flipped-past zero (b ∷ bs) l = absurd (omega arith)
flipped-past (suc place) (b ∷ bs) l = ap (λ (xs : List ℕ). b ∷ xs) (flipped-past place bs (omega arith))

-- ---- pairs of regions

-- regions that can be merged have just the pairs that were taken of them
pub pairs-of : (regions : List RegionText) (c : Collected) → IsOfRegions regions c → (can : CanMerge c.partition regions) → c.pairs ≡ joined can.values
pairs-of regions c h can = h.is ∙ ap joined (sym (spelled-one c.partition regions h.values can.values h.spelled can.spelled))
