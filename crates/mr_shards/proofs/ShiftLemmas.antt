-- Groups that are moved twice, and merged groups that are moved.
use Rattle.std.proofs.Common.{◌≡◌, ℕ, ◌+◌, cond, eqb, List, [], ◌∷◌, ◌++◌, map, refl, sym, ◌∙◌, ap, subst, arith, true, false, Bool, inl, inr}
use Rattle.std.proofs.lemmas.Bool.{cases_eq, eq-eqb, ne_eqb}
use Rattle.std.proofs.lemmas.List.{map-append}
use Rattle.std.specs.Ordering.{match_ordering}
use Rattle.std.specs.declared.cmp.Ordering.{Ordering}
use Rattle.std.specs.declared.cmp.Ordering.TheVariants.{Less, Equal, Greater}
use Rattle.mr_bytes.specs.declared.Value.{Value}
use Rattle.mr_bytes.specs.declared.Value.TheVariants.{One, At}
use Rattle.mr_bytes.specs.Order.{key_order}
use Rattle.mr_shards.specs.Merged.{Group, joined, merged, with_group}
use Rattle.mr_bytes.specs.Lists.{Rises}
use Rattle.mr_shards.proofs.MergedLaws.{keys, merged-rise}
use Rattle.mr_shards.specs.Portions.{MergedAtOnce, Part, Shift, behind, merged_groups, merged_portions, no_shift, shifted_group, shifted_parts, shifted_start, shifted_value}

pub start-twice : (s t : Shift) (file start : ℕ) → shifted_start s (t.files + file) (shifted_start t file start) ≡ shifted_start (behind s t) file start
start-twice s t file start =
    elim (cases_eq file 0) [
      | inl none ↦
          let same : t.files + file ≡ t.files = omega (arith, none) in
          ap (λ b. shifted_start s (t.files + file) (cond b (t.bytes + start) start)) (eq-eqb file 0 none)
          ∙ ap (λ k. shifted_start s k (t.bytes + start)) same ∙ by (eqb t.files 0)
          ∙ ap (λ b. cond b (shifted_start s t.files t.bytes + start) start) (sym (eq-eqb file 0 none))
      | inr some ↦
          ap (λ b. cond b (s.bytes + shifted_start t file start) (shifted_start t file start)) (ne_eqb (t.files + file) 0 (λ e. some (omega (arith, e))))
          ∙ ap (λ b. cond b (t.bytes + start) start) (ne_eqb file 0 some)
          ∙ ap (λ b. cond b (shifted_start s t.files t.bytes + start) start) (sym (ne_eqb file 0 some))
    ]
  where
    by : (b : Bool) → cond b (s.bytes + (t.bytes + start)) (t.bytes + start) ≡ cond b (s.bytes + t.bytes) t.bytes + start
    by true = omega arith
    by false = refl

value-twice : (s t : Shift) (v : Value) → shifted_value s (shifted_value t v) ≡ shifted_value (behind s t) v
value-twice s t One = refl
value-twice s t (At file start) =
    let files : s.files + (t.files + file) ≡ s.files + t.files + file = omega arith in
    let starts = start-twice s t file start in
    λ i. At (files i) (starts i)

values-twice : (s t : Shift) (vs : List Value) → map (shifted_value s) (map (shifted_value t) vs) ≡ map (shifted_value (behind s t)) vs
values-twice s t [] = refl
values-twice s t (v ∷ vs) = let here = value-twice s t v in let rest = values-twice s t vs in λ i. here i ∷ rest i

groups-twice : (s t : Shift) (gs : List Group) → map (shifted_group s) (map (shifted_group t) gs) ≡ map (shifted_group (behind s t)) gs
groups-twice s t [] = refl
groups-twice s t (g ∷ gs) = let here = values-twice s t g.values in let rest = groups-twice s t gs in λ i. record { key = g.key; values = here i } ∷ rest i

with-shifted : (s : Shift) (g : Group) (gs : List Group) → map (shifted_group s) (with_group g gs) ≡ with_group (shifted_group s g) (map (shifted_group s) gs)
with-shifted s g [] = refl
with-shifted s g (h ∷ hs) = by (key_order g.key h.key) (with-shifted s g hs)
  where
    by : (o : Ordering) → map (shifted_group s) (with_group g hs) ≡ with_group (shifted_group s g) (map (shifted_group s) hs)
        → map (shifted_group s) (match_ordering o (g ∷ h ∷ hs) (joined g h ∷ hs) (h ∷ with_group g hs))
        ≡ match_ordering o (shifted_group s g ∷ shifted_group s h ∷ map (shifted_group s) hs) (joined (shifted_group s g) (shifted_group s h) ∷ map (shifted_group s) hs)
        (shifted_group s h ∷ with_group (shifted_group s g) (map (shifted_group s) hs))
    by Less rest = refl
    by Equal rest =
        let both : map (shifted_value s) (g.values ++ h.values) ≡ map (shifted_value s) g.values ++ map (shifted_value s) h.values = map-append (shifted_value s) g.values h.values in
        λ i. record { key = g.key; values = both i } ∷ map (shifted_group s) hs
    by Greater rest = ap (λ l. shifted_group s h ∷ l) rest

merged-shifted : (s : Shift) (gs hs : List Group) → map (shifted_group s) (merged gs hs) ≡ merged (map (shifted_group s) gs) (map (shifted_group s) hs)
merged-shifted s [] hs = refl
merged-shifted s (g ∷ gs) hs = with-shifted s g (merged gs hs) ∙ ap (with_group (shifted_group s g)) (merged-shifted s gs hs)

pub parts-shifted : (s : Shift) (parts : List Part) → map (shifted_group s) (merged_portions parts) ≡ merged_groups (shifted_parts s parts)
parts-shifted s [] = refl
parts-shifted s (a ∷ parts) =
    let t : Shift = a.shift in
    merged-shifted s a.groups (map (shifted_group t) (merged_portions parts))
    ∙ ap (merged (map (shifted_group s) a.groups)) (groups-twice s t (merged_portions parts) ∙ parts-shifted (behind s t) parts)

value-still : (v : Value) → shifted_value no_shift v ≡ v
value-still One = refl
value-still (At file start) =
    let files : 0 + file ≡ file = omega arith in
    let starts = by (eqb file 0) in
    λ i. At (files i) (starts i)
  where
    by : (b : Bool) → cond b (0 + start) start ≡ start
    by true = omega arith
    by false = refl

pub values-still : (vs : List Value) → map (shifted_value no_shift) vs ≡ vs
values-still [] = refl
values-still (v ∷ vs) = let here = value-still v in let rest = values-still vs in λ i. here i ∷ rest i

groups-still : (gs : List Group) → map (shifted_group no_shift) gs ≡ gs
groups-still [] = refl
groups-still (g ∷ gs) = let here = values-still g.values in let rest = groups-still gs in λ i. record { key = g.key; values = here i } ∷ rest i

pub merged_at_once : MergedAtOnce
merged_at_once parts = sym (groups-still (merged_portions parts)) ∙ parts-shifted no_shift parts

-- ---- keys rise as they did

keys-shifted : (s : Shift) (gs : List Group) → keys (map (shifted_group s) gs) ≡ keys gs
keys-shifted s [] = refl
keys-shifted s (g ∷ gs) = ap (λ (l : List (List ℕ)). g.key ∷ l) (keys-shifted s gs)

pub shifted-rise : (s : Shift) (parts : List Part) → Rises key_order (keys (map (shifted_group s) (merged_portions parts)))
shifted-rise s parts = subst (Rises key_order) (sym (keys-shifted s (merged_portions parts))) (portions-rise parts)
  where
    portions-rise : (parts : List Part) → Rises key_order (keys (merged_portions parts))
    portions-rise [] = tt
    portions-rise (a ∷ rest) =
        merged-rise a.groups (map (shifted_group a.shift) (merged_portions rest))
        (subst (Rises key_order) (sym (keys-shifted a.shift (merged_portions rest))) (portions-rise rest))
